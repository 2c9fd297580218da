-- `splices::find` meets its contract. The loop's invariant: the counts are those of the nodes passed.
use borrow.Author.Rules.{rules}
use native.Mathlib.Omega.{arith}
use mathlib.Core.Path.{◌≡◌, ap, ◌∙◌}
use mathlib.Core.List.{List, []}
use lib.ListN.{take, length}
use lib.Seq.{take_all}
use Rattle.cluster.specs.declared.Node.{Node}
use Rattle.splices.specs.TermsReplaced.{nodes_below, nodes_with}
use Rattle.splices.proofs.Places.{below-begin, below-counted, below_passed, with-begin, with-counted, with_passed}
use Rattle.splices.proofs.find.Goals as goal

pub loop-node-init : goal.loop-node-init
loop-node-init c = (search rules, search rules, below-begin c.args.id [], with-begin c.args.id [])

pub loop-node-preserved : goal.loop-node-preserved
loop-node-preserved c = grind (arith, below-counted, below_passed, with-counted, with_passed)

pub returns : goal.returns
returns c =
    let a = c.args in
    let e : take c.loop-node.node-index (take a.c.count a.c.nodes) ≡ take a.c.count a.c.nodes = take_all _ _ (omega arith) in (
      c.loop-node.invariant.2 ∙ ap (λ (l : List Node). length (nodes_below a.id l)) e,
      c.loop-node.invariant.3 ∙ ap (λ (l : List Node). length (nodes_with a.id l)) e,
    )
