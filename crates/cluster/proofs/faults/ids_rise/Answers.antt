-- `cluster::faults::ids_rise` meets its contract. The loop's invariant: the used ids rise exactly where those that are still before the
-- scan rise from the last one.
use borrow.Author.Rules.{rules}
use native.Mathlib.Omega.{arith}
use mathlib.Core.Path.{◌≡◌, sym, ap, ◌∙◌}
use mathlib.Core.List.{List}
use lib.ListN.{length}
use Rattle.cells.proofs.Cells.{rest_all, rest-none, length_of_map}
use Rattle.cluster.specs.Terms.{most_nodes, ids_of, rising, rising_from}
use Rattle.cluster.specs.declared.Node.{Node}
use Rattle.cluster.proofs.Scans.{falls_here, rises_here}
use Rattle.cluster.proofs.faults.ids_rise.Goals as goal

pub loop-i-init : goal.loop-i-init
loop-i-init c = ap (λ (r : List Node). rising (ids_of r)) (rest_all c.args.c.nodes c.args.c.count)

pub returns-then-id-last : goal.returns-then-id-last
returns-then-id-last c =
    let long : length c.args.c.nodes ≡ most_nodes = search length_of_map in
    sym
    (c.loop-i.invariant
    ∙ falls_here c.args.c.nodes c.args.c.count c.loop-i.i (search rules) (omega (arith, long)) c.loop-i.last (search rules))

pub loop-i-preserved : goal.loop-i-preserved
loop-i-preserved c =
    let long : length c.args.c.nodes ≡ most_nodes = search length_of_map in
    c.loop-i.invariant
    ∙ rises_here c.args.c.nodes c.args.c.count c.loop-i.i (search rules) (omega (arith, long)) c.loop-i.last (search rules)

pub returns : goal.returns
unfolding rising_from ids_of
returns c =
    sym
    (c.loop-i.invariant
    ∙ ap (λ (r : List Node). rising_from c.loop-i.last (ids_of r)) (rest-none c.args.c.nodes c.args.c.count c.loop-i.i (search rules)))
