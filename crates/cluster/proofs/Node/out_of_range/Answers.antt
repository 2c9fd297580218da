-- `cluster::Node::out_of_range` meets its contract.
-- Assumes nothing.
use mathlib.Core.Path.{sym, ap}
use mathlib.Core.Bool.{Bool, ◌||◌}
use lib.Dec.{ltb}
use borrow.Author.Rules.{rules}
use borrow.Author.Tests.{eq-eqb, ne_eqb}
use Rattle.cluster.specs.Terms.{most_ceiling, node_out_of_range}
use Rattle.cluster.proofs.Node.out_of_range.Goals as goal

pub returns-then-self-eq0 : goal.returns-then-self-eq0
unfolding node_out_of_range
returns-then-self-eq0 c = let n = c.args.self in sym (ap (λ (b : Bool). b || ltb most_ceiling n.ceiling) (eq-eqb n.id 0 (search rules)))

pub returns : goal.returns
unfolding node_out_of_range
returns c = let n = c.args.self in sym (ap (λ (b : Bool). b || ltb most_ceiling n.ceiling) (ne_eqb n.id 0 (search rules)))
