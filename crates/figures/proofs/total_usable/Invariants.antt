-- `figures::total_usable` meets its contract. The loop's invariant: the usable capacities of the nodes passed are added up.
-- Assumes nothing.
use Prim.Native.Nat.{◌^◌, ◌≤◌, ◌*◌}
use mathlib.Core.Path.{◌≡◌}
use Rattle.sums.specs.TermsSums.{sum_to}
use Rattle.cluster.specs.Terms.{topology, node_at, usable}
use Rattle.figures.proofs.total_usable.Given as goal

abbrev pub invariant-loop-node : goal.invariant-loop-node
invariant-loop-node l = (l.total ≤ 2 ^ 32 * l.node-index) × (l.total ≡ sum_to l.node-index (λ i. usable (node_at (topology l.fn.c) i)))
