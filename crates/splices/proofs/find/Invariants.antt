-- `splices::find` meets its contract. The loop's invariant: the counts are those of the nodes passed.
-- Assumes nothing.
use Prim.Native.Nat.{◌≤◌}
use mathlib.Core.Path.{◌≡◌}
use lib.ListN.{take, length}
use Rattle.splices.specs.TermsReplaced.{nodes_below, nodes_with}
use Rattle.splices.proofs.find.Given as goal

abbrev pub invariant-loop-node : goal.invariant-loop-node
invariant-loop-node l =
    (l.below ≤ l.node-index) × (l.with ≤ l.node-index)
    × (l.below ≡ length (nodes_below l.id (take l.node-index l.nodes))) × (l.with ≡ length (nodes_with l.id (take l.node-index l.nodes)))
