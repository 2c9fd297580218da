-- `copies::count_row` meets its contract. The loop's invariant: what each node comes to, by what it has and what is left to be met, stays as it was.
-- Assumes nothing.
use Prim.Native.Nat.{ℕ, ◌<◌}
use mathlib.Core.Path.{◌≡◌}
use lib.ListN.{length}
use Rattle.cluster.specs.Terms.{most_nodes}
use Rattle.copies.proofs.CopyWalk.{comes_to}
use Rattle.copies.proofs.count_row.Given as goal

abbrev pub invariant-loop-b : goal.invariant-loop-b
invariant-loop-b l = (length l.counts ≡ most_nodes) × ((b : ℕ) → b < most_nodes → comes_to l.counts l.b-iterator.left b ≡ comes_to l.initial.counts l.nodes b)
