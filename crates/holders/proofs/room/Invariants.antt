-- `holders::room` meets its contract. The loop's invariant: the set has the nodes with room of those that the loop passed. Assumes nothing.
use Prim.Native.Nat.{ℕ}
use mathlib.Core.Path.{◌≡◌}
use mathlib.Core.List.{List}
use lib.Dec.{ltb}
use lib.ListN.{get_or}
use Rattle.sums.specs.TermsSums.{one_if}
use Rattle.exchange.specs.ModelRow.{copies}
use Rattle.sets.specs.ModelBits.{bits_at, mask_of}
use Rattle.holders.proofs.room.Given as goal

-- 1 where node b has room.
abbrev pub free_at : List ℕ → ℕ → List ℕ → ℕ → ℕ
free_at rows P caps b = one_if (ltb (copies P (bits_at rows) b) (get_or caps b 0))

abbrev pub invariant-loop-u : goal.invariant-loop-u
invariant-loop-u l = l.free ≡ mask_of (free_at l.rows l.partitions l.caps) l.u
