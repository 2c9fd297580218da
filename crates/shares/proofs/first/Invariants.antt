-- `shares::first` meets its contract. The loop's invariant: the first b numbers are written, and the room that is left.
-- Assumes nothing.
use Prim.Native.Nat.{◌-◌}
use mathlib.Core.Path.{◌≡◌}
use Rattle.sums.specs.TermsSums.{sum_to}
use Rattle.dealing.specs.ModelDeal.{pour, zoned}
use Rattle.incidence.specs.ModelIncidence.{cell, column}
use Rattle.shares.proofs.first.Given as goal

abbrev pub invariant-loop-b : goal.invariant-loop-b
invariant-loop-b l =
    (l.left ≡ l.room - sum_to l.b (zoned l.partitions (cell l.zones) (cell l.caps))) × (l.copies ≡ column (pour l.room (zoned l.partitions (cell l.zones) (cell l.caps))) l.b)
