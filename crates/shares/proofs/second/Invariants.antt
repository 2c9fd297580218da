-- `shares::second` meets its contract. The loop's invariant: the first b numbers are written, and the room that is left.
-- Assumes nothing.
use Prim.Native.Nat.{◌+◌, ◌-◌}
use mathlib.Core.Path.{◌≡◌}
use Rattle.sums.specs.TermsSums.{sum_to}
use Rattle.dealing.specs.ModelDeal.{pour}
use Rattle.incidence.specs.ModelIncidence.{cell, column}
use Rattle.shares.proofs.second.Given as goal

abbrev pub invariant-loop-b : goal.invariant-loop-b
invariant-loop-b l = (l.left ≡ l.room - sum_to l.b (λ x. cell l.caps x - cell l.first x)) × (l.copies ≡ column (λ i. cell l.first i + pour l.room (λ x. cell l.caps x - cell l.first x) i) l.b)
