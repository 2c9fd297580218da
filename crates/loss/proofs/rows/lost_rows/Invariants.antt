-- `loss::rows::lost_rows` meets its contract.
-- Assumes nothing.
use Prim.Native.Nat.{◌≤◌}
use mathlib.Core.Path.{◌≡◌}
use Rattle.sums.specs.TermsSums.{sum_to}
use Rattle.loss.specs.ModelSearch.{row_lost}
use Rattle.loss.proofs.rows.lost_rows.Given as goal

abbrev pub invariant-loop-p : goal.invariant-loop-p
invariant-loop-p l = (l.lost ≤ l.p) × (l.lost ≡ sum_to l.p (row_lost l.rows l.set))
