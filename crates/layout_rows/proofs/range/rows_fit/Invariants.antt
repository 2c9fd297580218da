-- `layout_rows::range::rows_fit` meets its contract. The loop's invariant: each row passed fits.
-- Assumes nothing.
use mathlib.Core.Path.{◌≡◌}
use mathlib.Core.Bool.{true}
use Rattle.sums.specs.TermsSums.{every_to}
use Rattle.layout_rows.specs.RecordLayoutFaults.{row_fits}
use Rattle.layout_rows.proofs.range.rows_fit.Given as goal

abbrev pub invariant-loop-p : goal.invariant-loop-p
invariant-loop-p l = every_to l.p (row_fits l.cells l.partitions l.replication) ≡ true
