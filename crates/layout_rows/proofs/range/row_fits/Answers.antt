-- `layout_rows::range::row_fits_lem` meets its contract.
-- Assumes nothing.
use native.Mathlib.Omega.{arith}
use mathlib.Core.Path.{◌∙◌}
use Rattle.cell_rows.proofs.RowScans.{same-told}
use Rattle.layout_rows.proofs.RowFaults.{fits-ids, fits-blank}
use Rattle.layout_rows.proofs.range.row_fits.Goals as goal

pub returns-then-p-partitions : goal.returns-then-p-partitions
returns-then-p-partitions c =
    let a = c.args in
    c.eq.ensures
    ∙ (same-told c.row_ids.result _ a.replication c.row_ids.ensures.0 (omega arith)
    ∙ fits-ids a.cells.now a.partitions a.replication a.p (omega arith) (omega arith) (omega arith) (omega arith))

pub returns : goal.returns
returns c =
    let a = c.args in
    c.row_is_blank.ensures ∙ fits-blank a.cells.now a.partitions a.replication a.p (omega arith) (omega arith) (omega arith)
