-- `layout_record::rows::read_rows` meets its contract: before each field, the rows before it are read (`RowsTo.antt`).
-- Assumes nothing.
use mathlib.Core.Path.{◌≡◌}
use Rattle.layout_record.proofs.RowsTo.{RowsTo}
use Rattle.layout_record.proofs.rows.read_rows.Given as goal

abbrev pub invariant-loop-next : goal.invariant-loop-next
invariant-loop-next l = record {
  source : l.r.src.now ≡ l.bytes;
  read : RowsTo l.r.src.now l.from l.numbers l.partitions l.cells l.next l.r.at;
}
