-- `layout_record::write::put_row` meets its contract: the head of its field, its partition, its ids.
-- Assumes nothing.
use native.Mathlib.Omega.{arith}
use Rattle.layout_record.proofs.PutRows.{put-cells}
use Rattle.layout_record.proofs.write.put_row.Goals as goal

pub returns : goal.returns
returns c =
    let a = c.args in
    put-cells a.out.now _ _ _ a.cells.now a.at a.p a.count (omega arith) (omega arith) (omega arith) c.put_head.ensures c.put_pair.ensures
    c.put_ids.ensures
