-- `layout_record::write::put_rows` meets its contract. The loop's invariant: the fields of the first rows are written.
-- Assumes nothing.
use Prim.Native.Nat.{◌+◌, ◌*◌}
use mathlib.Core.Path.{◌≡◌}
use Rattle.cluster.specs.Terms.{rows_in}
use Rattle.fields.specs.RecordField.{written}
use Rattle.layout_rows.specs.RecordLayout.{layout_row_fields}
use Rattle.layout_record.proofs.write.put_rows.Given as goal

abbrev pub invariant-loop-p : goal.invariant-loop-p
invariant-loop-p l =
    (l.at ≡ 29 + l.p * (5 + 4 * l.count)) × (l.out ≡ written l.initial.out 29 (layout_row_fields 0 (rows_in l.p l.cells)))
