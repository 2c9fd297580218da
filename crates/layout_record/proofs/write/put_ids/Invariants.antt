-- `layout_record::write::put_ids` meets its contract. The loop's invariant: the first ids are written.
-- Assumes nothing.
use mathlib.Core.Path.{◌≡◌}
use lib.ListN.{take, drop}
use Rattle.fields.specs.RecordField.{written, id_bytes}
use Rattle.layout_record.proofs.write.put_ids.Given as goal

abbrev pub invariant-loop-j : goal.invariant-loop-j
invariant-loop-j l = l.out ≡ written l.initial.out l.at (id_bytes (take l.j (drop l.from l.cells)))
