-- `head_writing::put_numbers` meets its contract. The loop's invariant: with the fields from here on the fields before the rows are written.
-- Assumes nothing.
use Prim.Native.Nat.{◌+◌}
use mathlib.Core.Path.{◌≡◌}
use lib.ListN.{length, drop}
use Rattle.fields.specs.RecordField.{written}
use Rattle.layout_head.specs.RecordHead.{head_table, number_fields}
use Rattle.head_writing.proofs.put_numbers.Given as goal

abbrev pub invariant-loop-i : goal.invariant-loop-i
invariant-loop-i l =
    (l.at + length (number_fields (drop l.i head_table) (drop l.i l.values)) ≡ 29)
    × (written l.out l.at (number_fields (drop l.i head_table) (drop l.i l.values)) ≡ written l.initial.out 0 (number_fields head_table l.values))
