-- `cell_rows::count_ids` meets its contract. The loop's invariant: the row's answer is that of the scan of the cells that are left.
-- Assumes nothing.
use Prim.Native.Nat.{◌≤◌, ◌-◌}
use mathlib.Core.Path.{◌≡◌}
use lib.ListN.{take, drop}
use Rattle.cell_rows.specs.ModelRows.{id_count}
use Rattle.cell_rows.proofs.RowScans.{onward}
use Rattle.cell_rows.proofs.count_ids.Given as goal

abbrev pub invariant-loop-i : goal.invariant-loop-i
invariant-loop-i l =
    (l.count ≤ l.i - l.from)
    × (id_count (take (l.to - l.from) (drop l.from l.cells)) ≡ onward l.last l.count (take (l.to - l.i) (drop l.i l.cells)))
