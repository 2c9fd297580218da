-- `layout_head::table::in_range` meets its contract. The loop's invariant: the numbers are in range where those from here on are.
-- Assumes nothing.
use mathlib.Core.Path.{◌≡◌}
use lib.ListN.{drop}
use Rattle.layout_head.specs.RecordHead.{head_table, all_hold}
use Rattle.layout_head.proofs.table.in_range.Given as goal

abbrev pub invariant-loop-i : goal.invariant-loop-i
invariant-loop-i l = all_hold head_table l.values ≡ all_hold (drop l.i head_table) (drop l.i l.values)
