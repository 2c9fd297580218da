use Prim.Native.Nat.{◌+◌, ◌-◌, ◌*◌, ◌≤◌}
use mathlib.Core.Path.{◌≡◌}
use lib.ListN.{take, drop}
use Rattle.cluster.specs.Terms.{row_cells}
use Rattle.totals.specs.ModelTotals.{count_in}
use Rattle.totals.proofs.copies_of.Given as goal

abbrev pub invariant-loop-cell : goal.invariant-loop-cell
invariant-loop-cell l =
    (l.copies ≤ l.cell-index) × (count_in l.id (take (l.partitions * row_cells) l.cells) ≡ l.copies + count_in l.id (take (l.partitions * row_cells - l.cell-index) (drop l.cell-index l.cells)))
