-- `mask_cells::write_cells` meets its contract. The loop's invariant: the cells of the rows passed are those of the layout.
-- Assumes nothing.
use Prim.Native.Nat.{◌*◌, ◌/◌, ◌%◌}
use mathlib.Core.Path.{◌≡◌}
use mathlib.Core.List.{List, ◌++◌}
use lib.ListN.{drop, get_or}
use Rattle.sums.specs.TermsSums.{tab}
use Rattle.cluster.specs.Terms.{row_cells, row, ids_of}
use Rattle.cluster.specs.declared.Node.{Node}
use Rattle.mask_cells.specs.ModelMaskCells.{rows_where}
use Rattle.mask_cells.proofs.write_cells.Given as goal

abbrev pub invariant-loop-p : goal.invariant-loop-p
invariant-loop-p l =
    (ns : List Node) → l.ids ≡ ids_of ns
    → l.cells ≡ tab (λ i. get_or (row (rows_where ns l.masks l.partitions) (i / row_cells)) (i % row_cells) 0) (l.p * row_cells) ++ drop (l.p * row_cells) l.initial.cells
