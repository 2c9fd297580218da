-- `mask_cells::write_cells` meets its contract. The loop's invariant: the cells of the rows passed are those of the layout.
use borrow.Author.Rules.{rules}
use native.Mathlib.Omega.{arith}
use Prim.Native.Nat.{ℕ, ◌*◌, ◌/◌, ◌%◌}
use mathlib.Core.Path.{◌≡◌, ap, ◌∙◌}
use mathlib.Core.List.{◌++◌}
use lib.ListN.{length, drop, get_or}
use borrow.Author.Tests.{le-leb, lt-leb}
use Rattle.sums.specs.TermsSums.{tab}
use Rattle.cells.proofs.Cells.{tab-none}
use Rattle.cluster.specs.Terms.{row_cells, buffer_rows, layout_cells, topology, row, cells_of}
use Rattle.mask_cells.specs.ModelMaskCells.{rows_where, cells_written}
use Rattle.masks.proofs.Where.{ids_used}
use Rattle.mask_cells.proofs.Written.{row_written}
use Rattle.mask_cells.proofs.write_cells.Goals as goal

pub returns-then-partitions-gt-PARTITIONS : goal.returns-then-partitions-gt-PARTITIONS
unfolding cells_written
returns-then-partitions-gt-PARTITIONS c =
    let a = c.args in
    simp (lt-leb a.partitions buffer_rows c.if-partitions-gt-PARTITIONS.true)

pub returns-then-masks-partitions : goal.returns-then-masks-partitions
unfolding cells_written
returns-then-masks-partitions c =
    let a = c.args in
    simp (le-leb a.partitions buffer_rows (search rules), lt-leb a.partitions (length a.masks.now) (search rules))

pub returns-then-cells-lt-CELLS : goal.returns-then-cells-lt-CELLS
unfolding cells_written
returns-then-cells-lt-CELLS c =
    let a = c.args in
    simp (le-leb a.partitions buffer_rows (search rules), le-leb a.partitions (length a.masks.now) (search rules), lt-leb layout_cells (length a.cells.now) (search rules))

pub loop-p-init : goal.loop-p-init
loop-p-init c = λ ns e. tab-none _ _

pub loop-p-preserved : goal.loop-p-preserved
loop-p-preserved c =
    let a = c.args in
    let mask = c.mask_at-mask in
    λ ns e. c.write_row.ensures ns e
    ∙ row_written ns a.masks.now a.partitions c.loop-p.p mask.result a.cells.now c.loop-p.cells (omega arith) mask.ensures (c.loop-p.invariant ns e)

pub returns : goal.returns
unfolding cells_written cells_of
returns c =
    let a = c.args in
    let e : c.loop-p.p ≡ buffer_rows = omega arith in
    simp (le-leb a.partitions buffer_rows (search rules), le-leb a.partitions (length a.masks.now) (search rules), le-leb layout_cells (length a.cells.now) (search rules))
    (c.loop-p.invariant (topology a.c).nodes (ids_used (topology a.c).nodes _ _ c.used-n.ensures.1 c.used-n.ensures.0 c.ids_of-all.ensures)
    ∙ ap (λ (n : ℕ). tab (λ i. get_or (row (rows_where (topology a.c).nodes a.masks.now a.partitions) (i / row_cells)) (i % row_cells) 0) (n * row_cells) ++ drop (n * row_cells) a.cells.now) e)
