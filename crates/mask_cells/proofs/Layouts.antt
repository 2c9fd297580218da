-- What the model means: written cells are those of the layout of the masks.
-- Assumes nothing.
use Prim.Native.Nat.{ℕ, ◌≤◌, ◌<◌, min}
use mathlib.Core.Path.{◌≡◌, ap}
use mathlib.Core.List.{List, ◌++◌}
use native.Mathlib.Omega.{arith}
use lib.ListN.{length, take, drop, get_or}
use lib.Seq.{take_all}
use borrow.Author.Tests.{le-leb}
use Rattle.sums.specs.TermsSums.{sum_to}
use Rattle.sums.proofs.Sum.{sum_cong}
use Rattle.sets.specs.ModelBits.{bit}
use Rattle.sets.proofs.Laws.{bit_le}
use Rattle.cells.proofs.Cells.{tab_cong}
use Rattle.cluster.specs.Terms.{row_cells, buffer_rows, layout_cells, Topology, partitions, Layout, cells_of}
use Rattle.incidence.specs.ModelIncidence.{ids_where, layout_of}
use Rattle.mask_cells.specs.ModelMaskCells.{rows_where, cells_written}
use Rattle.masks.proofs.Where.{where_length}

-- The layout of masks of at most eight nodes each is the layout of their bits.
pub rows_where-layout : (t : Topology) (masks : List ℕ) → ((p : ℕ) → p < partitions t → sum_to (length t.nodes) (bit (get_or masks p 0)) ≤ row_cells)
    → rows_where t.nodes masks (partitions t) ≡ layout_of t (λ p b. bit (get_or masks p 0) b)
unfolding rows_where layout_of
rows_where-layout t masks few =
    tab_cong (λ p. take row_cells (ids_where t.nodes (bit (get_or masks p 0)))) (λ p. ids_where t.nodes (λ b. bit (get_or masks p 0) b)) (partitions t)
    (λ p l. take_all row_cells (ids_where t.nodes (bit (get_or masks p 0)))
    (omega (
      arith,
      few p l,
      where_length t.nodes (bit (get_or masks p 0)),
      sum_cong (length t.nodes) (λ b. min 1 (bit (get_or masks p 0) b)) (bit (get_or masks p 0)) (λ b k. omega (arith, bit_le (get_or masks p 0) b)),
    )))

-- What is written of such masks are the cells of the layout of their bits, and the cells after a buffer as they were.
pub written-layout : (t : Topology) (masks cells : List ℕ) → partitions t ≤ buffer_rows → partitions t ≤ length masks → layout_cells ≤ length cells
    → ((p : ℕ) → p < partitions t → sum_to (length t.nodes) (bit (get_or masks p 0)) ≤ row_cells)
    → cells_written t.nodes masks (partitions t) cells ≡ cells_of (layout_of t (λ p b. bit (get_or masks p 0) b)) ++ drop layout_cells cells
unfolding cells_written
written-layout t masks cells rows long whole few =
    simp (le-leb (partitions t) buffer_rows rows, le-leb (partitions t) (length masks) long, le-leb layout_cells (length cells) whole)
    (ap (λ (L : Layout). cells_of L ++ drop layout_cells cells) (rows_where-layout t masks few))
