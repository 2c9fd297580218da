-- Rows in sixteen cells each: rising ids, sixteen at most, are read back from their cells, whatever cells follow.
-- Assumes nothing.
use Prim.Native.Nat.{ℕ, ◌-◌, ◌/◌, ◌%◌, ◌≤◌, ◌<◌}
use mathlib.Core.Path.{◌≡◌, sym, ap, ◌∙◌}
use mathlib.Core.List.{List, [], ◌++◌, append-nil}
use mathlib.Core.Bool.{true}
use native.Mathlib.Omega.{arith}
use lib.ListN.{length, get_or, replicate, length-append, get_or-append}
use Rattle.sums.specs.TermsSums.{tab}
use Rattle.cells.proofs.Cells.{length-tab, get_or_tab, tab_cong}
use Rattle.cluster.specs.Terms.{wide_row_cells, wide_cells, buffer_rows, row, rising, row_of, ids_in, formed}
use Rattle.cell_rows.proofs.AnyWidth.{row-cells}
use Rattle.cell_rows.proofs.CellRows.{rising-ids, rising-formed}
use Rattle.moves.specs.TermsMoves.{wide_rows_in, wide_cells_of}

-- The rows take 4,096 cells.
pub length-wide_cells : (H : ℕ → List ℕ) → length (wide_cells_of H) ≡ wide_cells
unfolding wide_cells_of
length-wide_cells H = length-tab (λ c. get_or (H (c / wide_row_cells)) (c % wide_row_cells) 0) wide_cells

-- Cell c is id c % 16 of row c / 16, or 0 where there is none.
get_or_wide_cells : (H : ℕ → List ℕ) (c : ℕ) → c < wide_cells → get_or (wide_cells_of H) c 0 ≡ get_or (H (c / wide_row_cells)) (c % wide_row_cells) 0
unfolding wide_cells_of
get_or_wide_cells H c h = get_or_tab (λ c. get_or (H (c / wide_row_cells)) (c % wide_row_cells) 0) wide_cells c 0 h

-- There are as many rows as were asked for.
pub length_wide_rows : (n : ℕ) (cells : List ℕ) → length (wide_rows_in n cells) ≡ n
unfolding wide_rows_in
length_wide_rows n cells = length-tab (λ p. ids_in (row_of wide_row_cells cells p)) n

-- Row p of what is read.
pub row_wide_rows : (n : ℕ) (cells : List ℕ) (p : ℕ) → p < n → row (wide_rows_in n cells) p ≡ ids_in (row_of wide_row_cells cells p)
unfolding wide_rows_in
row_wide_rows n cells p h = get_or_tab (λ p. ids_in (row_of wide_row_cells cells p)) n p [] h

module _ (H : ℕ → List ℕ) (rest : List ℕ) where
  module _ (p : ℕ) (h : p < buffer_rows) (few : length (H p) ≤ wide_row_cells) (rises : rising (H p) ≡ true) where
    -- A row that fits is its ids, then zeros.
    own-cells : row_of wide_row_cells (wide_cells_of H ++ rest) p ≡ H p ++ replicate (wide_row_cells - length (H p)) 0
    own-cells =
        row-cells wide_row_cells buffer_rows H (wide_cells_of H ++ rest) (omega (arith, length-append (wide_cells_of H) rest, length-wide_cells H))
        (λ c l. get_or-append (wide_cells_of H) rest 0 c (omega (arith, length-wide_cells H)) ∙ get_or_wide_cells H c l) p h few

    -- Its cells are rising ids, then zeros,
    pub cells-formed : formed (row_of wide_row_cells (wide_cells_of H ++ rest) p) ≡ true
    cells-formed = ap (λ (r : List ℕ). formed r) own-cells ∙ rising-formed 0 (wide_row_cells - length (H p)) (H p) rises

    -- and its ids are read from them.
    cells-ids : ids_in (row_of wide_row_cells (wide_cells_of H ++ rest) p) ≡ H p
    cells-ids = ap (λ (r : List ℕ). ids_in r) own-cells ∙ rising-ids 0 (wide_row_cells - length (H p)) (H p) rises

  -- Rows that fit are read from their cells.
  pub wide_read : (n : ℕ) → n ≤ buffer_rows → ((p : ℕ) → p < n → length (H p) ≤ wide_row_cells) → ((p : ℕ) → p < n → rising (H p) ≡ true)
      → wide_rows_in n (wide_cells_of H ++ rest) ≡ tab H n
  unfolding wide_rows_in
  wide_read n h few rises =
      tab_cong (λ p. ids_in (row_of wide_row_cells (wide_cells_of H ++ rest) p)) H n (λ p l. cells-ids p (omega arith) (few p l) (rises p l))

-- Also where no cells follow.
pub wide_again : (H : ℕ → List ℕ) (n : ℕ) → n ≤ buffer_rows → ((p : ℕ) → p < n → length (H p) ≤ wide_row_cells) → ((p : ℕ) → p < n → rising (H p) ≡ true)
    → wide_rows_in n (wide_cells_of H) ≡ tab H n
wide_again H n h few rises = ap (λ (l : List ℕ). wide_rows_in n l) (sym (append-nil (wide_cells_of H))) ∙ wide_read H [] n h few rises
