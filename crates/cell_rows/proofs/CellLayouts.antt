-- The laws of layouts in cells: a layout that fits is read back as it was written, and cells that hold rows are written back as they were.
-- Assumes nothing.
use Prim.Native.Nat.{ℕ, zero, suc, ◌+◌, ◌-◌, ◌*◌, ◌/◌, ◌%◌, ◌≤◌, ◌<◌}
use mathlib.Core.Path.{◌≡◌, refl, sym, ap, ◌∙◌}
use mathlib.Core.List.{List, [], ◌∷◌, ◌++◌}
use mathlib.Core.Logic.{⊎_elim}
use native.Mathlib.Omega.{arith}
use lib.ListN.{length, take, drop, get_or, replicate, length-append, length-take, get_or-eq_default}
use lib.Seq.{take_at, take-take, take-append-le, length-take-le, get_or-take, ext_get_or}
use Rattle.sums.proofs.Sum.{lt_or_ge}
use Rattle.cells.proofs.Cells.{length-tab, get_or_tab, tab_cong, tab_get_or}
use Rattle.cluster.specs.Terms.{row_cells, buffer_rows, layout_cells, Layout, row, cells_of, row_at, ids_in, blank, formed, rows_in}
use Rattle.cell_rows.specs.ModelRows.{FitsCells, HoldsRows}
use Rattle.cell_rows.proofs.AnyWidth.{length-row_of, get_or_row_of, row-cells}
use Rattle.cell_rows.proofs.CellRows.{zeros-blank, blank-cell, ids-length, formed-cell, rising-ids, rising-formed}

-- ---- the rows of cells

-- Cells that reach past row p have eight cells in it.
pub length-row_at : (cells : List ℕ) (p : ℕ) → p * row_cells + row_cells ≤ length cells → length (row_at cells p) ≡ row_cells
length-row_at cells p h = length-row_of row_cells cells p h

-- A row has at most eight cells, and so at most eight ids.
pub few_ids : (cells : List ℕ) (p : ℕ) → length (ids_in (row_at cells p)) ≤ row_cells
few_ids cells p = omega (arith, ids-length (row_at cells p), length-take row_cells (drop (p * row_cells) cells))

-- Cell j of row p is cell 8 p + j.
pub get_or_row_at : (cells : List ℕ) (p j : ℕ) → j < row_cells → get_or (row_at cells p) j 0 ≡ get_or cells (p * row_cells + j) 0
get_or_row_at cells p j h = get_or_row_of row_cells cells p j h

-- A part that ends before the cut is the same after it.
take_drop_take : {A : Type 0} (n b m : ℕ) (l : List A) → b + n ≤ m → take n (drop b (take m l)) ≡ take n (drop b l)
take_drop_take n zero m l h = take-take n m l (omega arith)
take_drop_take n (suc b) zero l h = absurd (omega arith)
take_drop_take n (suc b) (suc m) [] h = refl
take_drop_take n (suc b) (suc m) (x ∷ xs) h = take_drop_take n b m xs (omega arith)

-- The rows of a buffer do not depend on cells past it.
pub row_at_take : (cells : List ℕ) (p : ℕ) → p < buffer_rows → row_at (take layout_cells cells) p ≡ row_at cells p
row_at_take cells p h = take_drop_take row_cells (p * row_cells) layout_cells cells (omega arith)

-- Cells after a whole buffer change none of its rows.
pub row_at-append : (cells rest : List ℕ) (p : ℕ) → layout_cells ≤ length cells → p < buffer_rows → row_at (cells ++ rest) p ≡ row_at cells p
row_at-append cells rest p w h =
    sym (row_at_take (cells ++ rest) p h)
    ∙ (ap (λ (l : List ℕ). row_at l p) (take-append-le layout_cells cells rest w) ∙ row_at_take cells p h)

-- Cells past the buffer do not matter to its first n rows.
pub rows_in_take : (n : ℕ) (cells : List ℕ) → n ≤ buffer_rows → rows_in n (take layout_cells cells) ≡ rows_in n cells
unfolding rows_in
rows_in_take n cells h =
    tab_cong (λ p. ids_in (row_at (take layout_cells cells) p)) (λ p. ids_in (row_at cells p)) n
    (λ p l. ap (λ (r : List ℕ). ids_in r) (row_at_take cells p (omega arith)))

pub length-rows_in : (n : ℕ) (cells : List ℕ) → length (rows_in n cells) ≡ n
unfolding rows_in
length-rows_in n cells = length-tab (λ p. ids_in (row_at cells p)) n

-- Row p of what is read.
pub row-rows_in : (n : ℕ) (cells : List ℕ) (p : ℕ) → p < n → row (rows_in n cells) p ≡ ids_in (row_at cells p)
unfolding rows_in
row-rows_in n cells p h = get_or_tab (λ p. ids_in (row_at cells p)) n p [] h

-- ---- the cells of a layout

-- A layout takes 2,048 cells.
pub length-cells_of : (L : Layout) → length (cells_of L) ≡ layout_cells
unfolding cells_of
length-cells_of L = length-tab (λ c. get_or (row L (c / row_cells)) (c % row_cells) 0) layout_cells

-- Cell c of a layout is id c % 8 of row c / 8, or 0 where there is none.
pub get_or_cells_of : (L : Layout) (c : ℕ) → c < layout_cells → get_or (cells_of L) c 0 ≡ get_or (row L (c / row_cells)) (c % row_cells) 0
unfolding cells_of
get_or_cells_of L c h = get_or_tab (λ c. get_or (row L (c / row_cells)) (c % row_cells) 0) layout_cells c 0 h

-- Row p of the cells of a layout is row p, then zeros.
pub row_at-cells_of : (L : Layout) (p : ℕ) → p < buffer_rows → length (row L p) ≤ row_cells
    → row_at (cells_of L) p ≡ row L p ++ replicate (row_cells - length (row L p)) 0
row_at-cells_of L p h k = row-cells row_cells buffer_rows (row L) (cells_of L) (omega (arith, length-cells_of L)) (get_or_cells_of L) p h k

-- ---- written, then read

-- A layout that fits is read back from its cells.
pub rows_in-cells_of : (L : Layout) → FitsCells L → rows_in (length L) (cells_of L) ≡ L
unfolding rows_in
rows_in-cells_of L f =
    tab_cong (λ p. ids_in (row_at (cells_of L) p)) (λ p. row L p) (length L)
    (λ p l. ap (λ (r : List ℕ). ids_in r) (row_at-cells_of L p (omega arith) (f.few p l))
    ∙ rising-ids 0 (row_cells - length (row L p)) (row L p) (f.ids p l))
    ∙ tab_get_or L []

-- Also where other cells stand after them.
pub rows_in-written : (L : Layout) (rest : List ℕ) → FitsCells L → rows_in (length L) (cells_of L ++ rest) ≡ L
rows_in-written L rest f =
    sym (rows_in_take (length L) (cells_of L ++ rest) f.few_rows)
    ∙ (ap (λ (l : List ℕ). rows_in (length L) l) (take_at (cells_of L) rest layout_cells (length-cells_of L)) ∙ rows_in-cells_of L f)

-- The cells of a layout that fits hold its rows.
pub holds-cells_of : (L : Layout) → FitsCells L → HoldsRows (length L) (cells_of L)
holds-cells_of L f = record {
  few_rows = f.few_rows;
  whole = omega (arith, length-cells_of L);
  ids = λ p l.
      ap (λ (r : List ℕ). formed r) (row_at-cells_of L p (omega arith) (f.few p l))
      ∙ rising-formed 0 (row_cells - length (row L p)) (row L p) (f.ids p l);
  zeros = λ p l h.
      let e : row L p ≡ [] = get_or-eq_default L [] l in
      ap (λ (r : List ℕ). blank r)
      (row_at-cells_of L p h (omega (arith, ap length e)) ∙ ap (λ (r : List ℕ). r ++ replicate (row_cells - length r) 0) e)
      ∙ zeros-blank row_cells;
}

-- Also where other cells stand after them.
pub holds-append : (n : ℕ) (cells rest : List ℕ) → HoldsRows n cells → HoldsRows n (cells ++ rest)
holds-append n cells rest h = record {
  few_rows = h.few_rows;
  whole = omega (arith, length-append cells rest);
  ids = λ p l. ap (λ (r : List ℕ). formed r) (row_at-append cells rest p h.whole (omega arith)) ∙ h.ids p l;
  zeros = λ p l k. ap (λ (r : List ℕ). blank r) (row_at-append cells rest p h.whole k) ∙ h.zeros p l k;
}

-- ---- read, then written

-- Id j of a row that is read is cell j of the row, also where it is past what is read.
pub id-rows_in : (n : ℕ) (cells : List ℕ) (p j : ℕ) → HoldsRows n cells → p < buffer_rows
    → get_or (row (rows_in n cells) p) j 0 ≡ get_or (row_at cells p) j 0
id-rows_in n cells p j h l =
    ⊎_elim (λ m. ap (λ (r : List ℕ). get_or r j 0) (row-rows_in n cells p m) ∙ formed-cell 0 (row_at cells p) j (h.ids p m))
    (λ m. ap (λ (r : List ℕ). get_or r j 0) (get_or-eq_default (rows_in n cells) [] (omega (arith, length-rows_in n cells)))
    ∙ sym (blank-cell (row_at cells p) j (h.zeros p m l)))
    (lt_or_ge p n)

-- Cells that hold rows are written back as they were.
pub cells_of-rows_in : (n : ℕ) (cells : List ℕ) → HoldsRows n cells → cells_of (rows_in n cells) ≡ take layout_cells cells
cells_of-rows_in n cells h =
    ext_get_or 0 (cells_of (rows_in n cells)) (take layout_cells cells)
    (length-cells_of (rows_in n cells) ∙ sym (length-take-le layout_cells cells h.whole))
    (λ c l. let k : c < layout_cells = omega (arith, length-cells_of (rows_in n cells)) in
    let e : c / row_cells * row_cells + c % row_cells ≡ c = omega arith in
    get_or_cells_of (rows_in n cells) c k
    ∙ (id-rows_in n cells (c / row_cells) (c % row_cells) h (omega arith)
    ∙ (get_or_row_at cells (c / row_cells) (c % row_cells) (omega arith)
    ∙ (ap (λ (i : ℕ). get_or cells i 0) e ∙ sym (get_or-take layout_cells cells c 0 k)))))
