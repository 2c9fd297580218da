-- Rows of lent cells: how many ids one has, whether it is blank, and what it means that cells hold a layout. Nobody has to believe this file.
-- Assumes nothing.
use Rattle.std.specs.Prelude.{ℕ, ◌+◌, ◌*◌, ◌≤◌, ◌<◌, ◌≡◌, List, Bool, true, cond, ◌&&◌, ltb, leb, length}
use Rattle.cluster.specs.Terms.{row_cells, buffer_rows, layout_cells, wide_row_cells, Layout, row, rising, row_at, ids_in, blank, formed}

-- The answer for a row that is not rising ids followed by zeros: one more than the widest row has cells.
abbrev pub ill_formed : ℕ
ill_formed = wide_row_cells + 1

-- Whether cells have row p whole, and p is a row of a buffer.
abbrev pub has_row : List ℕ → ℕ → Bool
has_row cells p = ltb p buffer_rows && leb (p * row_cells + row_cells) (length cells)

-- How many ids cells have that are rising ids followed by zeros.
unfoldable pub id_count : List ℕ → ℕ
id_count l = cond (formed l) (length (ids_in l)) ill_formed

-- How many ids row p of the cells has; ill_formed where it is not rising ids followed by zeros, or not there whole.
unfoldable pub row_ids : List ℕ → ℕ → ℕ
row_ids cells p = cond (has_row cells p) (id_count (row_at cells p)) ill_formed

-- Whether row p of the cells is there whole, and all zeros.
unfoldable pub row_is_blank : List ℕ → ℕ → Bool
row_is_blank cells p = has_row cells p && blank (row_at cells p)

-- A layout that cells can hold: no more rows than a buffer has, and in each rising ids, no more than a row has cells.
pub record FitsCells (L : Layout) : Type 0 where
  pub few_rows : length L ≤ buffer_rows
  pub ids : (p : ℕ) → p < length L → rising (row L p) ≡ true
  pub few : (p : ℕ) → p < length L → length (row L p) ≤ row_cells

-- Cells that hold n rows: a whole buffer, its first n rows rising ids followed by zeros, its other rows zero.
pub record HoldsRows (n : ℕ) (cells : List ℕ) : Type 0 where
  pub few_rows : n ≤ buffer_rows
  pub whole : layout_cells ≤ length cells
  pub ids : (p : ℕ) → p < n → formed (row_at cells p) ≡ true
  pub zeros : (p : ℕ) → n ≤ p → p < buffer_rows → blank (row_at cells p) ≡ true
