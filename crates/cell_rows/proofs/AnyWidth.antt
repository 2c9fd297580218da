-- Rows of any width in cells, one after the other: which cells are those of a row, and that a row which fits is its ids, then zeros.
-- Assumes nothing.
use Prim.Native.Nat.{ℕ, ◌+◌, ◌-◌, ◌*◌, ◌/◌, ◌%◌, ◌≤◌, ◌<◌}
use mathlib.Core.Path.{◌≡◌, ap, ap₂, sym, ◌∙◌}
use mathlib.Core.List.{List, ◌++◌}
use native.Mathlib.Nat.{add-zero, suc-mul, mul-le-mul_right, mul-add-div_right, div-eq_of_lt, div-add-mod'}
use native.Mathlib.Omega.{arith}
use lib.ListN.{length, drop, get_or, replicate, length-append, length-replicate, length-drop}
use lib.Seq.{length-take-le, get_or-take, get_or-drop, ext_get_or}
use Rattle.cluster.specs.Terms.{row_of}
use Rattle.cell_rows.proofs.CellRows.{get_or_zeros}

module _ (w : ℕ) where
  -- Cells that reach past row p have all its cells.
  pub length-row_of : (cells : List ℕ) (p : ℕ) → p * w + w ≤ length cells → length (row_of w cells p) ≡ w
  length-row_of cells p h = length-take-le w (drop (p * w) cells) (omega (arith, length-drop (p * w) cells))

  -- Cell j of row p is cell w p + j.
  pub get_or_row_of : (cells : List ℕ) (p j : ℕ) → j < w → get_or (row_of w cells p) j 0 ≡ get_or cells (p * w + j) 0
  get_or_row_of cells p j h = get_or-take w (drop (p * w) cells) j 0 h ∙ get_or-drop (p * w) cells j 0

  -- Cells of which the first n rows are those of H.
  module _ (n : ℕ) (H : ℕ → List ℕ) (cells : List ℕ) (long : n * w ≤ length cells)
      (same : (c : ℕ) → c < n * w → get_or cells c 0 ≡ get_or (H (c / w)) (c % w) 0) (p : ℕ) (own : p < n) where
    -- The last cell of row p is among them.
    ends : p * w + w ≤ n * w
    ends = omega (arith, mul-le-mul_right w own, suc-mul p w)

    -- Cell j of row p is id j of row p, or 0 where there is none.
    pub row-cell : (j : ℕ) → j < w → get_or (row_of w cells p) j 0 ≡ get_or (H p) j 0
    row-cell j h =
        let d : (p * w + j) / w ≡ p = mul-add-div_right (omega arith) p j ∙ (ap (λ (x : ℕ). p + x) (div-eq_of_lt h) ∙ add-zero p) in
        let m : (p * w + j) % w ≡ j = omega (arith, div-add-mod' (p * w + j) w, ap (λ (x : ℕ). x * w) d) in
        get_or_row_of cells p j h ∙ (same (p * w + j) (omega (arith, ends)) ∙ ap₂ (λ (q i : ℕ). get_or (H q) i 0) d m)

    -- A row that fits is its ids, then zeros.
    pub row-cells : length (H p) ≤ w → row_of w cells p ≡ H p ++ replicate (w - length (H p)) 0
    row-cells few =
        let whole : length (row_of w cells p) ≡ w = length-row_of cells p (omega (arith, ends)) in
        ext_get_or 0 (row_of w cells p) (H p ++ replicate (w - length (H p)) 0)
        (omega (arith, whole, length-append (H p) (replicate (w - length (H p)) 0), length-replicate {A = ℕ} (w - length (H p)) 0))
        (λ j l. row-cell j (omega (arith, whole)) ∙ sym (get_or_zeros (H p) (w - length (H p)) j))
