-- A layout with one row more, and its cells.
-- Assumes nothing.
use Prim.Native.Nat.{ℕ, zero, suc, ◌+◌, ◌-◌, ◌*◌, ◌/◌, ◌%◌, ◌≤◌, ◌<◌}
use mathlib.Core.Path.{◌≡◌, refl, sym, ap, ap₂, ◌∙◌}
use mathlib.Core.List.{List, [], ◌∷◌, ◌++◌}
use mathlib.Core.Logic.{⊎_elim}
use native.Mathlib.Omega.{arith}
use lib.ListN.{length, get_or, replicate, length-append, length-replicate, get_or-append, get_or-eq_default}
use lib.Seq.{get_or_at, ext_get_or}
use Rattle.sums.proofs.Sum.{lt_or_ge}
use Rattle.cells.specs.ModelCells.{put}
use Rattle.cells.proofs.Cells.{length-put, get_or_put_in, get_or_put-out}
use Rattle.cluster.specs.Terms.{row_cells, buffer_rows, layout_cells, Layout, row, cells_of}
use Rattle.cell_rows.proofs.CellLayouts.{length-cells_of, get_or_cells_of}

-- The rows of a layout with one more.
module _ (L : Layout) (r : List ℕ) where
  pub length_more : length (L ++ (r ∷ [])) ≡ length L + 1
  length_more = length-append L (r ∷ [])

  pub row_last : row (L ++ (r ∷ [])) (length L) ≡ r
  row_last = get_or_at L r [] [] (length L) refl

  pub row_before : (q : ℕ) → q < length L → row (L ++ (r ∷ [])) q ≡ row L q
  row_before q h = get_or-append L (r ∷ []) [] q h

  pub row-after : (q : ℕ) → length L < q → row (L ++ (r ∷ [])) q ≡ []
  row-after q h = get_or-eq_default (L ++ (r ∷ [])) [] (omega (arith, length_more))

  -- Its cells: those of the rows before, with the ids of the row in the cells of its partition.
  pub cells-more : (f : ℕ → ℕ) → length L < buffer_rows → length r ≤ row_cells → ((j : ℕ) → j < length r → get_or r j 0 ≡ f j)
      → put (length L * row_cells) f (length r) (cells_of L) ≡ cells_of (L ++ (r ∷ []))
  cells-more f inside few same =
      ext_get_or 0 (put (length L * row_cells) f (length r) (cells_of L)) (cells_of (L ++ (r ∷ [])))
      (length-put (length L * row_cells) f (length r) (cells_of L) ∙ (length-cells_of L ∙ sym (length-cells_of (L ++ (r ∷ [])))))
      (λ c l. let h : c < layout_cells = omega (arith, length-put (length L * row_cells) f (length r) (cells_of L), length-cells_of L) in
      cell c h ∙ sym (get_or_cells_of (L ++ (r ∷ [])) c h))
    where
      -- A cell that is not written.
      kept : (c : ℕ) → c < layout_cells → ((j : ℕ) → j < length r → c ≡ length L * row_cells + j → ⊥)
          → get_or (put (length L * row_cells) f (length r) (cells_of L)) c 0 ≡ get_or (row L (c / row_cells)) (c % row_cells) 0
      kept c h out = get_or_put-out (length L * row_cells) f (length r) (cells_of L) c 0 out ∙ get_or_cells_of L c h

      cell : (c : ℕ) → c < layout_cells
          → get_or (put (length L * row_cells) f (length r) (cells_of L)) c 0 ≡ get_or (row (L ++ (r ∷ [])) (c / row_cells)) (c % row_cells) 0
      cell c h =
          ⊎_elim
          (λ low. let q : c / row_cells < length L = omega arith in
          kept c h (λ j k e. omega arith) ∙ ap (λ (x : List ℕ). get_or x (c % row_cells) 0) (sym (row_before (c / row_cells) q)))
          (λ from. ⊎_elim
          (λ written. let e : c ≡ length L * row_cells + (c - length L * row_cells) = omega arith in
          let d : length L ≡ c / row_cells = omega arith in
          let n : c - length L * row_cells ≡ c % row_cells = omega arith in
          ap (λ (k : ℕ). get_or (put (length L * row_cells) f (length r) (cells_of L)) k 0) e
          ∙ (get_or_put_in (length L * row_cells) f (length r) (cells_of L) (c - length L * row_cells) 0 (omega arith) (omega (arith, length-cells_of L))
          ∙ (sym (same (c - length L * row_cells) (omega arith))
          ∙ (ap (λ (x : List ℕ). get_or x (c - length L * row_cells) 0) (sym row_last)
          ∙ ap₂ (λ (x y : ℕ). get_or (row (L ++ (r ∷ [])) x) y 0) d n))))
          (λ past. ⊎_elim
          (λ here. let d : length L ≡ c / row_cells = omega arith in
          kept c h (λ j k e. omega arith)
          ∙ (ap (λ (x : List ℕ). get_or x (c % row_cells) 0) (get_or-eq_default L [] {n = c / row_cells} (omega arith))
          ∙ (sym (get_or-eq_default r 0 {n = c % row_cells} (omega arith))
          ∙ (ap (λ (x : List ℕ). get_or x (c % row_cells) 0) (sym row_last)
          ∙ ap (λ (x : ℕ). get_or (row (L ++ (r ∷ [])) x) (c % row_cells) 0) d))))
          (λ after. let q : length L < c / row_cells = omega arith in
          kept c h (λ j k e. omega arith)
          ∙ (ap (λ (x : List ℕ). get_or x (c % row_cells) 0) (get_or-eq_default L [] {n = c / row_cells} (omega arith))
          ∙ ap (λ (x : List ℕ). get_or x (c % row_cells) 0) (sym (row-after (c / row_cells) q))))
          (lt_or_ge c (length L * row_cells + row_cells)))
          (lt_or_ge c (length L * row_cells + length r)))
          (lt_or_ge c (length L * row_cells))

-- The cells of no rows are zero.
pub cells-none : cells_of [] ≡ replicate {A = ℕ} layout_cells 0
cells-none =
    ext_get_or 0 (cells_of []) (replicate layout_cells 0) (length-cells_of [] ∙ sym (length-replicate {A = ℕ} layout_cells 0))
    (λ c l. get_or_cells_of [] c (omega (arith, length-cells_of [])) ∙ sym (zero_at layout_cells c))
  where
    zero_at : (n i : ℕ) → get_or {A = ℕ} (replicate n 0) i 0 ≡ 0
    zero_at zero i = refl
    zero_at (suc n) zero = refl
    zero_at (suc n) (suc i) = zero_at n i
