-- What showing a row answers through C: the eight cells, copied.
-- Assumes nothing.
use Prim.Native.Nat.{ℕ, ◌+◌, ◌*◌, ◌≤◌, ◌<◌}
use mathlib.Core.Path.{◌≡◌, refl, ap}
use mathlib.Core.Bool.{Bool, true, false, cond}
use mathlib.Core.List.{List, [], ◌++◌}
use native.Mathlib.Omega.{arith}
use lib.Dec.{ltb, leb, eqb}
use lib.ListN.{length, drop, length-drop}
use lib.Seq.{length-take-le}
use borrow.Author.Tests.{lt-ltb, le-ltb, ltb-false, leb-false}
use Rattle.cluster.specs.Terms.{row_cells, buffer_rows, layout_cells, row_at}
use Rattle.show.specs.TermsShow.{shown, show_code}
use Rattle.console_layouts.specs.TermsConsoleLayouts.{row_refusal, row_after}

module _ (cells : List ℕ) (p : ℕ) (row : List ℕ) where
  pub row_short : length row < row_cells → (8 ≡ row_refusal cells p row) × (row ≡ row_after cells p row)
  unfolding row_refusal row_after
  row_short h = let t = lt-ltb (length row) row_cells h in (simp t, simp t)

  -- The row taken from cells that are there, or nothing, by the two tests.
  abbrev Copied : List ℕ → ℕ → Type 0
  Copied l refusal = (length l ≤ row_cells) × (l ++ drop (0 + length l) row ≡ cond (eqb refusal 0) (row_at cells p ++ drop row_cells row) row)

  go : (a : Bool) → ltb (length cells) layout_cells ≡ a → (b : Bool) → leb buffer_rows p ≡ b → Copied (cond a [] (cond b [] (row_at cells p))) (cond a 8 (cond b 4 0))
  go true e b f = (omega arith, refl)
  go false e true f = (omega arith, refl)
  go false e false f =
      let w : layout_cells ≤ length cells = ltb-false (length cells) layout_cells e in
      let q : p < buffer_rows = leb-false buffer_rows p f in
      let n : length (row_at cells p) ≡ row_cells =
      length-take-le row_cells (drop (p * row_cells) cells) (omega (arith, length-drop (p * row_cells) cells)) in
      let e : 0 + length (row_at cells p) ≡ row_cells = omega arith in
      (omega arith, ap (λ (k : ℕ). row_at cells p ++ drop k row) e)

  pub row_copied : Copied (shown cells p) (show_code cells p)
  unfolding shown show_code
  row_copied = go (ltb (length cells) layout_cells) refl (leb buffer_rows p) refl

  pub row_long : row_cells ≤ length row
      → (show_code cells p ≡ row_refusal cells p row) × (shown cells p ++ drop (0 + length (shown cells p)) row ≡ row_after cells p row)
  unfolding row_refusal row_after
  row_long h = let t = le-ltb (length row) row_cells h in (simp t, simp t row_copied.1)

  -- Where it is refused, nothing is shown,
  pub none_shown : (show_code cells p ≡ 0 → ⊥) → shown cells p ≡ []
  unfolding shown show_code
  none_shown = pick (ltb (length cells) layout_cells) (leb buffer_rows p)
    where
      pick : (a b : Bool) → (◌≡◌ {A = ℕ} (cond a 8 (cond b 4 0)) 0 → ⊥) → cond a [] (cond b [] (row_at cells p)) ≡ []
      pick true b h = refl
      pick false true h = refl
      pick false false h = absurd (h refl)

  -- and else the cells of a row.
  pub all_shown : show_code cells p ≡ 0 → length (shown cells p) ≡ row_cells
  unfolding shown show_code
  all_shown = pick (ltb (length cells) layout_cells) refl (leb buffer_rows p) refl
    where
      pick : (a : Bool) → ltb (length cells) layout_cells ≡ a → (b : Bool) → leb buffer_rows p ≡ b → ◌≡◌ {A = ℕ} (cond a 8 (cond b 4 0)) 0
          → length (cond a [] (cond b [] (row_at cells p))) ≡ row_cells
      pick true e b f z = absurd (omega (arith, z))
      pick false e true f z = absurd (omega (arith, z))
      pick false e false f z =
          let w : layout_cells ≤ length cells = ltb-false (length cells) layout_cells e in
          let q : p < buffer_rows = leb-false buffer_rows p f in
          length-take-le row_cells (drop (p * row_cells) cells) (omega (arith, length-drop (p * row_cells) cells))
