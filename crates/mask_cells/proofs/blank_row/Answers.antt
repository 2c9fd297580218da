-- `mask_cells::blank_row` meets its contract: the 0s of `fill` are put one by one.
-- Assumes nothing.
use Prim.Native.Nat.{ℕ, zero, suc, ◌+◌, ◌-◌, ◌≤◌}
use mathlib.Core.Path.{◌≡◌, refl, sym, ap, ◌∙◌}
use mathlib.Core.List.{List}
use native.Mathlib.Numerals.{add-one}
use native.Mathlib.Omega.{arith}
use lib.ListN.{length, take, drop, set, replicate, length-drop}
use lib.Seq.{paste, length-take-le}
use Rattle.std.proofs.lemmas.List.Edits.{paste_none, fill_from_more}
use Rattle.std.proofs.lemmas.Slice.{put_mid-paste}
use Rattle.cells.specs.ModelCells.{put}
use Rattle.cluster.specs.Terms.{row_cells}
use Rattle.mask_cells.proofs.blank_row.Goals as goal

-- Copies of x over a part of a list are put one by one.
put-copies : (from n x : ℕ) (l : List ℕ) → from + n ≤ length l → paste l from (replicate n x) n ≡ put from (λ _. x) n l
unfolding put
put-copies from zero x l h = sym (paste_none l from (replicate 0 x))
put-copies from (suc n) x l h =
    ap (λ (k : ℕ). paste l from (replicate k x) k) (sym (add-one n))
    ∙ (sym (fill_from_more l from n x (omega arith)) ∙ ap (λ (r : List ℕ). set r (from + n) x) (put-copies from n x l (omega arith)))

pub returns : goal.returns
returns c =
    let a = c.args in
    let cells : List ℕ = drop a.from a.cells.now in
    let long : length (take (a.from + row_cells - a.from) cells) ≡ row_cells =
    length-take-le (a.from + row_cells - a.from) cells (omega (arith, length-drop a.from a.cells.now)) ∙ omega arith in
    put_mid-paste a.from _ a.cells.now _ (replicate row_cells 0) row_cells (c.fill.ensures.after (λ y e. e) ∙ ap (λ (n : ℕ). replicate n 0) long) (omega arith) refl
    ∙ put-copies a.from row_cells 0 a.cells.now c.requires
