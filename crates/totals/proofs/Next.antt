-- The totals of the rows in cells, one after another: what is left above the last id.
-- Assumes nothing.
use Prim.Native.Nat.{ℕ, zero, suc, ◌*◌, ◌≤◌, ◌<◌}
use mathlib.Core.Path.{◌≡◌, refl, sym, ap, ◌∙◌}
use mathlib.Core.Bool.{true}
use mathlib.Core.List.{List, [], ◌∷◌, map}
use mathlib.Core.Logic.{⊎_elim}
use native.Mathlib.Omega.{arith}
use lib.ListN.{length, take, length-map}
use Rattle.cluster.specs.Terms.{row_cells, Layout, mem, rising, copies_in, row_at, formed, rows_in}
use Rattle.sums.proofs.Sum.{eq_or_ne}
use Rattle.cell_rows.proofs.CellRows.{formed-rising}
use Rattle.cell_rows.proofs.CellLayouts.{length-rows_in, row-rows_in}
use Rattle.totals.specs.ModelTotals.{least_from, least_above, count_in, SameIds}
use Rattle.totals.specs.RecordTotals.{Total, total, ids_named, totals_of}
use Rattle.totals.proofs.Named.{above, above_all, least-from, next-none, next-some, least-up, named-rising, count-copies, cells-named}

module _ (cells : List ℕ) (n : ℕ) (shape : (p : ℕ) → p < n → formed (row_at cells p) ≡ true) where
  abbrev L : Layout
  L = rows_in n cells

  abbrev l : List ℕ
  l = take (n * row_cells) cells

  abbrev names : List ℕ
  names = ids_named L

  -- The totals of the ids above `last`.
  unfoldable pub ours : ℕ → List Total
  ours last = map (λ i. total i (copies_in L i)) (above last names)

  rises : rising names ≡ true
  rises =
      named-rising L
      (λ p h. let k : p < n = omega (arith, h, length-rows_in n cells) in ap rising (row-rows_in n cells p k) ∙ formed-rising 0 (row_at cells p) (shape p k))

  -- At first they are all,
  pub ours_all : ours 0 ≡ totals_of L
  unfolding ours totals_of
  ours_all = ap (map (λ i. total i (copies_in L i))) (above_all names rises)

  pub ours_length : length (ours 0) ≡ length names
  unfolding ours
  ours_length = ap (λ (N : List ℕ). length (map (λ i. total i (copies_in L i)) N)) (above_all names rises) ∙ length-map names (λ i. total i (copies_in L i))

  -- and where there is no id above the last one they are none.
  pub ours_none : (last id : ℕ) → id ≡ least_above last l → id ≡ 0 → ours last ≡ []
  unfolding ours
  ours_none last id d z = ap (map (λ i. total i (copies_in L i))) (next-none l names rises (cells-named cells n shape) last (sym d ∙ z))

  -- Else that of the least id above it is the next.
  pub ours_next : (last id : ℕ) → id ≡ least_above last l → (id ≡ 0 → ⊥) → ours last ≡ total id (count_in id l) ∷ ours id
  unfolding ours
  ours_next last id e z =
      ap (map (λ i. total i (copies_in L i)))
      (next-some l names rises (cells-named cells n shape) last (λ q. z (e ∙ q)) ∙ ap (λ (x : ℕ). x ∷ above x names) (sym e))
      ∙ ap (λ (x : ℕ). total id x ∷ map (λ i. total i (copies_in L i)) (above id names)) (sym (count-copies cells id n (pos id z) shape))
    where
      pos : (x : ℕ) → (x ≡ 0 → ⊥) → 1 ≤ x
      pos zero q = absurd (q refl)
      pos (suc x) q = omega arith

-- It is above the last one.
pub next_up : (cells : List ℕ) (n last id : ℕ) → id ≡ least_above last (take (n * row_cells) cells) → (id ≡ 0 → ⊥) → last < id
next_up cells n last id e z = omega (arith, e, least-up last (take (n * row_cells) cells) (λ q. z (e ∙ q)))

-- Lists of the same ids have the same least id above the last one.
pub least_same : (k m : List ℕ) → SameIds k m → (last : ℕ) → least_above last k ≡ least_above last m
unfolding least_above
least_same k m same last =
    let r = least_from last 0 k in
    let q = least_from last 0 m in
    let w = least-from last 0 k in
    let v = least-from last 0 m in
    let stands : (r ≡ 0 → ⊥) → (last < r) × (mem r k ≡ true) = λ z. ⊎_elim (λ e. absurd (z e)) (λ p. p) (w.there z) in
    let stood : (q ≡ 0 → ⊥) → (last < q) × (mem q m ≡ true) = λ z. ⊎_elim (λ e. absurd (z e)) (λ p. p) (v.there z) in
    ⊎_elim
    (λ e. ⊎_elim (λ d. e ∙ sym d) (λ d. let t = stood d in absurd (omega (arith, t.0, (w.none e).1 q (same q (omega (arith, t.0)) ∙ t.1)))) (eq_or_ne q 0))
    (λ e. let t = stands e in
    let here : mem r m ≡ true = sym (same r (omega (arith, t.0))) ∙ t.1 in
    ⊎_elim (λ d. absurd (omega (arith, t.0, (v.none d).1 r here)))
    (λ d. let u = stood d in omega (arith, v.below r here t.0, w.below q (same q (omega (arith, u.0)) ∙ u.1) u.0)) (eq_or_ne q 0))
    (eq_or_ne r 0)
