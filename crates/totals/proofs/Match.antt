-- The totals in the bytes of a record, one after another, against the ids of the rows.
-- Assumes nothing.
use Prim.Native.Nat.{ℕ, zero, suc, ◌+◌, ◌-◌, ◌*◌, ◌/◌, ◌%◌, ◌≤◌, ◌<◌}
use mathlib.Core.Path.{◌≡◌, refl, sym, ap, ap₂, ◌∙◌}
use mathlib.Core.Bool.{Bool, true, false, ◌&&◌, cond}
use mathlib.Core.List.{List, [], ◌∷◌, ◌++◌}
use mathlib.Core.Logic.{⊎_elim}
use native.Mathlib.Omega.{arith}
use lib.Dec.{eqb}
use lib.ListN.{take}
use borrow.Author.Tests.{eq-eqb, ne_eqb}
use Rattle.sums.specs.TermsSums.{tab}
use Rattle.sums.proofs.Sum.{eq_or_ne}
use Rattle.cells.proofs.Cells.{tab_cong}
use Rattle.cluster.specs.Terms.{row_cells, row_at, formed, rows_in}
use Rattle.fields.specs.RecordField.{head_width, number_at}
use Rattle.totals.specs.ModelTotals.{least_above, count_in}
use Rattle.totals.specs.RecordTotals.{Total, total, totals_of}
use Rattle.totals.specs.RecordTotalsFaults.{total_at, total_bytes, totals_at, copies_for, same_totals}
use Rattle.totals.proofs.Next.{ours, ours_all, ours_none, ours_next}

-- ---- totals in bytes

tab-first : (f : ℕ → Total) (n : ℕ) → tab f (suc n) ≡ f 0 ∷ tab (λ i. f (suc i)) n
unfolding tab
tab-first f zero = refl
tab-first f (suc n) = ap (λ (l : List Total). l ++ (f (suc n) ∷ [])) (tab-first f n)

module _ (s : List ℕ) where
  -- The totals from byte `at` up to `end`: none, or the one there and those after it.
  abbrev pub from-to : ℕ → ℕ → List Total
  from-to at end = totals_at s at ((end - at) / total_bytes)

  pub none_left : (at end : ℕ) → end ≤ at → from-to at end ≡ []
  unfolding totals_at tab
  none_left at end h = let z : (end - at) / total_bytes ≡ 0 = omega arith in ap (totals_at s at) z

  pub one_left : (at end : ℕ) → at < end → (end - at) % total_bytes ≡ 0 → from-to at end ≡ total (number_at s (at + 3) 4) (number_at s (at + 7) 2) ∷ from-to (at + 9) end
  unfolding totals_at
  one_left at end h e =
      let k : (end - at) / total_bytes ≡ suc ((end - (at + 9)) / total_bytes) = omega arith in
      let here : at + total_bytes * 0 + head_width ≡ at + 3 = omega arith in
      let copies : at + 3 + 4 ≡ at + 7 = omega arith in
      ap (totals_at s at) k
      ∙ (tab-first (λ i. total_at s (at + total_bytes * i + head_width)) ((end - (at + 9)) / total_bytes)
      ∙ ap₂ (λ (t : Total) (ts : List Total). t ∷ ts) (ap (total_at s) here ∙ ap (λ (x : ℕ). total (number_at s (at + 3) 4) (number_at s x 2)) copies)
      (tab_cong (λ i. total_at s (at + total_bytes * suc i + head_width)) (λ i. total_at s (at + 9 + total_bytes * i + head_width)) ((end - (at + 9)) / total_bytes)
      (λ i l. ap (total_at s) (shift i))))
    where
      shift : (i : ℕ) → at + total_bytes * suc i + head_width ≡ at + 9 + total_bytes * i + head_width
      shift i = omega arith

  -- ---- what they tell

  pub told_here : (at end i : ℕ) → at < end → (end - at) % total_bytes ≡ 0 → number_at s (at + 3) 4 ≡ i → copies_for (from-to at end) i ≡ number_at s (at + 7) 2
  unfolding copies_for
  told_here at end i h e q =
      ap (λ (ts : List Total). copies_for ts i) (one_left at end h e)
      ∙ ap (λ (b : Bool). cond b (number_at s (at + 7) 2) (copies_for (from-to (at + 9) end) i)) (eq-eqb (number_at s (at + 3) 4) i q)

  pub told_later : (at end i : ℕ) → at < end → (end - at) % total_bytes ≡ 0 → (number_at s (at + 3) 4 ≡ i → ⊥) → copies_for (from-to at end) i ≡ copies_for (from-to (at + 9) end) i
  unfolding copies_for
  told_later at end i h e q =
      ap (λ (ts : List Total). copies_for ts i) (one_left at end h e)
      ∙ ap (λ (b : Bool). cond b (number_at s (at + 7) 2) (copies_for (from-to (at + 9) end) i)) (ne_eqb (number_at s (at + 3) 4) i q)

  pub told_none : (at end i : ℕ) → end ≤ at → copies_for (from-to at end) i ≡ 0
  unfolding copies_for
  told_none at end i h = ap (λ (ts : List Total). copies_for ts i) (none_left at end h)

  -- ---- against the rows

  module _ (cells : List ℕ) (n : ℕ) (shape : (p : ℕ) → p < n → formed (row_at cells p) ≡ true) where
    abbrev l : List ℕ
    l = take (n * row_cells) cells

    pub match-start : (ts : List Total) → same_totals ts (totals_of (rows_in n cells)) ≡ same_totals ts (ours cells n shape 0)
    match-start ts = ap (same_totals ts) (sym (ours_all cells n shape))

    module _ (at end : ℕ) (h : at < end) (e : (end - at) % total_bytes ≡ 0) (last : ℕ) where
      -- A total where the rows have no more ids;
      pub match-over : (id : ℕ) → id ≡ least_above last l → id ≡ 0 → same_totals (from-to at end) (ours cells n shape last) ≡ false
      unfolding same_totals
      match-over id d z = ap₂ same_totals (one_left at end h e) (ours_none cells n shape last id d z)

      module _ (id : ℕ) (d : id ≡ least_above last l) (z : id ≡ 0 → ⊥) where
        turn : same_totals (from-to at end) (ours cells n shape last)
            ≡ (eqb (number_at s (at + 3) 4) id && eqb (number_at s (at + 7) 2) (count_in id l) && same_totals (from-to (at + 9) end) (ours cells n shape id))
        unfolding same_totals
        turn = ap₂ same_totals (one_left at end h e) (ours_next cells n shape last id d z)

        -- of another id;
        pub match-id : (number_at s (at + 3) 4 ≡ id → ⊥) → same_totals (from-to at end) (ours cells n shape last) ≡ false
        match-id q = turn ∙ simp (ne_eqb (number_at s (at + 3) 4) id q)

        -- with another number of copies;
        pub match-copies : number_at s (at + 3) 4 ≡ id → (number_at s (at + 7) 2 ≡ count_in id l → ⊥) → same_totals (from-to at end) (ours cells n shape last) ≡ false
        match-copies q r = turn ∙ simp (eq-eqb (number_at s (at + 3) 4) id q, ne_eqb (number_at s (at + 7) 2) (count_in id l) r)

        -- or that of the next id.
        pub match-on : number_at s (at + 3) 4 ≡ id → number_at s (at + 7) 2 ≡ count_in id l → same_totals (from-to at end) (ours cells n shape last) ≡ same_totals (from-to (at + 9) end) (ours cells n shape id)
        match-on q r = turn ∙ simp (eq-eqb (number_at s (at + 3) 4) id q, eq-eqb (number_at s (at + 7) 2) (count_in id l) r)

    -- Where there is no more total, there must be no more id.
    pub match_end : (at end last id : ℕ) → end ≤ at → id ≡ least_above last l → same_totals (from-to at end) (ours cells n shape last) ≡ eqb id 0
    unfolding same_totals
    match_end at end last id h d =
        ap (λ (ts : List Total). same_totals ts (ours cells n shape last)) (none_left at end h)
        ∙ ⊎_elim (λ z. ap (same_totals []) (ours_none cells n shape last id d z) ∙ sym (eq-eqb id 0 z)) (λ z. ap (same_totals []) (ours_next cells n shape last id d z) ∙ sym (ne_eqb id 0 z)) (eq_or_ne id 0)
