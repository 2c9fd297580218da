-- The totals of a layout tell the copies of every id; totals that pass the comparison are these.
-- Assumes nothing.
use Prim.Native.Nat.{ℕ}
use mathlib.Core.Path.{◌≡◌, refl, sym, ap, ap₂, ◌∙◌}
use mathlib.Core.Bool.{true, false, ◌&&◌, false≢true}
use mathlib.Core.List.{List, [], ◌∷◌, map}
use mathlib.Core.Logic.{⊎_elim}
use native.Mathlib.Omega.{arith}
use lib.Dec.{eqb}
use borrow.Author.Tests.{eqb-true, eq-eqb, ne_eqb}
use Rattle.sums.proofs.Sum.{lt_or_ge, eq_or_ne}
use Rattle.sums.proofs.Tests.{both, true_or_false}
use Rattle.cluster.specs.Terms.{Layout, mem, copies_in}
use Rattle.cluster.proofs.Lists.{mem_head, mem-skip, mem-none}
use Rattle.totals.specs.RecordTotals.{Total, total, ids_named, totals_of}
use Rattle.totals.specs.RecordTotalsFaults.{copies_for, same_totals}
use Rattle.totals.proofs.Named.{has_named}

module _ (f : ℕ → ℕ) where
  abbrev told : List ℕ → List Total
  told N = map (λ i. total i (f i)) N

  told_in : (N : List ℕ) (i : ℕ) → mem i N ≡ true → copies_for (told N) i ≡ f i
  unfolding copies_for
  told_in [] i m = absurd (mem-none i m)
  told_in (x ∷ xs) i m =
      ⊎_elim (λ e. rw (eq-eqb x i e) (ap f e)) (λ d. rw (ne_eqb x i d) (told_in xs i (sym (mem-skip i x xs (λ q. d (sym q))) ∙ m))) (eq_or_ne x i)

  told_out : (N : List ℕ) (i : ℕ) → mem i N ≡ false → copies_for (told N) i ≡ 0
  unfolding copies_for
  told_out [] i m = refl
  told_out (x ∷ xs) i m =
      ⊎_elim (λ e. absurd (false≢true (sym m ∙ mem_head i x xs (sym e)))) (λ d. rw (ne_eqb x i d) (told_out xs i (sym (mem-skip i x xs (λ q. d (sym q))) ∙ m)))
      (eq_or_ne x i)

-- "equals the count over the rows .. and is 0 for an id without a field", for every id.
pub tells : (L : Layout) (i : ℕ) → copies_for (totals_of L) i ≡ copies_in L i
unfolding totals_of
tells L i =
    ⊎_elim (λ m. told_in (copies_in L) (ids_named L) i m)
    (λ m. told_out (copies_in L) (ids_named L) i m
    ∙ ⊎_elim (λ z. omega arith) (λ s. absurd (false≢true (sym m ∙ has_named L i s))) (lt_or_ge (copies_in L i) 1))
    (true_or_false (mem i (ids_named L)))

-- Totals that are found the same are the same.
pub same_totals_lem : (us ts : List Total) → same_totals us ts ≡ true → us ≡ ts
unfolding same_totals
same_totals_lem [] [] h = refl
same_totals_lem [] (t ∷ ts) h = absurd (false≢true h)
same_totals_lem (u ∷ us) [] h = absurd (false≢true h)
same_totals_lem (u ∷ us) (t ∷ ts) h =
    let a = both (eqb u.id t.id && eqb u.copies t.copies) (same_totals us ts) h in
    let b = both (eqb u.id t.id) (eqb u.copies t.copies) a.0 in
    ap₂ (λ (x : Total) (xs : List Total). x ∷ xs) (ap₂ total (eqb-true u.id t.id b.0) (eqb-true u.copies t.copies b.1)) (same_totals_lem us ts a.1)

pub totals_same : (ts : List Total) → same_totals ts ts ≡ true
unfolding same_totals
totals_same [] = refl
totals_same (t ∷ ts) = rw (eq-eqb t.id t.id refl, eq-eqb t.copies t.copies refl) (totals_same ts)
