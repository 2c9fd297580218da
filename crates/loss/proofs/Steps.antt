-- What each turn of the two loops does to the models.
-- Assumes nothing.
use Prim.Native.Nat.{ℕ, zero, suc, ◌+◌, ◌-◌, ◌≤◌, ◌<◌}
use mathlib.Core.Path.{◌≡◌, refl, sym, ap, ◌∙◌}
use mathlib.Core.List.{List}
use native.Mathlib.Omega.{arith}
use native.Mathlib.Numerals.{add-one}
use lib.Dec.{ltb}
use lib.ListN.{get_or}
use borrow.Author.Tests.{eq-eqb, ne_eqb, le-ltb}
use Rattle.sums.specs.TermsSums.{sum_to, one_if}
use Rattle.sums.proofs.Sum.{sum-next}
use Rattle.sets.specs.ModelBits.{mask_bits, with_of, difference_of, below_of}
use Rattle.sets.proofs.Laws.{bit-none, bit-below_not, mask_lt}
use Rattle.loss.specs.ModelSearch.{row_lost, lost_rows, costing, kept_of, searched}
use Rattle.loss.specs.declared.search.Found.{Found}

-- ---- counting

module _ (rows : List ℕ) (set p lost left : ℕ) (inv : lost ≡ sum_to p (row_lost rows set)) (is : left ≡ difference_of (get_or rows p 0) set) where
  pub row-lost : left ≡ 0 → lost + 1 ≡ sum_to (p + 1) (row_lost rows set)
  unfolding one_if
  row-lost z = sum-next (row_lost rows set) p lost 1 inv (sym (rw (eq-eqb (difference_of (get_or rows p 0) set) 0 (sym is ∙ z)) refl))

  pub row-held : (left ≡ 0 → ⊥) → lost ≡ sum_to (p + 1) (row_lost rows set)
  unfolding one_if
  row-held z =
      let e : lost + 0 ≡ lost = omega arith in
      sym e ∙ sum-next (row_lost rows set) p lost 0 inv (sym (rw (ne_eqb (difference_of (get_or rows p 0) set) 0 (λ q. z (is ∙ q))) refl))

-- ---- searching

-- Where none is left to be taken off, the set is held against the best so far.
pub none_left : (rows : List ℕ) (left i k set : ℕ) (best : Found) → left ≡ 0 → searched rows left i k set best ≡ kept_of rows set best
unfolding searched
none_left rows left i k set best z = ap (λ (x : ℕ). searched rows x i k set best) z

-- Of none there is one set.
pub none_asked : (rows : List ℕ) (number k : ℕ) → number ≡ 0 → costing rows (below_of number) ≡ searched rows number 0 k 0 (costing rows (below_of number))
unfolding costing kept_of below_of
none_asked rows number k z =
    let low : below_of number ≡ 0 = bit-none mask_bits (below_of number) (mask_lt (λ j. one_if (ltb j number)) mask_bits) (λ j l. bit-below_not number j (omega arith)) in
    sym (none_left rows number 0 k 0 (costing rows (below_of number)) z
    ∙ rw (le-ltb (lost_rows rows (below_of number)) (lost_rows rows 0) (omega (arith, ap (lost_rows rows) low))) refl)

-- Where there are fewer nodes than are to be taken off, no set is met.
pub too_few_lem : (rows : List ℕ) (left i k set : ℕ) (best : Found) → k < left → searched rows left i k set best ≡ best
unfolding searched
too_few_lem rows zero i k set best h = absurd (omega arith)
too_few_lem rows (suc left) i zero set best h = refl
too_few_lem rows (suc left) i (suc k) set best h =
    ap (λ (w : Found). searched rows (suc left) (suc i) k set w) (too_few_lem rows left (suc i) k (with_of set i) best (omega arith))
    ∙ too_few_lem rows (suc left) (suc i) k set best (omega arith)

module _ (rows : List ℕ) (n left set : ℕ) (some : left ≡ 0 → ⊥) where
  -- The sets with node b, then those of the nodes after it.
  pub one_more : (b : ℕ) (best found : Found) → left ≤ n - b → found ≡ searched rows (left - 1) (b + 1) (n - (b + 1)) (with_of set b) best
      → searched rows left b (n - b) set best ≡ searched rows left (b + 1) (n - (b + 1)) set found
  unfolding searched
  one_more b best found h e =
      let l : left ≡ suc (left - 1) = omega arith in
      let k : n - b ≡ suc (n - (b + 1)) = omega arith in
      ap (λ (x : ℕ). searched rows x b (n - b) set best) l
      ∙ (ap (λ (x : ℕ). searched rows (suc (left - 1)) b x set best) k
      ∙ (ap (λ (x : ℕ). searched rows (suc (left - 1)) x (n - (b + 1)) set (searched rows (left - 1) x (n - (b + 1)) (with_of set b) best)) (sym (add-one b))
      ∙ (ap (λ (w : Found). searched rows (suc (left - 1)) (b + 1) (n - (b + 1)) set w) (sym e)
      ∙ ap (λ (x : ℕ). searched rows x (b + 1) (n - (b + 1)) set found) (sym l))))
