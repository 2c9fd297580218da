-- The first index that passes a test: what it is, what it goes by, and how a loop that looks for it comes to it.
-- Assumes nothing.
use Prim.Native.Nat.{ℕ, zero, suc, ◌+◌, ◌-◌, ◌≤◌, ◌<◌}
use mathlib.Core.Path.{◌≡◌, refl, sym, ap, ◌∙◌, subst}
use mathlib.Core.Bool.{Bool, true, false, cond, false≢true}
use mathlib.Core.Logic.{◌⊎◌, inl, inr, ⊎_elim}
use native.Mathlib.Numerals.{add-one}
use native.Mathlib.Omega.{arith}
use lib.Dec.{ltb}
use borrow.Author.Tests.{ltb-true, ltb-false}
use Rattle.sums.specs.ModelSums.{first_from}
use Rattle.sums.proofs.Sum.{lt_or_ge}

-- Of n indices from i on, r is the first that passes; or none passes, and r comes after them.
abbrev pub First : (ℕ → Bool) → ℕ → ℕ → ℕ → Type 0
First t n i r =
    ((i ≤ r) × (r < i + n) × (t r ≡ true) × ((j : ℕ) → i ≤ j → j < r → t j ≡ false))
    ⊎ ((r ≡ i + n) × ((j : ℕ) → i ≤ j → j < i + n → t j ≡ false))

-- What is found is that.
pub first_cases : (t : ℕ → Bool) (n i : ℕ) → First t n i (first_from t n i)
unfolding first_from
first_cases t zero i = inr (omega arith, λ j a b. absurd (omega arith))
first_cases t (suc n) i = go (first_cases t n (suc i)) (t i) refl
  where
    more : {m : ℕ} → t i ≡ false → ((j : ℕ) → suc i ≤ j → j < m → t j ≡ false) → (j : ℕ) → i ≤ j → j < m → t j ≡ false
    more e h j a b = ⊎_elim (λ l. h j l b) (λ g. let q : i ≡ j = omega arith in subst (λ (k : ℕ). t k ≡ false) q e) (lt_or_ge i j)

    go : {r : ℕ} → First t n (suc i) r → (b : Bool) → t i ≡ b → First t (suc n) i (cond b i r)
    go h true e = inl (omega arith, omega arith, e, λ j a b. absurd (omega arith))
    go (inl h) false e = inl (omega (arith, h.0), omega (arith, h.1), h.2, more e h.3)
    go (inr h) false e = inr (omega (arith, h.0), λ j a b. more e h.1 j a (omega arith))

-- An index that passes, after none that does, is the first.
pub first-is : (t : ℕ → Bool) (n i r : ℕ) → i ≤ r → r < i + n → t r ≡ true → ((j : ℕ) → i ≤ j → j < r → t j ≡ false) → first_from t n i ≡ r
first-is t n i r a b e h =
    ⊎_elim
    (λ s. ⊎_elim (λ l. absurd (false≢true (sym (h (first_from t n i) s.0 l) ∙ s.2)))
    (λ g. ⊎_elim (λ l. absurd (false≢true (sym (s.3 r a l) ∙ e))) (λ f. omega arith) (lt_or_ge r (first_from t n i)))
    (lt_or_ge (first_from t n i) r))
    (λ s. absurd (false≢true (sym (s.1 r a b) ∙ e))) (first_cases t n i)

-- Where none passes, the end is found.
pub first_not : (t : ℕ → Bool) (n i : ℕ) → ((j : ℕ) → i ≤ j → j < i + n → t j ≡ false) → first_from t n i ≡ i + n
first_not t n i h =
    ⊎_elim (λ s. absurd (false≢true (sym (h (first_from t n i) s.0 s.1) ∙ s.2))) (λ s. s.0) (first_cases t n i)

-- A first index below the bound is one that passes.
pub first_some : (t : ℕ → Bool) (N : ℕ) → ltb (first_from t N 0) N ≡ true → (first_from t N 0 < N) × (t (first_from t N 0) ≡ true)
first_some t N e =
    let l : first_from t N 0 < N = ltb-true (first_from t N 0) N e in
    ⊎_elim (λ h. (l, h.2)) (λ h. absurd (omega (arith, h.0))) (first_cases t N 0)

-- Where the first index is not below the bound, none passes.
pub first-none : (t : ℕ → Bool) (N : ℕ) → ltb (first_from t N 0) N ≡ false → (j : ℕ) → j < N → t j ≡ false
first-none t N e j l =
    ⊎_elim (λ h. absurd (omega (arith, h.1, ltb-false (first_from t N 0) N e))) (λ h. h.1 j (omega arith) (omega arith))
    (first_cases t N 0)

-- Where none passes, the bound is found.
pub first-is-none : (t : ℕ → Bool) (N : ℕ) → ((j : ℕ) → j < N → t j ≡ false) → first_from t N 0 ≡ N
first-is-none t N h =
    ⊎_elim (λ s. absurd (false≢true (sym (h (first_from t N 0) (omega (arith, s.1))) ∙ s.2))) (λ s. omega (arith, s.0)) (first_cases t N 0)

-- A first index goes by the values of its test.
pub first_cong : (t s : ℕ → Bool) (n i : ℕ) → ((j : ℕ) → i ≤ j → j < i + n → t j ≡ s j) → first_from t n i ≡ first_from s n i
unfolding first_from
first_cong t s zero i h = refl
first_cong t s (suc n) i h = rw (h i (omega arith) (omega arith), first_cong t s n (suc i) (λ j a b. h j (omega arith) (omega arith)))

-- Where an index passes, the first is below the bound.
pub first_lt : (t : ℕ → Bool) (n i : ℕ) → i < n → t i ≡ true → first_from t n 0 < n
first_lt t n i l e = ⊎_elim (λ h. omega (arith, h.1)) (λ h. absurd (false≢true (sym (h.1 i (omega arith) (omega arith)) ∙ e))) (first_cases t n 0)

-- It passes the test then, and is no later.
pub first_passes : (t : ℕ → Bool) (n k : ℕ) → k < n → t k ≡ true → (first_from t n 0 < n) × (t (first_from t n 0) ≡ true) × (first_from t n 0 ≤ k)
first_passes t n k l e =
    ⊎_elim
    (λ h. (omega (arith, h.1), h.2, ⊎_elim (λ g. absurd (false≢true (sym (h.3 k (omega arith) g) ∙ e))) (λ g. g) (lt_or_ge k (first_from t n 0))))
    (λ h. absurd (false≢true (sym (h.1 k (omega arith) (omega arith)) ∙ e))) (first_cases t n 0)

-- ---- one index after the other

module _ (t : ℕ → Bool) (n i : ℕ) where
  one_more : i < n → first_from t (n - i) i ≡ cond (t i) i (first_from t (n - (i + 1)) (i + 1))
  unfolding first_from
  one_more l = let e : n - i ≡ suc (n - (i + 1)) = omega arith in ap (λ (k : ℕ). first_from t k i) e ∙ ap (λ (k : ℕ). cond (t i) i (first_from t (n - (i + 1)) k)) (sym (add-one i))

  -- An index that passes is found.
  pub first_hit : i < n → t i ≡ true → first_from t (n - i) i ≡ i
  first_hit l e = one_more l ∙ ap (λ (b : Bool). cond b i (first_from t (n - (i + 1)) (i + 1))) e

  -- One that does not pass is passed over.
  pub first_miss : i < n → t i ≡ false → first_from t (n - i) i ≡ first_from t (n - (i + 1)) (i + 1)
  first_miss l e = one_more l ∙ ap (λ (b : Bool). cond b i (first_from t (n - (i + 1)) (i + 1))) e

  -- At the bound the search ends.
  pub first_end : n ≤ i → first_from t (n - i) i ≡ i
  unfolding first_from
  first_end l = let e : n - i ≡ 0 = omega arith in ap (λ (k : ℕ). first_from t k i) e
