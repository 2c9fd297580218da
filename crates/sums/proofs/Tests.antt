-- The laws of tests: one, two, and all below a bound.
-- Assumes nothing.
use Prim.Native.Nat.{ℕ, zero, suc, ◌+◌, ◌≤◌, ◌<◌}
use mathlib.Core.Path.{◌≡◌, refl, sym, ap, ap₂, ◌∙◌}
use mathlib.Core.Bool.{Bool, true, false, ◌&&◌, ◌||◌, and-false, false≢true}
use mathlib.Core.Logic.{◌⊎◌, inl, inr, ⊎_elim}
use native.Mathlib.Numerals.{add-one}
use native.Mathlib.Omega.{arith}
use Rattle.sums.specs.TermsSums.{one_if, every_to}
use Rattle.sums.proofs.Sum.{lt_or_ge}

-- A test holds or fails.
pub true_or_false : (b : Bool) → (b ≡ true) ⊎ (b ≡ false)
true_or_false true = inl refl
true_or_false false = inr refl

-- Where two tests hold together, each holds.
pub both : (a b : Bool) → a && b ≡ true → (a ≡ true) × (b ≡ true)
both true b h = (refl, h)
both false b h = absurd (false≢true h)

-- Where neither of two tests holds, each fails.
pub neither : (a b : Bool) → a || b ≡ false → (a ≡ false) × (b ≡ false)
neither false b h = (refl, h)
neither true b h = absurd (false≢true (sym h))

-- A test counts once at most.
pub one-if_le : (b : Bool) → one_if b ≤ 1
unfolding one_if
one-if_le true = omega arith
one-if_le false = omega arith

-- ---- all numbers below a bound

-- A test of no number holds.
pub every-none : (f : ℕ → Bool) → every_to 0 f ≡ true
unfolding every_to
every-none f = refl

-- One number more of which it holds.
pub every_more : (n : ℕ) (f : ℕ → Bool) → every_to n f ≡ true → f n ≡ true → every_to (n + 1) f ≡ true
unfolding every_to
every_more n f h e = ap (λ (k : ℕ). every_to k f) (add-one n) ∙ ap₂ ◌&&◌ h e

-- A test that holds of all holds of each.
pub every-at : (n i : ℕ) (f : ℕ → Bool) → every_to n f ≡ true → i < n → f i ≡ true
unfolding every_to
every-at zero i f h l = absurd (omega arith)
every-at (suc n) i f h l =
    let b = both (every_to n f) (f n) h in
    ⊎_elim (λ k. every-at n i f b.0 k) (λ k. let e : i ≡ n = omega arith in ap f e ∙ b.1) (lt_or_ge i n)

-- A test that holds of each holds of all.
pub every-all : (n : ℕ) (f : ℕ → Bool) → ((i : ℕ) → i < n → f i ≡ true) → every_to n f ≡ true
unfolding every_to
every-all zero f h = refl
every-all (suc n) f h = ap₂ ◌&&◌ (every-all n f (λ i l. h i (omega arith))) (h n (omega arith))

-- A test that fails of one number does not hold of all.
pub every_fails : (n i : ℕ) (f : ℕ → Bool) → i < n → f i ≡ false → every_to n f ≡ false
unfolding every_to
every_fails zero i f l h = absurd (omega arith)
every_fails (suc n) i f l h =
    ⊎_elim (λ k. ap (λ (t : Bool). t && f n) (every_fails n i f k h))
    (λ k. let e : n ≡ i = omega arith in ap (λ (t : Bool). every_to n f && t) (ap f e ∙ h) ∙ and-false (every_to n f)) (lt_or_ge i n)

-- Tests that are the same at each index are the same of all.
pub every_cong : (n : ℕ) (f g : ℕ → Bool) → ((i : ℕ) → i < n → f i ≡ g i) → every_to n f ≡ every_to n g
unfolding every_to
every_cong zero f g h = refl
every_cong (suc n) f g h = ap₂ ◌&&◌ (every_cong n f g (λ i l. h i (omega arith))) (h n (omega arith))
