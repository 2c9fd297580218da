-- Counting over the indices below a bound: the largest value, two indices of bits, the pigeonhole.
-- Assumes nothing.
use Prim.Native.Nat.{ℕ, zero, suc, ◌*◌, ◌≤◌, ◌<◌, max}
use mathlib.Core.Path.{◌≡◌, refl, sym, ap, ◌∙◌}
use mathlib.Core.Logic.{◌⊎◌, inl, inr, ⊎_elim}
use native.Mathlib.Nat.{mul-one, one-mul, mul-le-mul_left, mul-le-mul_right}
use native.Mathlib.Omega.{arith}
use Rattle.sums.specs.TermsSums.{sum_to}
use Rattle.sums.specs.ModelSums.{is, max_to, hits}
use Rattle.sums.proofs.Sum.{lt_or_ge, is_le, is_one, sum_const, sum_zero, sum-swap, sum_is, sum-witness, sum_cong}

-- ---- the largest value

pub max_ge : (n i : ℕ) (f : ℕ → ℕ) → i < n → f i ≤ max_to n f
unfolding max_to
max_ge zero i f l = absurd (omega arith)
max_ge (suc n) i f l =
    ⊎_elim (λ a. omega (arith, max_ge n i f a)) (λ b. let e : i ≡ n = omega arith in omega (arith, ap f e)) (lt_or_ge i n)

pub max_le : (n m : ℕ) (f : ℕ → ℕ) → ((i : ℕ) → i < n → f i ≤ m) → max_to n f ≤ m
unfolding max_to
max_le zero m f h = omega arith
max_le (suc n) m f h = omega (arith, max_le n m f (λ i l. h i (omega arith)), h n (omega arith))

-- The largest value is 0, or that of an index.
pub max_at : (n : ℕ) (f : ℕ → ℕ) → (max_to n f ≡ 0) ⊎ ((i : ℕ) × (i < n) × (f i ≡ max_to n f))
unfolding max_to
max_at zero f = inl refl
max_at (suc n) f = go (max_at n f) (lt_or_ge (f n) (max_to n f))
  where
    go : (max_to n f ≡ 0) ⊎ ((i : ℕ) × (i < n) × (f i ≡ max_to n f)) → (f n < max_to n f) ⊎ (max_to n f ≤ f n)
        → (max (max_to n f) (f n) ≡ 0) ⊎ ((i : ℕ) × (i < suc n) × (f i ≡ max (max_to n f) (f n)))
    go (inl z) (inl a) = absurd (omega arith)
    go (inr w) (inl a) = inr (w.0, omega (arith, w.1), omega (arith, w.2))
    go (inl z) (inr b) = inr (n, omega arith, omega arith)
    go (inr w) (inr b) = inr (n, omega arith, omega arith)

-- ---- bits

-- The product of two bits is a bit.
pub bit_times : {x y : ℕ} → x ≤ 1 → y ≤ 1 → x * y ≤ 1
bit_times {x} {y} p q = omega (arith, mul-le-mul_right y p, one-mul y)

-- Where it is not 0, both are 1.
pub bit-both : {x y : ℕ} → x ≤ 1 → y ≤ 1 → 1 ≤ x * y → (x ≡ 1) × (y ≡ 1)
bit-both {x} {y} p q h = (omega (arith, mul-le-mul_left x q, mul-one x), omega (arith, mul-le-mul_right y p, one-mul y))

-- A sum that is not 0 has a term that is not 0.
pub sum_pos : (n : ℕ) (f : ℕ → ℕ) → 1 ≤ sum_to n f → (i : ℕ) × (i < n) × (1 ≤ f i)
sum_pos n f h = sum-witness n (λ i. 0) f (omega (arith, sum_zero n (λ i. 0) (λ i l. refl)))

-- Where bits add up to two, two different indices have one.
pub two_bits : (n : ℕ) (f : ℕ → ℕ) → ((i : ℕ) → i < n → f i ≤ 1) → 2 ≤ sum_to n f
    → (i : ℕ) × (j : ℕ) × (i < j) × (j < n) × (f i ≡ 1) × (f j ≡ 1)
unfolding sum_to
two_bits zero f b h = absurd (omega arith)
two_bits (suc n) f b h =
    ⊎_elim
    (λ a. let w = sum_pos n f (omega (arith, b n (omega arith))) in
    (w.0, n, w.1, omega arith, omega (arith, w.2, b w.0 (omega (arith, w.1))), omega (arith, b n (omega arith))))
    (λ c. let w = two_bits n f (λ i l. b i (omega arith)) c in
    (w.0, w.1, w.2, omega (arith, w.3), w.4, w.5))
    (lt_or_ge (sum_to n f) 2)

-- ---- the pigeonhole

-- More indices than values: two indices have one value.
pub pigeonhole : (m n : ℕ) (y : ℕ → ℕ) → ((i : ℕ) → i < m → y i < n) → n < m
    → (i : ℕ) × (j : ℕ) × (i < j) × (j < m) × (y i ≡ y j)
unfolding hits
pigeonhole m n y bound more =
    let total : sum_to n (λ v. hits m y v) ≡ m =
    sum-swap n m (λ v i. is (y i) v)
    ∙ (sum_cong m (λ i. sum_to n (λ v. is (y i) v)) (λ i. 1) (λ i l. sum_one (y i) (bound i l)) ∙ ones) in
    let w = sum-witness n (λ v. 1) (λ v. hits m y v) (omega (arith, total, sum_const n 1, mul-one n)) in
    let t = two_bits m (λ i. is (y i) w.0) (λ i l. is_le (y i) w.0) w.2 in
    (t.0, t.1, t.2, t.3, is_one (y t.0) w.0 t.4 ∙ sym (is_one (y t.1) w.0 t.5))
  where
    ones : sum_to m (λ i. 1) ≡ m
    ones = sum_const m 1 ∙ mul-one m

    sum_one : (k : ℕ) → k < n → sum_to n (λ v. is k v) ≡ 1
    sum_one k l = sum_cong n (λ v. is k v) (λ v. is k v * 1) (λ v h. sym (mul-one (is k v))) ∙ sum_is n k (λ v. 1) l
