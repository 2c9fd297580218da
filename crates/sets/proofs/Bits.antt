-- The laws of `bit`, generic in the width, of `mask_of` and of `first_to`, over any function.
-- Assumes nothing.
use Prim.Native.Nat.{ℕ, zero, suc, ◌+◌, ◌-◌, ◌*◌, ◌/◌, ◌%◌, ◌^◌, ◌≤◌, ◌<◌, min, max}
use mathlib.Core.Path.{◌≡◌, refl, sym, ap, ap₂, ◌∙◌}
use native.Mathlib.Nat.{pow-suc, pow-succ', div-one, div-div-eq-div-mul, mul-one, zero-mul, mul_left_comm}
use native.Mathlib.Omega.{arith}
use lib.Bits.{bit_or, bit_and, or_step, and_step}
use lib.Count.{ones, ones_in, ones_step, under}
use lib.Dec.{eqb-suc-suc}
use lib.Pow.{pow_pos}
use Rattle.sums.specs.TermsSums.{sum_to, one_if}
use Rattle.sums.specs.ModelSums.{is}
use Rattle.sums.proofs.Sum.{is_ne, sum_cong, sum_scale, sum_first}
use Rattle.sets.specs.ModelBits.{bit, mask_of, first_to}

-- ---- bits

-- A bit is 0 or 1.
pub bit_le : (m i : ℕ) → bit m i ≤ 1
unfolding bit
bit_le m zero = omega arith
bit_le m (suc i) = bit_le (m / 2) i

-- The empty set has no member.
pub bit_zero : (i : ℕ) → bit 0 i ≡ 0
unfolding bit
bit_zero zero = refl
bit_zero (suc i) = bit_zero i

-- The bit that a shift brings to the lowest place.
pub bit_shr : (m i : ℕ) → bit m i ≡ m / 2 ^ i % 2
unfolding bit
bit_shr m zero = ap (λ (x : ℕ). x % 2) (sym (div-one m))
bit_shr m (suc i) =
    bit_shr (m / 2) i ∙ ap (λ (x : ℕ). x % 2) (div-div-eq-div-mul m 2 (2 ^ i) ∙ ap (λ (x : ℕ). m / x) (sym (pow-succ' 2 i)))

-- A number below 2 ^ k has no bits from k on.
pub bit_high : (k m i : ℕ) → m < 2 ^ k → k ≤ i → bit m i ≡ 0
unfolding bit
bit_high zero m i h l = ap (λ (x : ℕ). bit x i) (omega arith) ∙ bit_zero i
bit_high (suc k) m zero h l = absurd (omega arith)
bit_high (suc k) m (suc i) h l = bit_high k (m / 2) i (omega (arith, pow-suc 2 k)) (omega arith)

-- Two numbers below 2 ^ k with the same bits are equal.
pub bit_ext : (k a b : ℕ) → a < 2 ^ k → b < 2 ^ k → ((i : ℕ) → i < k → bit a i ≡ bit b i) → a ≡ b
unfolding bit
bit_ext zero a b ha hb h = omega arith
bit_ext (suc k) a b ha hb h =
    omega (
      arith,
      bit_ext k (a / 2) (b / 2) (omega (arith, pow-suc 2 k)) (omega (arith, pow-suc 2 k)) (λ i l. h (suc i) (omega arith)),
      h 0 (omega arith),
    )

-- A number without members is 0.
pub bit-none : (k m : ℕ) → m < 2 ^ k → ((i : ℕ) → i < k → bit m i ≡ 0) → m ≡ 0
bit-none k m h e = bit_ext k m 0 h (pow_pos k) (λ i l. e i l ∙ sym (bit_zero i))

-- A number without members from n on is below 2 ^ n.
pub bit_lt : (k n m : ℕ) → m < 2 ^ k → ((i : ℕ) → n ≤ i → i < k → bit m i ≡ 0) → m < 2 ^ n
unfolding bit
bit_lt k zero m h e = let z : m ≡ 0 = bit-none k m h (λ i l. e i (omega arith) l) in omega arith
bit_lt zero (suc n) m h e = omega (arith, pow_pos (suc n))
bit_lt (suc k) (suc n) m h e =
    omega (arith, pow-suc 2 n, bit_lt k n (m / 2) (omega (arith, pow-suc 2 k)) (λ i a b. e (suc i) (omega arith) (omega arith)))

-- The bits of an or.
pub bit_or_lem : (a b i : ℕ) → bit (bit_or a b) i ≡ max (bit a i) (bit b i)
unfolding bit
bit_or_lem a b zero = omega (arith, or_step a b)
bit_or_lem a b (suc i) = ap (λ (x : ℕ). bit x i) (omega (arith, or_step a b)) ∙ bit_or_lem (a / 2) (b / 2) i

-- The bits of an and.
pub bit_and_lem : (a b i : ℕ) → bit (bit_and a b) i ≡ min (bit a i) (bit b i)
unfolding bit
bit_and_lem a b zero = omega (arith, and_step a b)
bit_and_lem a b (suc i) = ap (λ (x : ℕ). bit x i) (omega (arith, and_step a b)) ∙ bit_and_lem (a / 2) (b / 2) i

-- Of the k digits of x and of its complement, one of each two is set.
pub bit_not : (k x i : ℕ) → x < 2 ^ k → i < k → bit (2 ^ k - 1 - x) i + bit x i ≡ 1
unfolding bit
bit_not zero x i h l = absurd (omega arith)
bit_not (suc k) x zero h l = omega (arith, pow-suc 2 k)
bit_not (suc k) x (suc i) h l =
    ap (λ (y : ℕ). bit y i + bit (x / 2) i) (omega (arith, pow-suc 2 k)) ∙ bit_not k (x / 2) i (omega (arith, pow-suc 2 k)) (omega arith)

-- A power of two has one member.
pub bit_pow : (i j : ℕ) → bit (2 ^ i) j ≡ is i j
unfolding bit is one_if
bit_pow zero zero = refl
bit_pow zero (suc j) = bit_zero j ∙ sym (is_ne {a = 0} {b = suc j} (λ e. omega arith))
bit_pow (suc i) zero = omega (arith, pow-suc 2 i, is_ne {a = suc i} {b = 0} (λ e. omega arith))
bit_pow (suc i) (suc j) =
    ap (λ (x : ℕ). bit x j) (omega (arith, pow-suc 2 i)) ∙ (bit_pow i j ∙ ap one_if (sym (eqb-suc-suc i j)))

-- ---- masks of functions

-- How many digits are set, as a sum of bits.
pub ones_bits : (k m : ℕ) → m < 2 ^ k → ones m ≡ sum_to k (λ i. bit m i)
unfolding bit sum_to ones ones_in
ones_bits zero m h = let e : m ≡ 0 = omega arith in ap ones e
ones_bits (suc k) m h =
    ones_step m
    ∙ (ap (λ (x : ℕ). m % 2 + x) (ones_bits k (m / 2) (omega (arith, pow-suc 2 k))) ∙ sym (sum_first k (λ i. bit m i)))

-- The mask of a function on the numbers below n is below 2 ^ n.
pub mask_lt : (f : ℕ → ℕ) (n : ℕ) → mask_of f n < 2 ^ n
unfolding mask_of
mask_lt f zero = omega arith
mask_lt f (suc n) = omega (arith, mask_lt (λ i. f (suc i)) n, pow-suc 2 n)

-- Its bits are the function's values.
pub bit_mask : (f : ℕ → ℕ) (n i : ℕ) → i < n → bit (mask_of f n) i ≡ min 1 (f i)
unfolding bit mask_of
bit_mask f zero i l = absurd (omega arith)
bit_mask f (suc n) zero l = omega arith
bit_mask f (suc n) (suc i) l = ap (λ (x : ℕ). bit x i) (omega arith) ∙ bit_mask (λ j. f (suc j)) n i (omega arith)

-- The same, of a function of 0 and 1.
pub bit-mask_of : (f : ℕ → ℕ) (n i : ℕ) → i < n → f i ≤ 1 → bit (mask_of f n) i ≡ f i
bit-mask_of f n i l h = omega (arith, bit_mask f n i l)

-- It has no bits from n on.
pub bit-mask-high : (f : ℕ → ℕ) (n i : ℕ) → n ≤ i → bit (mask_of f n) i ≡ 0
bit-mask-high f n i g = bit_high n (mask_of f n) i (mask_lt f n) g

-- A number with those bits is that mask.
pub mask_unique : (k m : ℕ) (f : ℕ → ℕ) → m < 2 ^ k → ((i : ℕ) → i < k → bit m i ≡ min 1 (f i)) → m ≡ mask_of f k
mask_unique k m f h e = bit_ext k m (mask_of f k) h (mask_lt f k) (λ i l. e i l ∙ sym (bit_mask f k i l))

-- From a mask to its bits and back.
pub mask-bit : (k m : ℕ) → m < 2 ^ k → mask_of (λ i. bit m i) k ≡ m
mask-bit k m h = sym (mask_unique k m (λ i. bit m i) h (λ i l. omega (arith, bit_le m i)))

-- Functions that agree below n have one mask.
pub mask_cong : (f g : ℕ → ℕ) (n : ℕ) → ((i : ℕ) → i < n → f i ≡ g i) → mask_of f n ≡ mask_of g n
mask_cong f g n h =
    mask_unique n (mask_of f n) g (mask_lt f n) (λ i l. bit_mask f n i l ∙ ap (λ (x : ℕ). min 1 x) (h i l))

-- The mask as a sum of powers of two.
pub mask-sum : (f : ℕ → ℕ) (n : ℕ) → mask_of f n ≡ sum_to n (λ i. min 1 (f i) * 2 ^ i)
unfolding mask_of sum_to
mask-sum f zero = refl
mask-sum f (suc n) =
    ap₂ (λ (a b : ℕ). a + 2 * b) (sym (mul-one (min 1 (f 0)))) (mask-sum (λ i. f (suc i)) n)
    ∙ (ap (λ (x : ℕ). min 1 (f 0) * 1 + x)
    (sym (sum_scale n 2 (λ i. min 1 (f (suc i)) * 2 ^ i))
    ∙ sum_cong n (λ i. 2 * (min 1 (f (suc i)) * 2 ^ i)) (λ i. min 1 (f (suc i)) * 2 ^ suc i) (λ i l. twice (min 1 (f (suc i))) i))
    ∙ sym (sum_first n (λ i. min 1 (f i) * 2 ^ i)))
  where
    twice : (a i : ℕ) → 2 * (a * 2 ^ i) ≡ a * 2 ^ suc i
    twice a i = mul_left_comm 2 a (2 ^ i) ∙ ap (λ (x : ℕ). a * x) (sym (pow-succ' 2 i))

-- One number more.
pub mask_next : (f : ℕ → ℕ) (n : ℕ) → mask_of f (suc n) ≡ mask_of f n + min 1 (f n) * 2 ^ n
unfolding sum_to
mask_next f n = mask-sum f (suc n) ∙ ap (λ (x : ℕ). x + min 1 (f n) * 2 ^ n) (sym (mask-sum f n))

-- One number more, which is no member.
pub mask_same : (f : ℕ → ℕ) (n : ℕ) → f n ≡ 0 → mask_of f (suc n) ≡ mask_of f n
mask_same f n e = mask_next f n ∙ omega (arith, ap (λ (x : ℕ). min 1 x * 2 ^ n) e, zero-mul (2 ^ n))

-- ---- the first index

-- The first index is at most n.
pub first_le : (n : ℕ) (f : ℕ → ℕ) → first_to n f ≤ n
unfolding first_to
first_le zero f = omega arith
first_le (suc n) f = go (f 0) (first_le n (λ i. f (suc i)))
  where
    go : (v : ℕ) {r : ℕ} → r ≤ n → under v r ≤ suc n
    go zero h = omega arith
    go (suc v) h = omega arith

-- Where there is one, the function is not 0 there.
pub first-at : (n : ℕ) (f : ℕ → ℕ) → first_to n f < n → 1 ≤ f (first_to n f)
unfolding first_to
first-at zero f l = absurd (omega arith)
first-at (suc n) f l = go (first_to n (λ i. f (suc i))) (λ h. first-at n (λ i. f (suc i)) h) (f 0) refl l
  where
    go : (r : ℕ) → (r < n → 1 ≤ f (suc r)) → (v : ℕ) → f 0 ≡ v → under v r < suc n → 1 ≤ f (under v r)
    go r h zero e l = h (omega arith)
    go r h (suc v) e l = omega arith

-- Before it, the function is 0.
pub first-before : (n : ℕ) (f : ℕ → ℕ) (i : ℕ) → i < first_to n f → f i ≡ 0
unfolding first_to
first-before zero f i l = absurd (omega arith)
first-before (suc n) f i l = go (first_to n (λ j. f (suc j))) (λ j h. first-before n (λ j. f (suc j)) j h) (f 0) refl i l
  where
    go : (r : ℕ) → ((j : ℕ) → j < r → f (suc j) ≡ 0) → (v : ℕ) → f 0 ≡ v → (i : ℕ) → i < under v r → f i ≡ 0
    go r h (suc v) e i l = absurd (omega arith)
    go r h zero e zero l = e
    go r h zero e (suc i) l = h i (omega arith)
