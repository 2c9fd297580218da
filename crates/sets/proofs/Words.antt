-- What the operations of a word compute, as operations on sets: each has the bits of the set, and is a word.
-- Assumes nothing.
use Prim.Native.Nat.{ℕ, zero, suc, ◌-◌, ◌*◌, ◌/◌, ◌%◌, ◌^◌, ◌<◌, min, max}
use mathlib.Core.Path.{◌≡◌, refl, sym, ap, ◌∙◌}
use mathlib.Core.Logic.{⊎_elim}
use mathlib.Core.Bool.{Bool}
use native.Mathlib.Nat.{one-mul, pow-suc}
use native.Mathlib.Omega.{arith}
use lib.Bits.{bit_or, bit_and, or_lt, and_lt}
use lib.Count.{ones, count_trailing_zeros, under}
use lib.Dec.{eqb, eqb-suc-suc}
use lib.Pow.{pow_pos, pow-lt, pow_mono, ones_lt, ones_sub-lt, shl_exact}
use Rattle.sums.specs.TermsSums.{one_if}
use Rattle.sums.specs.ModelSums.{is}
use Rattle.sums.proofs.Sum.{lt_or_ge, is_eq, is_ne, is_le}
use Rattle.sets.specs.ModelBits.{mask_bits, bit, first_to, member_of, with_of, without_of, union_of, meet_of, difference_of, below_of, count_of, least_of}
use Rattle.sets.proofs.Bits.{bit_le, bit_zero, bit_shr, bit_high, bit_ext, bit_or_lem, bit_and_lem, bit_not, bit_pow, ones_bits, mask_unique}
use Rattle.sets.proofs.Laws.{without-none, bit_below, bit-below_not, below_lt, least-none}

-- A shift and a remainder tell a member.
pub word-member : (s i : ℕ) → eqb (s / 2 ^ i % 2) 1 ≡ member_of s i
unfolding member_of
word-member s i = ap (λ (x : ℕ). eqb x 1) (sym (bit_shr s i))

-- An or is a union.
pub word-union : (s t : ℕ) → s < 2 ^ mask_bits → t < 2 ^ mask_bits → bit_or s t ≡ union_of s t
unfolding union_of
word-union s t hs ht =
    mask_unique mask_bits (bit_or s t) (λ j. max (bit s j) (bit t j)) (or_lt mask_bits s t hs ht) (λ j l. omega (arith, bit_or_lem s t j, bit_le s j, bit_le t j))

-- An and is a meet.
pub word-meet : (s t : ℕ) → s < 2 ^ mask_bits → t < 2 ^ mask_bits → bit_and s t ≡ meet_of s t
unfolding meet_of
word-meet s t hs ht =
    mask_unique mask_bits (bit_and s t) (λ j. min (bit s j) (bit t j)) (and_lt mask_bits s t hs ht) (λ j l. omega (arith, bit_and_lem s t j, bit_le s j))

-- An and with the complement is a difference.
pub word-difference : (s t : ℕ) → s < 2 ^ mask_bits → t < 2 ^ mask_bits → bit_and s (2 ^ mask_bits - 1 - t) ≡ difference_of s t
unfolding difference_of
word-difference s t hs ht =
    mask_unique mask_bits (bit_and s (2 ^ mask_bits - 1 - t)) (λ j. bit s j - bit t j) (and_lt mask_bits s (2 ^ mask_bits - 1 - t) hs (ones_sub-lt mask_bits t))
    (λ j l. omega (arith, bit_and_lem s (2 ^ mask_bits - 1 - t) j, bit_not mask_bits t j ht l, bit_le s j))

-- 1 shifted by i is the set of i alone.
pub word-one : (i : ℕ) → i < mask_bits → 1 * 2 ^ i % 2 ^ mask_bits ≡ 2 ^ i
word-one i l = shl_exact 1 i mask_bits (omega arith) (omega arith) ∙ one-mul (2 ^ i)

-- An or with the set of i alone adds i.
pub word-with : (s i : ℕ) → s < 2 ^ mask_bits → i < mask_bits → bit_or s (1 * 2 ^ i % 2 ^ mask_bits) ≡ with_of s i
unfolding with_of
word-with s i hs l =
    ap (λ (x : ℕ). bit_or s x) (word-one i l)
    ∙ mask_unique mask_bits (bit_or s (2 ^ i)) (λ j. max (bit s j) (is i j)) (or_lt mask_bits s (2 ^ i) hs (pow-lt l))
    (λ j k. omega (arith, bit_or_lem s (2 ^ i) j, bit_pow i j, bit_le s j, is_le i j))

-- An and with its complement takes i.
pub word-without : (s i : ℕ) → s < 2 ^ mask_bits → i < mask_bits → bit_and s (2 ^ mask_bits - 1 - 1 * 2 ^ i % 2 ^ mask_bits) ≡ without_of s i
unfolding without_of
word-without s i hs l =
    ap (λ (x : ℕ). bit_and s (2 ^ mask_bits - 1 - x)) (word-one i l)
    ∙ mask_unique mask_bits (bit_and s (2 ^ mask_bits - 1 - 2 ^ i)) (λ j. bit s j - is i j) (and_lt mask_bits s (2 ^ mask_bits - 1 - 2 ^ i) hs (ones_sub-lt mask_bits (2 ^ i)))
    (λ j k. omega (arith, bit_and_lem s (2 ^ mask_bits - 1 - 2 ^ i) j, bit_not mask_bits (2 ^ i) j (pow-lt l) k, bit_pow i j, bit_le s j))

-- A power of two less 1 is the set of the numbers below its exponent.
pub word_below : (k n : ℕ) → k ≡ min n mask_bits → 2 ^ k - 1 ≡ below_of n
word_below k n e =
    bit_ext mask_bits (2 ^ k - 1) (below_of n) (omega (arith, pow_pos k, pow_mono {i = k} {j = mask_bits} (omega arith))) (below_lt n)
    (λ j l. ⊎_elim
    (λ a. low j (omega arith) ∙ sym (bit_below n j l a))
    (λ b. bit_high k (2 ^ k - 1) j (ones_lt k) (omega arith) ∙ sym (bit-below_not n j b)) (lt_or_ge j n))
  where
    low : (j : ℕ) → j < k → bit (2 ^ k - 1) j ≡ 1
    low j l =
        let e : 2 ^ k - 1 - 0 ≡ 2 ^ k - 1 = omega arith in
        omega (arith, ap (λ (x : ℕ). bit x j) e, bit_not k 0 j (pow_pos k) l, bit_zero j)

-- The set digits are the members.
pub word_count : (s : ℕ) → s < 2 ^ mask_bits → ones s ≡ count_of s
unfolding count_of
word_count s h = ones_bits mask_bits s h

first_bit : (k m : ℕ) → count_trailing_zeros k m ≡ first_to k (λ j. bit m j)
unfolding count_trailing_zeros first_to bit
first_bit zero m = refl
first_bit (suc k) m = ap (under (m % 2)) (first_bit k (m / 2))

-- The zeros below the lowest set digit are as many as the least member.
pub word-least : (s : ℕ) → count_trailing_zeros mask_bits s ≡ least_of s
unfolding least_of
word-least s = first_bit mask_bits s

-- One less has the same digits above the lowest set one, and not that one.
less-bit : (k s i : ℕ) → s < 2 ^ k → (s ≡ 0 → ⊥) → min (bit s i) (bit (s - 1) i) ≡ bit s i - is (first_to k (λ j. bit s j)) i
unfolding bit first_to is
less-bit zero s i h n = absurd (n (omega arith))
less-bit (suc k) s i h n = go (λ z i. less-bit k (s / 2) i (omega (arith, pow-suc 2 k)) z) (s % 2) refl i
  where
    go : ((s / 2 ≡ 0 → ⊥) → (i : ℕ) → min (bit (s / 2) i) (bit (s / 2 - 1) i) ≡ bit (s / 2) i - is (first_to k (λ j. bit (s / 2) j)) i)
        → (v : ℕ) → s % 2 ≡ v → (i : ℕ) → min (bit s i) (bit (s - 1) i) ≡ bit s i - is (under v (first_to k (λ j. bit (s / 2) j))) i
    go rec zero e zero = omega (arith, e)
    go rec zero e (suc i) =
        let l : (s - 1) / 2 ≡ s / 2 - 1 = omega (arith, e, n) in
        ap (λ (x : ℕ). min (bit (s / 2) i) (bit x i)) l
        ∙ (rec (λ z. n (omega (arith, e, z))) i ∙ ap (λ (t : Bool). bit (s / 2) i - one_if t) (sym (eqb-suc-suc (first_to k (λ j. bit (s / 2) j)) i)))
    go rec (suc v) e zero = omega (arith, e, is_eq {a = 0} {b = 0} refl)
    go rec (suc v) e (suc i) =
        let l : (s - 1) / 2 ≡ s / 2 = omega (arith, e) in
        ap (λ (x : ℕ). min (bit (s / 2) i) (bit x i)) l ∙ omega (arith, is_ne {a = 0} {b = suc i} (λ z. omega (arith, z)))

-- An and with one less takes the least member.
pub word-rest : (s : ℕ) → s < 2 ^ mask_bits → (s ≡ 0 → ⊥) → bit_and s (s - 1) ≡ without_of s (least_of s)
unfolding without_of least_of
word-rest s h n =
    mask_unique mask_bits (bit_and s (s - 1)) (λ j. bit s j - is (least_of s) j) (and_lt mask_bits s (s - 1) h (omega arith))
    (λ j l. omega (arith, bit_and_lem s (s - 1) j, less-bit mask_bits s j h n, bit_le s j))

-- The empty set has nothing to take.
pub rest-none : (s : ℕ) → s ≡ 0 → without_of s (least_of s) ≡ 0
rest-none s e = ap (λ (x : ℕ). without_of x (least_of x)) e ∙ (ap (without_of 0) least-none ∙ without-none 0 mask_bits (omega arith) (omega arith))
