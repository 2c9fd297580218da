-- The laws of sets as masks. A set is known by its bits: `bit_ext` makes two masks equal, and `bit-NAME` says which members the operation
-- NAME leaves. The laws of single bits and of masks of functions are passed on here, so that this is the file to cite.
-- Assumes nothing.
use Prim.Native.Nat.{ℕ, zero, suc, ◌+◌, ◌-◌, ◌*◌, ◌^◌, ◌≤◌, ◌<◌, min, max}
use mathlib.Core.Path.{◌≡◌, refl, sym, ap, ◌∙◌}
use mathlib.Core.Bool.{Bool, true, false}
use mathlib.Core.Logic.{⊎_elim}
use native.Mathlib.Nat.{mul-one, one-mul, zero-mul}
use native.Mathlib.Omega.{arith}
use lib.Dec.{ltb}
use lib.Arith.{lt_of_le-ne}
use lib.Pow.{pow_mono}
use borrow.Author.Tests.{eqb-true, eqb-false, eq-eqb, ne_eqb, lt-ltb, le-ltb}
use Rattle.sums.specs.TermsSums.{sum_to, one_if}
use Rattle.sums.specs.ModelSums.{is}
use Rattle.sums.proofs.Sum.{lt_or_ge, is_eq, is_ne, is_le, is_cases, sum_cong, sum_is, sum_le, sum_const, sum-cut, sum_term}
use Rattle.sets.specs.ModelBits.{mask_bits, bit, mask_of, first_to, member_of, with_of, without_of, union_of, meet_of, difference_of, below_of, count_of, least_of}
use Rattle.sets.proofs.Bits.{first-at, first-before}
pub use Rattle.sets.proofs.Bits.{bit_le, bit_zero, bit_shr, bit_high, bit_ext, bit-none, bit_lt, mask_lt, bit_mask, bit-mask_of, bit-mask-high, mask_unique, mask-bit, mask_cong, mask_next, mask_same}

-- ---- members

-- A member has the bit 1.
pub member-true : (s i : ℕ) → member_of s i ≡ true → bit s i ≡ 1
unfolding member_of
member-true s i e = eqb-true (bit s i) 1 e

-- What is no member has the bit 0.
pub member-false : (s i : ℕ) → member_of s i ≡ false → bit s i ≡ 0
unfolding member_of
member-false s i e = let n : (bit s i ≡ 1 → ⊥) = eqb-false (bit s i) 1 e in omega (arith, bit_le s i)

-- The bit 1 makes a member.
pub bit-true : (s i : ℕ) → bit s i ≡ 1 → member_of s i ≡ true
unfolding member_of
bit-true s i e = eq-eqb (bit s i) 1 e

-- The bit 0 makes none.
pub bit-false : (s i : ℕ) → bit s i ≡ 0 → member_of s i ≡ false
unfolding member_of
bit-false s i e = ne_eqb (bit s i) 1 (λ q. omega arith)

-- ---- one more, one less

-- A set with i is a word.
pub with_lt : (s i : ℕ) → with_of s i < 2 ^ mask_bits
unfolding with_of
with_lt s i = mask_lt (λ j. max (bit s j) (is i j)) mask_bits

-- Its members are those of s, and i.
pub bit-with : (s i j : ℕ) → j < mask_bits → bit (with_of s i) j ≡ max (bit s j) (is i j)
unfolding with_of
bit-with s i j l = bit-mask_of (λ j. max (bit s j) (is i j)) mask_bits j l (omega (arith, bit_le s j, is_le i j))

-- i is one of them.
pub bit-with_same : (s i : ℕ) → i < mask_bits → bit (with_of s i) i ≡ 1
bit-with_same s i l = omega (arith, bit-with s i i l, bit_le s i, is_eq {a = i} {b = i} refl)

-- Any other number is one where it was one of s.
pub bit-with_other : (s i j : ℕ) → j < mask_bits → (i ≡ j → ⊥) → bit (with_of s i) j ≡ bit s j
bit-with_other s i j l n = omega (arith, bit-with s i j l, is_ne n)

-- A set without i is a word.
pub without_lt : (s i : ℕ) → without_of s i < 2 ^ mask_bits
unfolding without_of
without_lt s i = mask_lt (λ j. bit s j - is i j) mask_bits

-- Its members are those of s but i.
pub bit-without : (s i j : ℕ) → j < mask_bits → bit (without_of s i) j ≡ bit s j - is i j
unfolding without_of
bit-without s i j l = bit-mask_of (λ j. bit s j - is i j) mask_bits j l (omega (arith, bit_le s j))

-- i is none of them.
pub bit-without_same : (s i : ℕ) → i < mask_bits → bit (without_of s i) i ≡ 0
bit-without_same s i l = omega (arith, bit-without s i i l, bit_le s i, is_eq {a = i} {b = i} refl)

-- Any other number is one where it was one of s.
pub bit-without_other : (s i j : ℕ) → j < mask_bits → (i ≡ j → ⊥) → bit (without_of s i) j ≡ bit s j
bit-without_other s i j l n = omega (arith, bit-without s i j l, is_ne n)

-- A number past the width is no member of any set, and adding it changes nothing.
pub with_none : (s i : ℕ) → s < 2 ^ mask_bits → mask_bits ≤ i → with_of s i ≡ s
with_none s i h g =
    bit_ext mask_bits (with_of s i) s (with_lt s i) h (λ j l. bit-with_other s i j l (λ e. omega arith))

-- The same of taking it.
pub without-none : (s i : ℕ) → s < 2 ^ mask_bits → mask_bits ≤ i → without_of s i ≡ s
without-none s i h g =
    bit_ext mask_bits (without_of s i) s (without_lt s i) h (λ j l. bit-without_other s i j l (λ e. omega arith))

-- One number more, which is a member.
pub mask-with : (f : ℕ → ℕ) (n : ℕ) → n < mask_bits → 1 ≤ f n → mask_of f (suc n) ≡ with_of (mask_of f n) n
mask-with f n l h =
    bit_ext mask_bits (mask_of f (suc n)) (with_of (mask_of f n) n) (omega (arith, mask_lt f (suc n), pow_mono {i = suc n} {j = mask_bits} (omega arith)))
    (with_lt (mask_of f n) n) (λ j k. same j k ∙ sym (bit-with (mask_of f n) n j k))
  where
    same : (j : ℕ) → j < mask_bits → bit (mask_of f (suc n)) j ≡ max (bit (mask_of f n) j) (is n j)
    same j k =
        ⊎_elim
        (λ w. let e : n ≡ j = w.0 in omega (arith, w.1, ap f e, bit_mask f (suc n) j (omega arith), bit-mask-high f n j (omega arith)))
        (λ w. ⊎_elim
        (λ a. omega (arith, w.1, bit_mask f (suc n) j (omega arith), bit_mask f n j a))
        (λ b. let g : suc n ≤ j = lt_of_le-ne b w.0 in omega (arith, w.1, bit-mask-high f (suc n) j g, bit-mask-high f n j b))
        (lt_or_ge j n))
        (is_cases n j)

-- ---- two sets

-- A union is a word.
pub union_lt : (s t : ℕ) → union_of s t < 2 ^ mask_bits
unfolding union_of
union_lt s t = mask_lt (λ j. max (bit s j) (bit t j)) mask_bits

-- Its members are those of either set.
pub bit-union : (s t j : ℕ) → j < mask_bits → bit (union_of s t) j ≡ max (bit s j) (bit t j)
unfolding union_of
bit-union s t j l = bit-mask_of (λ j. max (bit s j) (bit t j)) mask_bits j l (omega (arith, bit_le s j, bit_le t j))

-- A meet is a word.
pub meet_lt : (s t : ℕ) → meet_of s t < 2 ^ mask_bits
unfolding meet_of
meet_lt s t = mask_lt (λ j. min (bit s j) (bit t j)) mask_bits

-- Its members are those of both sets.
pub bit-meet : (s t j : ℕ) → j < mask_bits → bit (meet_of s t) j ≡ min (bit s j) (bit t j)
unfolding meet_of
bit-meet s t j l = bit-mask_of (λ j. min (bit s j) (bit t j)) mask_bits j l (omega (arith, bit_le s j))

-- A difference is a word.
pub difference_lt : (s t : ℕ) → difference_of s t < 2 ^ mask_bits
unfolding difference_of
difference_lt s t = mask_lt (λ j. bit s j - bit t j) mask_bits

-- Its members are those of s that are none of t.
pub bit-difference : (s t j : ℕ) → j < mask_bits → bit (difference_of s t) j ≡ bit s j - bit t j
unfolding difference_of
bit-difference s t j l = bit-mask_of (λ j. bit s j - bit t j) mask_bits j l (omega (arith, bit_le s j))

-- Where two sets share no member, their meet is empty.
pub meet-none : (s t : ℕ) → ((j : ℕ) → j < mask_bits → min (bit s j) (bit t j) ≡ 0) → meet_of s t ≡ 0
meet-none s t h = bit-none mask_bits (meet_of s t) (meet_lt s t) (λ j l. bit-meet s t j l ∙ h j l)

-- Where the meet is empty, no number is a member of both.
pub none-meet : (s t : ℕ) → meet_of s t ≡ 0 → (j : ℕ) → j < mask_bits → min (bit s j) (bit t j) ≡ 0
none-meet s t e j l = sym (bit-meet s t j l) ∙ (ap (λ (x : ℕ). bit x j) e ∙ bit_zero j)

-- ---- the numbers below n

-- The set of the numbers below n is a word.
pub below_lt : (n : ℕ) → below_of n < 2 ^ mask_bits
unfolding below_of
below_lt n = mask_lt (λ j. one_if (ltb j n)) mask_bits

-- Each number below n is a member.
pub bit_below : (n j : ℕ) → j < mask_bits → j < n → bit (below_of n) j ≡ 1
unfolding below_of one_if
bit_below n j l h = bit_mask (λ j. one_if (ltb j n)) mask_bits j l ∙ ap (λ (b : Bool). min 1 (one_if b)) (lt-ltb j n h)

-- No other number is.
pub bit-below_not : (n j : ℕ) → n ≤ j → bit (below_of n) j ≡ 0
unfolding below_of one_if
bit-below_not n j h =
    ⊎_elim
    (λ l. bit_mask (λ j. one_if (ltb j n)) mask_bits j l ∙ ap (λ (b : Bool). min 1 (one_if b)) (le-ltb j n h))
    (λ g. bit_high mask_bits (below_of n) j (below_lt n) g) (lt_or_ge j mask_bits)

-- ---- counts

-- The count of a set of numbers below n is the sum of their bits.
pub count-sum : (n s : ℕ) → n ≤ mask_bits → s < 2 ^ n → count_of s ≡ sum_to n (λ j. bit s j)
unfolding count_of
count-sum n s l h = sum-cut n mask_bits (λ j. bit s j) l (λ j a b. bit_high n s j h a)

-- The count of a mask is the sum of the function.
pub count-mask : (f : ℕ → ℕ) (n : ℕ) → n ≤ mask_bits → ((j : ℕ) → j < n → f j ≤ 1) → count_of (mask_of f n) ≡ sum_to n f
count-mask f n l h =
    count-sum n (mask_of f n) l (mask_lt f n) ∙ sum_cong n (λ j. bit (mask_of f n) j) f (λ j k. bit-mask_of f n j k (h j k))

-- A set of numbers below n has at most n members.
pub count_le : (n s : ℕ) → n ≤ mask_bits → s < 2 ^ n → count_of s ≤ n
count_le n s l h =
    omega (arith, count-sum n s l h, sum_le n (λ j. bit s j) (λ j. 1) (λ j k. bit_le s j), sum_const n 1, mul-one n)

-- The empty set has none.
pub count_empty : count_of 0 ≡ 0
count_empty = let e : count_of 0 ≤ 0 = count_le 0 0 (omega arith) (omega arith) in omega arith

-- A set with a member has a count of 1 or more.
pub count-some : (s i : ℕ) → i < mask_bits → bit s i ≡ 1 → 1 ≤ count_of s
unfolding count_of
count-some s i l e = omega (arith, sum_term mask_bits i (λ j. bit s j) l)

-- A set with the count 0 is empty.
pub count_none : (s : ℕ) → s < 2 ^ mask_bits → count_of s ≡ 0 → s ≡ 0
unfolding count_of
count_none s h e = bit-none mask_bits s h (λ i l. omega (arith, sum_term mask_bits i (λ j. bit s j) l))

sum_max_min : (n : ℕ) (f g : ℕ → ℕ) → sum_to n (λ j. max (f j) (g j)) + sum_to n (λ j. min (f j) (g j)) ≡ sum_to n f + sum_to n g
unfolding sum_to
sum_max_min zero f g = refl
sum_max_min (suc n) f g = omega (arith, sum_max_min n f g)

sum_sub_min : (n : ℕ) (f g : ℕ → ℕ) → sum_to n (λ j. f j - g j) + sum_to n (λ j. min (f j) (g j)) ≡ sum_to n f
unfolding sum_to
sum_sub_min zero f g = refl
sum_sub_min (suc n) f g = omega (arith, sum_sub_min n f g)

-- The sum of what a function of 0 and 1 has in common with one index.
sum_min_is : (n i : ℕ) (f : ℕ → ℕ) → i < n → ((j : ℕ) → f j ≤ 1) → sum_to n (λ j. min (f j) (is i j)) ≡ f i
sum_min_is n i f l h =
    sum_cong n (λ j. min (f j) (is i j)) (λ j. is i j * f j)
    (λ j k.
    ⊎_elim (λ w. omega (arith, h j, w.1, ap (λ (x : ℕ). x * f j) w.1, one-mul (f j)))
    (λ w. omega (arith, w.1, ap (λ (x : ℕ). x * f j) w.1, zero-mul (f j))) (is_cases i j))
    ∙ sum_is n i f l

-- A number that was no member counts one more.
pub count-with : (s i : ℕ) → i < mask_bits → count_of (with_of s i) + bit s i ≡ count_of s + 1
unfolding with_of count_of
count-with s i l =
    omega (
      arith,
      count-mask (λ j. max (bit s j) (is i j)) mask_bits (omega arith) (λ j k. omega (arith, bit_le s j, is_le i j)),
      sum_max_min mask_bits (λ j. bit s j) (λ j. is i j),
      sum_min_is mask_bits i (λ j. bit s j) l (λ j. bit_le s j),
      sum_one,
    )
  where
    sum_one : sum_to mask_bits (λ j. is i j) ≡ 1
    sum_one = sum_cong mask_bits (λ j. is i j) (λ j. is i j * 1) (λ j k. sym (mul-one (is i j))) ∙ sum_is mask_bits i (λ j. 1) l

-- A number that was a member counts one less.
pub count-without : (s i : ℕ) → i < mask_bits → count_of (without_of s i) + bit s i ≡ count_of s
unfolding without_of count_of
count-without s i l =
    omega (
      arith,
      count-mask (λ j. bit s j - is i j) mask_bits (omega arith) (λ j k. omega (arith, bit_le s j)),
      sum_sub_min mask_bits (λ j. bit s j) (λ j. is i j),
      sum_min_is mask_bits i (λ j. bit s j) l (λ j. bit_le s j),
    )

-- Two sets have as many members as their union and their meet.
pub count-union : (s t : ℕ) → count_of (union_of s t) + count_of (meet_of s t) ≡ count_of s + count_of t
unfolding union_of meet_of count_of
count-union s t =
    omega (
      arith,
      count-mask (λ j. max (bit s j) (bit t j)) mask_bits (omega arith) (λ j k. omega (arith, bit_le s j, bit_le t j)),
      count-mask (λ j. min (bit s j) (bit t j)) mask_bits (omega arith) (λ j k. omega (arith, bit_le s j)),
      sum_max_min mask_bits (λ j. bit s j) (λ j. bit t j),
    )

-- A set has as many members as its difference with another and their meet.
pub count-difference : (s t : ℕ) → count_of (difference_of s t) + count_of (meet_of s t) ≡ count_of s
unfolding difference_of meet_of count_of
count-difference s t =
    omega (
      arith,
      count-mask (λ j. bit s j - bit t j) mask_bits (omega arith) (λ j k. omega (arith, bit_le s j)),
      count-mask (λ j. min (bit s j) (bit t j)) mask_bits (omega arith) (λ j k. omega (arith, bit_le s j)),
      sum_sub_min mask_bits (λ j. bit s j) (λ j. bit t j),
    )

-- ---- the least member

-- No number before it is a member.
pub least-before : (s j : ℕ) → j < least_of s → bit s j ≡ 0
unfolding least_of
least-before s j l = first-before mask_bits (λ j. bit s j) j l

-- Where the least is below the width, it is a member.
pub least_at : (s : ℕ) → least_of s < mask_bits → bit s (least_of s) ≡ 1
unfolding least_of
least_at s l = omega (arith, first-at mask_bits (λ j. bit s j) l, bit_le s (first_to mask_bits (λ j. bit s j)))

-- A set that is not empty has a least member.
pub least-some : (s : ℕ) → s < 2 ^ mask_bits → (s ≡ 0 → ⊥) → least_of s < mask_bits
least-some s h n =
    ⊎_elim (λ l. l)
    (λ g. absurd (n (bit_ext mask_bits s 0 h (omega arith) (λ i l. least-before s i (omega arith) ∙ sym (bit_zero i))))) (lt_or_ge (least_of s) mask_bits)

-- The empty set has the width for its least.
pub least-none : least_of 0 ≡ mask_bits
unfolding least_of first_to bit
least-none = refl

-- Taking the least member leaves one member less.
pub least-taken : (s : ℕ) → s < 2 ^ mask_bits → (s ≡ 0 → ⊥) → count_of (without_of s (least_of s)) + 1 ≡ count_of s
least-taken s h n =
    let l : least_of s < mask_bits = least-some s h n in
    omega (arith, count-without s (least_of s) l, least_at s l)
