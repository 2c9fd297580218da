-- Sets of numbers below the width of a mask: `bit`, one digit of a number, and every operation on sets by it.
-- `mask_of` leads from a function of 0 and 1 to the mask that has its values as digits, and `bit` back.
-- Assumes nothing.
use Rattle.std.specs.Prelude.{ℕ, zero, suc, ◌+◌, ◌-◌, ◌*◌, ◌/◌, ◌%◌, min, max, Bool, List, get_or, eqb, ltb}
use Rattle.std.specs.Int.Count.{under}
use Rattle.sums.specs.TermsSums.{sum_to, one_if}
use Rattle.sums.specs.ModelSums.{is}

-- How many digits a mask has: the code's is `WIDTH`.
abbrev pub mask_bits : ℕ
mask_bits = 32

-- Digit i of m, 0 or 1: the number i is a member of the set m where it is 1.
unfoldable pub bit : ℕ → ℕ → ℕ
bit m zero = m % 2
bit m (suc i) = bit (m / 2) i

-- Rows of masks as rows of 0 and 1: digit b of cell p.
abbrev pub bits_at : List ℕ → ℕ → ℕ → ℕ
bits_at rows p b = bit (get_or rows p 0) b

-- The set of the numbers below n at which f is not 0.
unfoldable pub mask_of : (ℕ → ℕ) → ℕ → ℕ
mask_of f zero = 0
mask_of f (suc n) = min 1 (f 0) + 2 * mask_of (λ i. f (suc i)) n

-- The first number below n at which f is not 0; n where there is none.
unfoldable pub first_to : ℕ → (ℕ → ℕ) → ℕ
first_to zero f = 0
first_to (suc n) f = under (f 0) (first_to n (λ i. f (suc i)))

-- Whether i is a member of s.
unfoldable pub member_of : ℕ → ℕ → Bool
member_of s i = eqb (bit s i) 1

-- The members of s, and i.
unfoldable pub with_of : ℕ → ℕ → ℕ
with_of s i = mask_of (λ j. max (bit s j) (is i j)) mask_bits

-- The members of s but i.
unfoldable pub without_of : ℕ → ℕ → ℕ
without_of s i = mask_of (λ j. bit s j - is i j) mask_bits

-- The members of s and those of t.
unfoldable pub union_of : ℕ → ℕ → ℕ
union_of s t = mask_of (λ j. max (bit s j) (bit t j)) mask_bits

-- The members that s and t share.
unfoldable pub meet_of : ℕ → ℕ → ℕ
meet_of s t = mask_of (λ j. min (bit s j) (bit t j)) mask_bits

-- The members of s that t lacks.
unfoldable pub difference_of : ℕ → ℕ → ℕ
difference_of s t = mask_of (λ j. bit s j - bit t j) mask_bits

-- The numbers below n that a mask can hold.
unfoldable pub below_of : ℕ → ℕ
below_of n = mask_of (λ j. one_if (ltb j n)) mask_bits

-- How many members s has.
unfoldable pub count_of : ℕ → ℕ
count_of s = sum_to mask_bits (λ j. bit s j)

-- The least member of s; the width where s is empty.
unfoldable pub least_of : ℕ → ℕ
least_of s = first_to mask_bits (λ j. bit s j)
