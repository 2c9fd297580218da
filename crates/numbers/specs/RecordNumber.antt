-- Numbers in the bytes of a record: a number in its bytes and back.
-- A byte is a number below 256.
-- Assumes nothing.
use Rattle.std.specs.Prelude.{ℕ, zero, suc, ◌+◌, ◌*◌, ◌/◌, ◌%◌, ◌^◌, ◌<◌, Bool, cond, List, [], ◌∷◌, ◌++◌, leb, length, take, drop, get_or}

-- "numbers are unsigned, high byte first": the number that some bytes are.
unfoldable pub number_of : List ℕ → ℕ
number_of [] = 0
number_of (b ∷ l) = b * 256 ^ length l + number_of l

-- The w bytes of a number, high byte first.
unfoldable pub bytes_of : ℕ → ℕ → List ℕ
bytes_of zero n = []
bytes_of (suc w) n = n / 256 ^ w % 256 ∷ bytes_of w n

-- Bytes are below 256.
abbrev pub Bytes : List ℕ → Type 0
Bytes l = (i : ℕ) → get_or l i 0 < 256

-- The n bytes of s from byte `at` on.
abbrev pub part : List ℕ → ℕ → ℕ → List ℕ
part s at n = take n (drop at s)

-- Whether a record of n bytes has w bytes from byte `at` on.
unfoldable pub has : ℕ → ℕ → ℕ → Bool
has n at w = leb (at + w) n

-- The number in the w bytes of s from byte `at` on; 0 where s does not have them all.
unfoldable pub number_at : List ℕ → ℕ → ℕ → ℕ
number_at s at w = cond (has (length s) at w) (number_of (part s at w)) 0

-- s with the bytes l in the place of its own from byte `at` on; s itself where it does not have as many there.
unfoldable pub written : List ℕ → ℕ → List ℕ → List ℕ
written s at l = cond (has (length s) at (length l)) (take at s ++ l ++ drop (at + length l) s) s

-- The bytes p and then s from where they end: what a record p leaves in a buffer s.
unfoldable pub over : List ℕ → List ℕ → List ℕ
over p s = p ++ drop (length p) s
