-- The order of pairs and of layouts, over 0/1 rows, and the first among the layouts of one weight.
-- Assumes nothing.
use Rattle.std.specs.Prelude.{ℕ, zero, suc, ◌+◌, ◌*◌, ◌/◌, ◌%◌, ◌≤◌, ◌<◌, ◌≡◌, Bool, cond, ◌&&◌, ◌⊎◌, ltb, leb, eqb}
use Rattle.sums.specs.TermsSums.{sum_to, every_to}
use Rattle.exchange.specs.ModelRow.{Within, Agree, weigh, cover, copies}
use Rattle.exchange.proofs.Agreeing.{SameLayout}

-- Every pair is free to change.
abbrev pub any : ℕ → ℕ → ℕ
any p b = 1

-- 1 where the pair (q, x) is (p, b) or comes after it: partitions from 0, nodes by rising id.
unfoldable pub from : ℕ → ℕ → ℕ → ℕ → ℕ
from p b q x = cond (ltb p q) 1 (cond (eqb p q && leb b x) 1 0)

-- A layout within the caps of weight A.
pub record Nearest (P N R Z : ℕ) (zone cap : ℕ → ℕ) (g : ℕ → ℕ → ℕ) (A : ℕ) (T : ℕ → ℕ → ℕ) : Type 0 where
  pub within : Within P N R Z zone cap T
  pub weighs : weigh P N g T ≡ A

-- S comes before T: at the first pair where they differ, S has it.
pub record Precedes (P N : ℕ) (S T : ℕ → ℕ → ℕ) : Type 0 where
  pub p : ℕ
  pub b : ℕ
  pub in_p : p < P
  pub in_b : b < N
  pub has : S p b ≡ 1
  pub lacks : T p b ≡ 0
  pub before : Agree P N (from p b) S T

-- The pair (p, b) of S is settled: no layout of that weight that has the same pairs before it has it where S has it not.
abbrev pub Settled : (P N R Z : ℕ) (zone cap : ℕ → ℕ) (g : ℕ → ℕ → ℕ) (A : ℕ) (S : ℕ → ℕ → ℕ) (p b : ℕ) → Type 0
Settled P N R Z zone cap g A S p b =
    (T : ℕ → ℕ → ℕ) → Nearest P N R Z zone cap g A T → Agree P N (from p b) S T → T p b ≤ S p b

-- S is the first of the layouts of that weight.
abbrev pub Foremost : (P N R Z : ℕ) (zone cap : ℕ → ℕ) (g : ℕ → ℕ → ℕ) (A : ℕ) (S : ℕ → ℕ → ℕ) → Type 0
Foremost P N R Z zone cap g A S =
    (T : ℕ → ℕ → ℕ) → Nearest P N R Z zone cap g A T → SameLayout P N S T ⊎ Precedes P N S T

-- ---- the first as a function: layouts are numbers, the first of them the largest

-- The number v with the n binary digits f 0, .., f (n - 1) after it.
unfoldable pub append : ℕ → (ℕ → ℕ) → ℕ → ℕ
append zero f v = v
append (suc n) f v = 2 * append n f v + f n

-- Digit i of the last n digits of a number, and the number without them.
unfoldable pub digit : ℕ → ℕ → ℕ → ℕ
digit zero m i = 0
digit (suc n) m i = cond (eqb i n) (m % 2) (digit n (m / 2) i)

unfoldable pub strip : ℕ → ℕ → ℕ
strip zero m = m
strip (suc n) m = strip n (m / 2)

-- The number of a layout, the layout of a number, and how many numbers there are.
unfoldable pub number : ℕ → ℕ → (ℕ → ℕ → ℕ) → ℕ
number zero N S = 0
number (suc P) N S = append N (S P) (number P N S)

unfoldable pub numbered : ℕ → ℕ → ℕ → ℕ → ℕ → ℕ
numbered zero N m p b = 0
numbered (suc P) N m p b = cond (eqb p P) (digit N m b) (numbered P N (strip N m) p b)

unfoldable pub numbers : ℕ → ℕ → ℕ
numbers zero N = 1
numbers (suc P) N = append N (λ i. 0) (numbers P N)

-- The largest number below n that passes a test; 0 where none does.
unfoldable pub largest : ℕ → (ℕ → Bool) → ℕ
largest zero t = 0
largest (suc n) t = cond (t n) n (largest n t)

-- Whether a layout of bits is within the caps and weighs A.
unfoldable pub is_nearest : (P N R Z : ℕ) (zone cap : ℕ → ℕ) (g : ℕ → ℕ → ℕ) (A : ℕ) → (ℕ → ℕ → ℕ) → Bool
is_nearest P N R Z zone cap g A S =
    every_to P (λ p. eqb (sum_to N (S p)) R && leb Z (cover N zone (S p))) && (every_to N (λ b. leb (copies P S b) (cap b)) && eqb (weigh P N g S) A)

-- The first of the layouts of weight A.
unfoldable pub first_of : (P N R Z : ℕ) (zone cap : ℕ → ℕ) (g : ℕ → ℕ → ℕ) (A : ℕ) → ℕ → ℕ → ℕ
first_of P N R Z zone cap g A = numbered P N (largest (numbers P N) (λ m. is_nearest P N R Z zone cap g A (numbered P N m)))
