-- The indicator of one index, the largest of some numbers, how often a number stands among them, and the first that passes a test.
-- Assumes nothing.
use Rattle.std.specs.Prelude.{ℕ, zero, suc, max, Bool, cond, eqb}
use Rattle.sums.specs.TermsSums.{sum_to, one_if}

-- 1 where the two numbers are equal, else 0.
unfoldable pub is : ℕ → ℕ → ℕ
is a b = one_if (eqb a b)

-- The largest of f 0, .., f (n - 1); 0 where there is none.
unfoldable pub max_to : ℕ → (ℕ → ℕ) → ℕ
max_to zero f = 0
max_to (suc n) f = max (max_to n f) (f n)

-- How many of y 0, .., y (m - 1) are v.
unfoldable pub hits : ℕ → (ℕ → ℕ) → ℕ → ℕ
hits m y v = sum_to m (λ i. is (y i) v)

-- The first of i, i + 1, .., i + n - 1 that passes the test; i + n if none does.
unfoldable pub first_from : (ℕ → Bool) → ℕ → ℕ → ℕ
first_from t zero i = i
first_from t (suc n) i = cond (t i) i (first_from t n (suc i))
