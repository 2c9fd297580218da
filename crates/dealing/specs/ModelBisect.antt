-- The largest number below a power of two that passes a falling test, found from the highest bit down.
-- Assumes nothing.
use Rattle.std.specs.Prelude.{ℕ, zero, suc, ◌+◌, ◌^◌, ◌≤◌, ◌<◌, ◌≡◌, Bool, true, cond}

-- From s, the bits i - 1, .., 0 are tried in turn, and kept where the test passes.
unfoldable pub bisect_from : ℕ → (ℕ → Bool) → ℕ → ℕ
bisect_from zero t s = s
bisect_from (suc i) t s = bisect_from i t (cond (t (s + 2 ^ i)) (s + 2 ^ i) s)

-- The bits n - 1, .., 0 from 0.
unfoldable pub bisect : ℕ → (ℕ → Bool) → ℕ
bisect n t = bisect_from n t 0

-- r is the largest number from 1 up and below m that passes the test, or 0 where none does.
pub record Largest (m : ℕ) (t : ℕ → Bool) (r : ℕ) : Type 0 where
  pub below : r < m
  pub passes : 1 ≤ r → t r ≡ true
  pub largest : (s : ℕ) → 1 ≤ s → s < m → t s ≡ true → s ≤ r
