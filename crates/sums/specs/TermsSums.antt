-- What all definitions count and list with: finite sums, tests of all indices below a bound, lists given by a function of the index.
-- Assumes nothing.
use Rattle.std.specs.Prelude.{ℕ, zero, suc, ◌+◌, Bool, true, false, ◌&&◌, List, [], ◌∷◌, ◌++◌}

-- f 0 + f 1 + .. + f (n - 1).
unfoldable pub sum_to : ℕ → (ℕ → ℕ) → ℕ
sum_to zero f = 0
sum_to (suc n) f = sum_to n f + f n

-- 1 for true, 0 for false.
unfoldable pub one_if : Bool → ℕ
one_if true = 1
one_if false = 0

-- Whether f 0, f 1, .., f (n - 1) all hold.
unfoldable pub every_to : ℕ → (ℕ → Bool) → Bool
every_to zero f = true
every_to (suc n) f = every_to n f && f n

-- f 0, f 1, .., f (n - 1).
unfoldable pub tab : {A : Type 0} → (ℕ → A) → ℕ → List A
tab f zero = []
tab f (suc n) = tab f n ++ (f n ∷ [])
