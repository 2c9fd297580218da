-- Lists of cells: a list overwritten from a place on.
-- Assumes nothing.
use Rattle.std.specs.Prelude.{ℕ, zero, suc, ◌+◌, List, set}

-- The list l with f 0, .., f (n - 1) in the cells from b on.
unfoldable pub put : {A : Type 0} → ℕ → (ℕ → A) → ℕ → List A → List A
put b f zero l = l
put b f (suc n) l = set (put b f n l) (b + n) (f n)
