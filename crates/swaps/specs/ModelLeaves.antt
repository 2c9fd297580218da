-- Rows by leaves: row p stands in leaf p / `leaf_rows`.
-- Assumes nothing.
use Rattle.std.specs.Prelude.{ℕ, ◌/◌, ◌≡◌, List, get_or}
use Rattle.sets.specs.ModelBits.{bit}

-- The rows of a leaf: the code's is `LEAF`.
abbrev pub leaf_rows : ℕ
leaf_rows = 4

-- The rows changed in leaves of the set m only: those of every other leaf are as they were.
pub record ChangedIn (m : ℕ) (old new : List ℕ) : Type 0 where
  pub others : (p : ℕ) → bit m (p / leaf_rows) ≡ 0 → get_or new p 0 ≡ get_or old p 0
