-- What parts of `arc_cells` cells hold together: the leaves of a branch, and all branches.
-- Assumes nothing.
use Rattle.std.specs.Prelude.{ℕ, ◌+◌, ◌*◌, ◌/◌, ◌<◌, ◌≡◌, List, length, get_or, drop}
use Rattle.sums.specs.ModelSums.{max_to}
use Rattle.cluster.specs.Terms.{buffer_rows}
use Rattle.levels.specs.ModelGraph.{arc_cells}
use Rattle.sets.specs.ModelBits.{mask_bits, bit, mask_of}
use Rattle.swaps.specs.ModelLeaves.{leaf_rows}

-- The leaves of a branch, and the branches of all: the code's are `PARTS`.
abbrev pub parts : ℕ
parts = 8

-- The leaves of the rows of a layout: the code's are `LEAVES`.
abbrev pub most_leaves : ℕ
most_leaves = buffer_rows / leaf_rows

-- The cells of all leaves and branches.
abbrev pub kept_cells : ℕ
kept_cells = (most_leaves + parts) * arc_cells

-- The union of the sets in cell j of n parts, from the part k on.
unfoldable pub union_to : List ℕ → ℕ → ℕ → ℕ → ℕ
union_to kept k n j = mask_of (λ x. max_to n (λ b. bit (get_or kept ((k + b) * arc_cells + j) 0) x)) mask_bits

-- The same of the leaves of a branch, and of all branches.
abbrev pub union_at : List ℕ → ℕ → ℕ → ℕ
union_at kept k j = union_to kept k parts j

-- Part `to` has what the parts from k on hold together, and the cells of the other parts are as they were.
pub record Merged (k to : ℕ) (old new : List ℕ) : Type 0 where
  pub long : length new ≡ length old
  pub own : (j : ℕ) → j < arc_cells → get_or new (to * arc_cells + j) 0 ≡ union_at old k j
  pub others : (i : ℕ) → (i / arc_cells ≡ to → ⊥) → get_or new i 0 ≡ get_or old i 0

-- The first cells have what all branches hold together.
pub record Gathered (kept old new : List ℕ) : Type 0 where
  pub long : length new ≡ length old
  pub own : (j : ℕ) → j < arc_cells → get_or new j 0 ≡ union_at kept most_leaves j
  pub rest : drop arc_cells new ≡ drop arc_cells old
