-- What is kept of rows, in parts of `arc_cells` cells: the sets that the rows of a leaf allow, for each leaf, and those of a branch, for each branch.
-- Assumes nothing.
use Rattle.std.specs.Prelude.{ℕ, ◌+◌, ◌-◌, ◌*◌, ◌/◌, ◌<◌, min, ◌≡◌, List, length, get_or, drop}
use Rattle.cluster.specs.Terms.{most_nodes}
use Rattle.levels.specs.ModelGraph.{arc_cells}
use Rattle.sets.specs.ModelBits.{bit}
use Rattle.swaps.specs.ModelLeaves.{leaf_rows}
use Rattle.arcs.specs.ModelMoves.{moves_to}
use Rattle.unions.specs.ModelUnions.{parts, most_leaves, kept_cells}

-- The rows of a branch.
abbrev pub branch_rows : ℕ
branch_rows = parts * leaf_rows

-- Part k of the cells holds what n rows allow, from the row `first` on.
pub record Part (rows former mates : List ℕ) (all z first n k : ℕ) (kept : List ℕ) : Type 0 where
  pub sets : (j x : ℕ) → j < arc_cells → x < most_nodes
      → bit (get_or kept (k * arc_cells + j) 0) x ≡ moves_to (drop first rows) (drop first former) n mates all z j x

-- How many of P rows stand in number b of the parts of `size` rows.
abbrev pub rows_in : ℕ → ℕ → ℕ → ℕ
rows_in size P b = min size (P - size * b)

-- Leaf l holds what its rows allow; a leaf past the last row has none.
abbrev pub Leaf : List ℕ → List ℕ → ℕ → List ℕ → ℕ → ℕ → ℕ → List ℕ → Type 0
Leaf rows former P mates all z l kept = Part rows former mates all z (leaf_rows * l) (rows_in leaf_rows P l) l kept

-- Branch i holds what its rows allow.
abbrev pub Branch : List ℕ → List ℕ → ℕ → List ℕ → ℕ → ℕ → ℕ → List ℕ → Type 0
Branch rows former P mates all z i kept = Part rows former mates all z (branch_rows * i) (rows_in branch_rows P i) (most_leaves + i) kept

-- Each leaf with stale l ≡ 0 holds what its rows allow, and so does each branch of such leaves.
pub record Kept (rows former : List ℕ) (P : ℕ) (mates : List ℕ) (all z : ℕ) (stale : ℕ → ℕ) (kept : List ℕ) : Type 0 where
  pub long : length kept ≡ kept_cells
  pub leaf : (l : ℕ) → l < most_leaves → stale l ≡ 0 → Leaf rows former P mates all z l kept
  pub branch : (i : ℕ) → i < parts → ((b : ℕ) → b < parts → stale (parts * i + b) ≡ 0) → Branch rows former P mates all z i kept

-- Leaf l is filled anew, and the cells of the other parts are as they were.
pub record Filled (rows former : List ℕ) (P : ℕ) (mates : List ℕ) (all z l : ℕ) (old new : List ℕ) : Type 0 where
  pub long : length new ≡ length old
  pub own : Leaf rows former P mates all z l new
  pub others : (i : ℕ) → (i / arc_cells ≡ l → ⊥) → get_or new i 0 ≡ get_or old i 0

-- Branch i and its leaves hold what their rows allow, and the cells of the other parts are as they were.
pub record Renewed (rows former : List ℕ) (P : ℕ) (mates : List ℕ) (all z i : ℕ) (old new : List ℕ) : Type 0 where
  pub long : length new ≡ length old
  pub leaves : (b : ℕ) → b < parts → Leaf rows former P mates all z (parts * i + b) new
  pub own : Branch rows former P mates all z i new
  pub others : (c : ℕ) → (c / arc_cells / parts ≡ i → ⊥) → (c / arc_cells ≡ most_leaves + i → ⊥) → get_or new c 0 ≡ get_or old c 0
