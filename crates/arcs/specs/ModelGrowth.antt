-- How the loops change a list: the sets of all nodes grow.
-- Assumes nothing.
use Rattle.std.specs.Prelude.{ℕ, ◌<◌, max, ◌≡◌, List, length, get_or, drop}
use Rattle.cluster.specs.Terms.{most_nodes}
use Rattle.levels.specs.ModelGraph.{arc_cells}
use Rattle.sets.specs.ModelBits.{bit}

-- Each set j has the old members and each b with add j b ≡ 1; the other cells are kept.
pub record Grown (add : ℕ → ℕ → ℕ) (old new : List ℕ) : Type 0 where
  pub long : length new ≡ length old
  pub bits : (j b : ℕ) → j < arc_cells → b < most_nodes → bit (get_or new j 0) b ≡ max (bit (get_or old j 0) b) (add j b)
  pub rest : drop arc_cells new ≡ drop arc_cells old

-- Each set j has each b with f j b ≡ 1 and no others.
pub record Written (f : ℕ → ℕ → ℕ) (old new : List ℕ) : Type 0 where
  pub long : length new ≡ length old
  pub bits : (j b : ℕ) → j < arc_cells → b < most_nodes → bit (get_or new j 0) b ≡ f j b
