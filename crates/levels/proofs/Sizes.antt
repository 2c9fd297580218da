-- The numbers of a level fit.
-- Assumes nothing.
use Prim.Native.Nat.{ℕ, ◌+◌, ◌*◌, ◌≤◌, ◌<◌}
use native.Mathlib.Omega.{arith}
use mathlib.Core.List.{List}
use mir.Syntax.{w64}
use mir.Val.{Fits}
use lib.ListN.{length}
use Rattle.cluster.specs.Terms.{most_nodes}
use Rattle.levels.specs.ModelGraph.{arc_cells}

-- The sets of a node lie among the arcs, from b on.
module _ (u : ℕ) (l : u < most_nodes) (b : ℕ) (s : b ≤ 2 * most_nodes) where
  pub arcs-fit : Fits w64 (b + u)
  arcs-fit = omega arith

  pub arcs-bytes-fit : Fits w64 ((b + u) * 4)
  arcs-bytes-fit = omega arith

  pub arcs_inside : (t : List ℕ) → arc_cells ≤ length t → b + u < length t
  arcs_inside t e = omega arith
