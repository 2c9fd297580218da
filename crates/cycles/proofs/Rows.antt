-- The numbers of a search: its nodes, and the rows of its table.
-- Assumes nothing.
use Prim.Native.Nat.{ℕ, ◌+◌, ◌-◌, ◌*◌, ◌≤◌, ◌<◌}
use mathlib.Core.Path.{◌≡◌}
use native.Mathlib.Omega.{arith}
use mathlib.Core.List.{List}
use lib.ListN.{length, take, drop, length-take, length-drop}
use Rattle.cluster.specs.Terms.{most_nodes}
use Rattle.levels.specs.ModelGraph.{table_cells}

-- A row has a cell for each node.
pub row-length : (k : ℕ) → k < most_nodes → (t : List ℕ) → length t ≡ table_cells
    → most_nodes ≤ length (take ((k + 1) * most_nodes + most_nodes - (k + 1) * most_nodes) (drop ((k + 1) * most_nodes) t))
row-length k l t e = omega (arith, length-take ((k + 1) * most_nodes + most_nodes - (k + 1) * most_nodes) (drop ((k + 1) * most_nodes) t), length-drop ((k + 1) * most_nodes) t)
