-- The exchange graph of a layout as three sets for each node: cell `most_nodes` * h + a has the nodes that one of a's copies can go to at weight h - 1.
-- Assumes nothing.
use Rattle.std.specs.Prelude.{ℕ, ◌/◌, ◌%◌, min, max, List, ◌++◌, length, get_or, drop, ltb, cond}
use Rattle.sums.specs.TermsSums.{sum_to, one_if, tab}
use Rattle.sums.specs.ModelSums.{is}
use Rattle.cluster.specs.Terms.{most_nodes}
use Rattle.levels.specs.ModelGraph.{arc_cells}
use Rattle.sets.specs.ModelBits.{mask_bits, bit, mask_of}
use Rattle.arcs.specs.ModelMoves.{moves_to}

-- How many of the first p rows have node a.
unfoldable pub copies_to : List ℕ → ℕ → ℕ → ℕ
copies_to rows p a = sum_to p (λ q. bit (get_or rows q 0) a)

-- 1 where j is the cell at weight 0 of a node with fewer copies than its cap, and b is of `all`.
unfoldable pub roomy : (ℕ → ℕ) → List ℕ → ℕ → ℕ → ℕ → ℕ
roomy copies caps all j b =
    min (is 1 (j / most_nodes)) (min (one_if (ltb (copies (j % most_nodes)) (get_or caps (j % most_nodes) 0))) (bit all b))

-- The set in cell j.
unfoldable pub cell_of : List ℕ → List ℕ → ℕ → List ℕ → List ℕ → ℕ → ℕ → ℕ → ℕ
cell_of rows former P mates caps all z j = mask_of (λ b. max (moves_to rows former P mates all z j b) (roomy (copies_to rows P) caps all j b)) mask_bits

-- All sets, in a list that has room for them.
unfoldable pub arcs_of : List ℕ → List ℕ → ℕ → List ℕ → List ℕ → ℕ → ℕ → List ℕ → List ℕ
arcs_of rows former P mates caps all z l = cond (ltb (length l) arc_cells) l (tab (cell_of rows former P mates caps all z) arc_cells ++ drop arc_cells l)
