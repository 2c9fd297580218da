-- The exchange graph that three sets for each node stand for: cell u holds the nodes that u's arcs of weight −1 lead to, cell `most_nodes` + u those at
-- weight 0, and cell 2 * `most_nodes` + u those at weight +1. A node in several of them counts with its least weight.
-- Assumes nothing.
use Rattle.std.specs.Prelude.{ℕ, ◌+◌, max, ◌*◌, cond, List, get_or}
use Rattle.cluster.specs.Terms.{most_nodes}
use Rattle.sets.specs.ModelBits.{bit, member_of}
use Rattle.exchange.specs.ModelLevels.{Graph}

-- The cells of a graph's arcs: three sets for each node.
abbrev pub arc_cells : ℕ
arc_cells = 3 * most_nodes

-- The cells of a search's table: a row of nodes for each level, from 0 on.
abbrev pub table_cells : ℕ
table_cells = (most_nodes + 1) * most_nodes

-- 1 where one of the three masks of u has v.
unfoldable pub arc_of : List ℕ → ℕ → ℕ → ℕ
arc_of arcs u v = max (bit (get_or arcs u 0) v) (max (bit (get_or arcs (most_nodes + u) 0) v) (bit (get_or arcs (2 * most_nodes + u) 0) v))

-- The least weight from u to v, and 1.
unfoldable pub weight_of : List ℕ → ℕ → ℕ → ℕ
weight_of arcs u v = cond (member_of (get_or arcs u 0) v) 0 (cond (member_of (get_or arcs (most_nodes + u) 0) v) 1 2)

-- The graph on n nodes.
abbrev pub graph_of : List ℕ → ℕ → Graph
graph_of arcs n = record { N = n; C = 1; arc = arc_of arcs; W = weight_of arcs }
