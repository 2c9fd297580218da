-- The nodes of a cluster by rising id, where the node of one id gives way to others. "Box" in the papers is a node here.
-- Assumes nothing.
use Rattle.std.specs.Prelude.{ℕ, cond, List, [], ◌∷◌, ◌++◌, ltb, eqb}
use Rattle.cluster.specs.Terms.{Topology, no_node}
use Rattle.cluster.specs.declared.Node.{Node}

-- The nodes whose ids are below a number, those that have it as their id, those whose ids are above it, each in their order.
unfoldable pub nodes_below : ℕ → List Node → List Node
nodes_below i [] = []
nodes_below i (n ∷ ns) = cond (ltb n.id i) (n ∷ nodes_below i ns) (nodes_below i ns)

unfoldable pub nodes_with : ℕ → List Node → List Node
nodes_with i [] = []
nodes_with i (n ∷ ns) = cond (eqb n.id i) (n ∷ nodes_with i ns) (nodes_with i ns)

unfoldable pub nodes_above : ℕ → List Node → List Node
nodes_above i [] = []
nodes_above i (n ∷ ns) = cond (ltb i n.id) (n ∷ nodes_above i ns) (nodes_above i ns)

-- The node of an id, the first where there are several; a slot that is not in use where there is none.
unfoldable pub node_with : ℕ → List Node → Node
node_with i [] = no_node
node_with i (n ∷ ns) = cond (eqb n.id i) n (node_with i ns)

-- Nodes by rising id with those of an id, none or one, replaced by others: they stand where that id has its place.
unfoldable pub replaced : ℕ → List Node → List Node → List Node
replaced i new l = nodes_below i l ++ (new ++ nodes_above i l)

-- A cluster with other nodes; its k, R and Z are kept.
abbrev pub with_nodes : Topology → List Node → Topology
with_nodes t l = record { bits = t.bits; replication = t.replication; redundancy = t.redundancy; nodes = l }
