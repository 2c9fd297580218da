-- The nodes in use and the slots of a cluster.
-- Assumes nothing.
use Prim.Native.Nat.{ℕ, ◌-◌, ◌<◌}
use mathlib.Core.Path.{◌≡◌, ap}
use mathlib.Core.List.{List}
use lib.ListN.{length, get_or, replicate}
use lib.Seq.{get_or-take, take-append_seam}
use Rattle.cluster.specs.Terms.{most_nodes, Topology, topology, no_node, node_at}
use Rattle.cluster.specs.TermsReading.{slots_of}
use Rattle.cluster.specs.declared.Cluster.{Cluster}
use Rattle.cluster.specs.declared.Node.{Node}

-- A node that is in use stands in its slot.
pub node-slot : (c : Cluster) (b : ℕ) → b < c.count → node_at (topology c) b ≡ get_or c.nodes b no_node
node-slot c b h = get_or-take c.count c.nodes b no_node h

-- The nodes in use are those of the cluster.
pub topology-slots : (t : Topology) → topology (slots_of t) ≡ t
unfolding slots_of
topology-slots t =
    ap (λ (l : List Node). record { bits = t.bits; replication = t.replication; redundancy = t.redundancy; nodes = l })
    (take-append_seam t.nodes (replicate (most_nodes - length t.nodes) no_node))
