-- What the functions of this crate answer, in the terms of a cluster's topology.
-- Assumes nothing.
use Rattle.std.specs.Prelude.{ℕ, min, List, length}
use Rattle.sums.specs.ModelSums.{is}
use Rattle.sets.specs.ModelBits.{mask_of}
use Rattle.cluster.specs.Terms.{most_bits, most_nodes, Topology, topology}
use Rattle.incidence.specs.ModelIncidence.{cap_at, cell, column}
use Rattle.cluster.specs.declared.Cluster.{Cluster}

-- How many nodes a topology has.
abbrev pub nodes_of : Topology → ℕ
nodes_of t = length t.nodes

-- For each of the first n nodes, at most as many as a cluster has, the set of the nodes of its zone.
unfoldable pub mate_cells : List ℕ → ℕ → List ℕ
mate_cells zones n = column (λ b. mask_of (λ x. is (cell zones x) (cell zones b)) (min n most_nodes)) (min n most_nodes)

-- The most copies that each node in use may hold at a size; none at the size 0.
unfoldable pub cap_cells : Topology → ℕ → List ℕ
cap_cells t s = column (cap_at t s) (nodes_of t)

-- A topology with no more bits than a cluster has.
abbrev pub cut_bits : Topology → Topology
cut_bits t = record { bits = min t.bits most_bits; replication = t.replication; redundancy = t.redundancy; nodes = t.nodes }

-- The caps that are answered, of a cluster of any bits.
unfoldable pub caps_in : Cluster → ℕ → List ℕ
caps_in c s = cap_cells (cut_bits (topology c)) s
