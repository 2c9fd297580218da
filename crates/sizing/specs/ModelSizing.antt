-- What the functions of this crate answer, in the terms of a cluster's topology.
-- Assumes nothing.
use Rattle.std.specs.Prelude.{ℕ, List, ◌&&◌, cond, eqb, leb, length}
use Rattle.sets.specs.ModelBits.{mask_of}
use Rattle.cells.specs.ModelCells.{put}
use Rattle.cluster.specs.Terms.{Topology, topology, partitions, fault_of}
use Rattle.incidence.specs.ModelIncidence.{zone_index, cap_at}
use Rattle.cluster.specs.declared.Cluster.{Cluster}
use Rattle.dealing.specs.ModelDeal.{dealt}
use Rattle.tallies.specs.ModelTallies.{size_bits}
use Rattle.dealing.specs.ModelSize.{best_size}
pub use Rattle.caps.specs.ModelCaps.{nodes_of, cut_bits}
unfoldable pub use Rattle.caps.specs.ModelCaps.{mate_cells, cap_cells, caps_in}

-- The largest size of so many bits whose caps have room for a layout; 0 where none has.
unfoldable pub size_of : Topology → ℕ
size_of t = best_size size_bits (partitions t) (nodes_of t) t.replication t.redundancy (zone_index t) (cap_at t)

-- The dealt layout at a size, as 0/1 rows.
unfoldable pub dealt_bits : Topology → ℕ → ℕ → ℕ → ℕ
dealt_bits t s p b = dealt (partitions t) (nodes_of t) t.replication (zone_index t) (cap_at t s) p b

-- The size that is answered: 0 for a cluster with a fault.
unfoldable pub size_in : Cluster → ℕ
size_in c = cond (eqb (fault_of c) 0) (size_of (topology c)) 0

-- The rows of the dealt layout, as sets of nodes, in the first P cells.
unfoldable pub dealt_rows : Topology → ℕ → List ℕ → List ℕ
dealt_rows t s l = put 0 (λ p. mask_of (dealt_bits t s p) (nodes_of t)) (partitions t) l

-- What lent cells hold afterwards: the same cells where the cluster has a fault or they are too few.
unfoldable pub dealt_in : Cluster → ℕ → List ℕ → List ℕ
dealt_in c s l = cond (eqb (fault_of c) 0 && leb (partitions (topology c)) (length l)) (dealt_rows (topology c) s l) l
