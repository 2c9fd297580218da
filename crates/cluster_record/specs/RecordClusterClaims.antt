-- What the theorems about cluster records say of a reading.
-- Assumes nothing.
use Rattle.std.specs.Prelude.{ℕ, ◌≤◌, ◌≡◌, List, ◌++◌, drop}
use Rattle.cluster.specs.Terms.{most_nodes, layout_cells, Topology, topology, Layout, cells_of, fault_of}
use Rattle.cluster.specs.declared.Cluster.{Cluster}
use Rattle.cluster.specs.TermsReading.{slots_of}
use Rattle.cluster_reading.specs.RecordClusterReading.{read_cluster}
use Rattle.cluster_record.specs.RecordClusterAnswer.{read_cluster_of, former_read}

-- The reading of s is not refused and yields the cluster t and the former layout F.
pub record ReadsCluster (s : List ℕ) (t : Topology) (F : Layout) : Type 0 where
  pub refusal : (read_cluster s).refusal ≡ 0
  pub cluster : (read_cluster s).cluster ≡ t
  pub former : (read_cluster s).former ≡ F

-- `read_cluster` answers the cluster t, its unused slots zero, and leaves the cells of F in the lent ones.
pub record AnswersCluster (s former : List ℕ) (t : Topology) (F : Layout) : Type 0 where
  pub answer : read_cluster_of s former ≡ record { refusal = 0; byte = 0; cluster = slots_of t }
  pub after : former_read s former ≡ cells_of F ++ drop layout_cells former

-- A cluster that is answered, whatever came in: its unused slots are zero, it has at most 32 nodes, and no fault.
pub record Yielded (c : Cluster) : Type 0 where
  pub slots : c ≡ slots_of (topology c)
  pub few : c.count ≤ most_nodes
  pub sound : fault_of c ≡ 0
