-- A cluster that was read or changed has no more nodes than slots, so their number fits a cell.
-- Assumes nothing.
use Prim.Native.Nat.{ℕ, ◌-◌, ◌≤◌}
use mathlib.Core.Path.{◌≡◌, sym, subst}
use mathlib.Core.List.{List}
use native.Mathlib.Omega.{arith}
use lib.ListN.{length, replicate, length-append, length-replicate}
use Rattle.cluster.specs.Terms.{most_nodes, Topology, no_node}
use Rattle.cluster.specs.TermsReading.{slots_of}
use Rattle.cluster_record.specs.RecordClusterAnswer.{cluster_outcome, cluster_answer, read_cluster_of}
use Rattle.cluster_record.specs.RecordClusterAnswer.{ReadCluster}

-- The slots of a cluster are 32 in every program.
pub slots_few : (t : Topology) → length (slots_of t).nodes ≡ most_nodes → (slots_of t).count ≤ most_nodes
unfolding slots_of
slots_few t e =
    omega (arith, length-append t.nodes (replicate (most_nodes - length t.nodes) no_node), length-replicate (most_nodes - length t.nodes) no_node)

pub read_few : (s former : List ℕ) (r : ReadCluster) → r ≡ read_cluster_of s former → length r.cluster.nodes ≡ most_nodes → r.cluster.count ≤ most_nodes
unfolding read_cluster_of cluster_answer
read_few s former r e =
    subst (λ (x : ReadCluster). length x.cluster.nodes ≡ most_nodes → x.cluster.count ≤ most_nodes) (sym e) (slots_few (cluster_outcome s former).cluster)
