-- What `read_cluster` answers, and what the lent former cells then hold.
-- Assumes nothing.
use Rattle.std.specs.Prelude.{ℕ, cond, List, ◌++◌, ltb, eqb, length, drop, Result, Ok, Err}
use Rattle.cluster.specs.Terms.{layout_cells, cells_of}
use Rattle.cluster.specs.TermsReading.{no_nodes, slots_of}
use Rattle.cluster.specs.TermsRefusal.{number_of}
use Rattle.cluster.specs.declared.Cluster.{Cluster}
use Rattle.fields.specs.declared.Refused.{Refused}
use Rattle.cluster_reading.specs.RecordClusterReading.{ClusterRead, cluster_refused, read_cluster}

-- What a reading yields: the refusal, 0 for none, with its byte, and the cluster.
pub record ReadCluster : Type 0 where
  pub refusal : ℕ
  pub byte : ℕ
  pub cluster : Cluster

-- What `read_cluster` answers, as the paper's numbers: "a refused cluster reading yields the cluster with no boxes".
abbrev pub read_as : Result Cluster Refused → ReadCluster
read_as (Ok c) = record { refusal = 0; byte = 0; cluster = c }
read_as (Err r) = record { refusal = number_of r.refusal; byte = r.at; cluster = no_nodes }

-- "8: former buffer too short (byte 0). Then field by field".
unfoldable pub cluster_outcome : List ℕ → List ℕ → ClusterRead
cluster_outcome s former = cond (ltb (length former) layout_cells) (cluster_refused 8 0) (read_cluster s)

-- What an outcome answers.
unfoldable pub cluster_answer : ClusterRead → ReadCluster
cluster_answer o = record { refusal = o.refusal; byte = o.byte; cluster = slots_of o.cluster }

-- The answer for the bytes s and the lent cells `former`.
unfoldable pub read_cluster_of : List ℕ → List ℕ → ReadCluster
read_cluster_of s former = cluster_answer (cluster_outcome s former)

-- "On success, reading sets all 2,048 former cells. On refusal these cells keep what was lent"; "Cells beyond these numbers are never touched."
unfoldable pub former_read : List ℕ → List ℕ → List ℕ
former_read s former =
    cond (eqb (cluster_outcome s former).refusal 0) (cells_of (cluster_outcome s former).former ++ drop layout_cells former) former
