-- Reading a cluster record: what was read so far, and the walk over the fields, held against "Read a cluster" of document 01. "Box" in the
-- papers is a node here.
-- Assumes nothing.
use Rattle.std.specs.Prelude.{ℕ, zero, suc, ◌+◌, cond, List, [], ◌∷◌, ltb, leb, eqb, length}
use Rattle.cluster.specs.Terms.{Topology, topology, partitions, Layout}
use Rattle.cluster.specs.TermsReading.{no_nodes}
use Rattle.cluster.specs.TermsRefusal.{number_of}
use Rattle.fields.specs.RecordField.{field_at}
use Rattle.fields.specs.declared.Field.{Field}
use Rattle.fields.specs.declared.Field.TheVariants.{Body, Refused}
use Rattle.cluster_fields.specs.RecordClusterFaults.{Item, item_in, with_item, up_to, former_with, fault_in}

-- ---- what was read so far

-- The tag of the last field, 0 before the first; the cluster; the former rows of the partitions up to the last one that had a row.
pub record Reading : Type 0 where
  pub last : ℕ
  pub cluster : Topology
  pub former : Layout

-- Before the first field: the cluster with no nodes.
unfoldable pub nothing_read : Reading
nothing_read = record { last = 0; cluster = topology no_nodes; former = [] }

-- "1 bits, 2 replication, 3 redundancy, once each in this order; then 4 box; then 5 former row": the tags allowed after the last one, 0 for none yet.
unfoldable pub allowed_after : ℕ → List ℕ
allowed_after last =
    cond (ltb last 3) ((last + 1) ∷ []) (cond (ltb last 5) (4 ∷ 5 ∷ []) (5 ∷ []))

-- What was read so far, with a field of this tag.
unfoldable pub reading_with : Reading → ℕ → Item → Reading
reading_with r tag i = record { last = tag; cluster = with_item r.cluster i; former = former_with r.former i }

-- ---- the walk

-- What a reading yields: the refusal, 0 for none, with its byte; the cluster and its former layout.
pub record ClusterRead : Type 0 where
  pub refusal : ℕ
  pub byte : ℕ
  pub cluster : Topology
  pub former : Layout

-- "a refused cluster reading yields the cluster with no boxes"
abbrev pub cluster_refused : ℕ → ℕ → ClusterRead
cluster_refused refusal byte = record { refusal = refusal; byte = byte; cluster = topology no_nodes; former = [] }

-- At the end of the bytes: "7: the end comes before field 3 is read; the byte given is the record's length." Else the record is accepted.
unfoldable pub ended : List ℕ → Reading → ClusterRead
ended s r =
    cond (ltb r.last 3) (cluster_refused 7 (length s))
    (record { refusal = 0; byte = 0; cluster = r.cluster; former = up_to (partitions r.cluster) r.former })

-- "field by field, the first fault decides", with the byte at which the field begins; without fault the reading goes on after the field.
unfoldable pub after_field : (ℕ → Reading → ClusterRead) → List ℕ → ℕ → Reading → Field → ClusterRead
after_field go s at r (Refused refusal byte) = cluster_refused (number_of refusal) byte
after_field go s at r (Body tag start len) =
    let item = item_in s tag start len in
    let fault = fault_in r.cluster (length r.former) item in
    cond (eqb fault 0) (go (start + len) (reading_with r tag item)) (cluster_refused fault at)

-- The walk over the fields from byte `at` on, k fields at most; as many as there are bytes are enough (`walk_enough`).
unfoldable pub walk : ℕ → List ℕ → ℕ → Reading → ClusterRead
walk zero s at r = ended s r
walk (suc k) s at r =
    cond (leb (length s) at) (ended s r)
    (after_field (λ next q. walk k s next q) s at r (field_at s at (allowed_after r.last) 0))

-- Reading the record s into a buffer that is long enough.
unfoldable pub read_cluster : List ℕ → ClusterRead
read_cluster s = walk (length s) s 0 nothing_read
