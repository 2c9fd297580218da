-- What a cluster record is, from the format: the bytes of a cluster and its former layout.
-- Assumes nothing.
use Rattle.std.specs.Prelude.{ℕ, suc, ◌+◌, ◌*◌, ◌^◌, ◌<◌, ◌≡◌, List, [], ◌∷◌, ◌++◌, get_or}
use Rattle.cluster.specs.Terms.{most_nodes, buffer_rows, Topology, Layout, node_at, row, IsFormer}
use Rattle.cluster.specs.declared.Node.{Node}
use Rattle.cluster.specs.TermsReading.{Accepted}
use Rattle.fields.specs.RecordField.{bytes_of, node_width, node_bytes, FitsNode, head_width, longest_field, field, id_bytes}

-- "1 bits (1 byte), 2 replication (1), 3 redundancy (1)"
unfoldable pub bits_field : Topology → List ℕ
bits_field t = field 1 (bytes_of 1 t.bits)

unfoldable pub replication_field : Topology → List ℕ
replication_field t = field 2 (bytes_of 1 t.replication)

unfoldable pub redundancy_field : Topology → List ℕ
redundancy_field t = field 3 (bytes_of 1 t.redundancy)

-- "4 box (.. id 4, zone 2, capacity 4)", by 2026-05 with the ceiling
unfoldable pub node_field : Node → List ℕ
node_field n = field 4 (node_bytes n)

-- A field for each node.
unfoldable pub node_fields : List Node → List ℕ
node_fields [] = []
node_fields (n ∷ ns) = node_field n ++ node_fields ns

-- "5 former row (2 + 4m: partition 2, then m rising ids, m from 1 to 8)"; "A partition without a row had no former copies."
unfoldable pub former_field : ℕ → List ℕ → List ℕ
former_field p [] = []
former_field p (i ∷ l) = field 5 (bytes_of 2 p ++ id_bytes (i ∷ l))

-- "by rising partition": the fields of the rows of the partitions p, p + 1 and on.
unfoldable pub former_fields : ℕ → Layout → List ℕ
former_fields p [] = []
former_fields p (r ∷ rs) = former_field p r ++ former_fields (suc p) rs

-- "Cluster record: 1 bits, 2 replication, 3 redundancy, once each in this order; then 4 box, by rising id; then 5 former row, by rising partition."
unfoldable pub cluster_record : Topology → Layout → List ℕ
cluster_record t F = bits_field t ++ (replication_field t ++ (redundancy_field t ++ (node_fields t.nodes ++ former_fields 0 F)))

-- The numbers that a record holds fit the bytes that it has for them: those of a node, and four for each id of a row.
pub record FitsRecord (t : Topology) (F : Layout) : Type 0 where
  pub nodes : (b : ℕ) → FitsNode (node_at t b)
  pub former : (p j : ℕ) → get_or (row F p) j 0 < 2 ^ 32

-- s is the record of an accepted cluster and its former layout.
pub record IsClusterRecord (s : List ℕ) (t : Topology) (F : Layout) : Type 0 where
  pub bytes : s ≡ cluster_record t F
  pub accepted : Accepted t
  pub former : IsFormer t F
  pub fits : FitsRecord t F

-- The bytes of the longest record: three fields of one byte, one for each of 32 nodes, and the longest row for each of 256. It is 9,964.
abbrev pub longest_record : ℕ
longest_record = 3 * (head_width + 1) + most_nodes * (head_width + node_width) + buffer_rows * longest_field

-- The bytes that decide every reading: those of the longest record and of one more field. It is 10,001.
abbrev pub deciding_bytes : ℕ
deciding_bytes = longest_record + longest_field
