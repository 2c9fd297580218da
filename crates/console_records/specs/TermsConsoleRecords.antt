-- What the C functions over records answer and what they leave in every lent slice, for all bytes, numbers and lengths.
-- Assumes nothing.
use Rattle.std.specs.Prelude.{ℕ, ◌+◌, ◌*◌, List, [], ◌∷◌, ◌++◌}
use Rattle.cluster.specs.Terms.{most_nodes}
use Rattle.cluster_record.specs.RecordClusterAnswer.{ReadCluster}
use Rattle.layout_record.specs.RecordLayoutAnswer.{ReadLayout}
use Rattle.answers.specs.TermsAnswers.{halves, node_cells_width, node_cells}

-- ---- reading a cluster

-- The cells before the nodes: byte (two cells), bits, replication, redundancy, number of nodes.
abbrev pub head_cells : ℕ
head_cells = 6

abbrev pub read_cluster_cells : ℕ
read_cluster_cells = head_cells + node_cells_width * most_nodes

-- "byte; bits; replication; redundancy; number of nodes; then 32 times id, zone, capacity, ceiling": all 32 slots, those not in use are zero.
abbrev pub cluster_numbers : ReadCluster → List ℕ
cluster_numbers r =
    halves r.byte
    ++ (r.cluster.bits ∷ r.cluster.replication ∷ r.cluster.redundancy ∷ r.cluster.count ∷ node_cells r.cluster.nodes)

-- ---- records of layouts

abbrev pub read_layout_cells : ℕ
read_layout_cells = 8

-- "byte; bits; replication; size; sent; verdict; improvements"
abbrev pub layout_numbers : ReadLayout → List ℕ
layout_numbers r =
    let n = r.numbers in
    halves r.byte ++ (n.bits ∷ n.replication ∷ n.size ∷ n.sent ∷ n.verdict ∷ n.improvements ∷ [])

-- "the record's length"
abbrev pub write_cells : ℕ
write_cells = 2
