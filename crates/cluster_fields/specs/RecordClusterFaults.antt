-- A field of a cluster record: what it says, a cluster and former rows with that, and the order of its faults, held against "Read a cluster" of
-- document 01. "Box" in the papers is a node here.
-- Assumes nothing.
use Rattle.std.specs.Prelude.{ℕ, ◌+◌, ◌-◌, ◌/◌, not, ◌||◌, cond, List, [], ◌∷◌, ◌++◌, ltb, leb, eqb, length, replicate}
use Rattle.cluster.specs.Terms.{most_bits, most_copies, most_nodes, Topology, partitions, Layout, ids_of, mem, rising, node_out_of_range}
use Rattle.cluster.specs.declared.Node.{Node}
use Rattle.fields.specs.RecordField.{number_at, node_at_byte, ids_at}

-- ---- what a field says

-- The values of one field.
pub data Item : Type 0 where
  of_bits : ℕ → Item
  of_replication : ℕ → Item
  of_redundancy : ℕ → Item
  of_node : Node → Item
  of_former_row : ℕ → List ℕ → Item

-- The values in a body of s that begins at byte `start`, by the field's tag.
unfoldable pub item_in : List ℕ → ℕ → ℕ → ℕ → Item
item_in s tag start len =
    cond (eqb tag 1) (of_bits (number_at s start 1))
    (cond (eqb tag 2) (of_replication (number_at s start 1))
    (cond (eqb tag 3) (of_redundancy (number_at s start 1))
    (cond (eqb tag 4) (of_node (node_at_byte s start))
    -- "2 + 4m: partition 2, then m rising ids"
    (of_former_row (number_at s start 2) (ids_at s (start + 2) ((len - 2) / 4))))))

-- ---- what is read with it

-- A cluster with what a field says.
unfoldable pub with_item : Topology → Item → Topology
with_item t (of_bits k) = record { bits = k; replication = t.replication; redundancy = t.redundancy; nodes = t.nodes }
with_item t (of_replication k) = record { bits = t.bits; replication = k; redundancy = t.redundancy; nodes = t.nodes }
with_item t (of_redundancy k) = record { bits = t.bits; replication = t.replication; redundancy = k; nodes = t.nodes }
with_item t (of_node n) = record { bits = t.bits; replication = t.replication; redundancy = t.redundancy; nodes = t.nodes ++ (n ∷ []) }
with_item t (of_former_row p ids) = t

-- "A partition without a row had no former copies": empty rows up to partition p.
unfoldable pub up_to : ℕ → Layout → Layout
up_to p F = F ++ replicate (p - length F) []

-- Former rows with what a field says.
unfoldable pub former_with : Layout → Item → Layout
former_with F (of_bits k) = F
former_with F (of_replication k) = F
former_with F (of_redundancy k) = F
former_with F (of_node n) = F
former_with F (of_former_row p ids) = up_to p F ++ (ids ∷ [])

-- ---- the faults of a field

-- The last number of a list, d where it is empty.
unfoldable pub last_of : ℕ → List ℕ → ℕ
last_of d [] = d
last_of d (x ∷ xs) = last_of x xs

-- "4, a value outside its range (id 0 and partition at or above P included); 5, id or partition not rising; 6, a 33rd box": the first fault of
-- what a field says, 0 where there is none. The ranges: k 0 to 8, R 1 to 8, Z 1 to R, a ceiling 0 to 256 (2026-05); the partitions before `next` are
-- passed.
unfoldable pub fault_in : Topology → ℕ → Item → ℕ
fault_in t next (of_bits k) = cond (ltb most_bits k) 4 0
fault_in t next (of_replication k) = cond (eqb k 0 || ltb most_copies k) 4 0
fault_in t next (of_redundancy k) = cond (eqb k 0 || ltb t.replication k) 4 0
fault_in t next (of_node n) =
    cond (node_out_of_range n) 4 (cond (leb n.id (last_of 0 (ids_of t.nodes))) 5 (cond (leb most_nodes (length t.nodes)) 6 0))
fault_in t next (of_former_row p ids) = cond (leb (partitions t) p || mem 0 ids) 4 (cond (ltb p next || not (rising ids)) 5 0)
