-- The terms of document 01, on which all claims rest: they have to be right by reading. "Box" in the papers is a node here.
-- Assumes nothing.
use Rattle.std.specs.Prelude.{ℕ, ◌+◌, ◌-◌, ◌*◌, ◌^◌, ◌/◌, ◌%◌, ◌≤◌, ◌<◌, ◌≡◌, List, [], ◌∷◌, map, Bool, true, false, not, cond, ◌&&◌, ◌||◌, ltb, leb, eqb, length, take, drop, get_or}
use Rattle.sums.specs.TermsSums.{sum_to, one_if, tab}
use Rattle.cluster.specs.declared.Cluster.{Cluster}
use Rattle.cluster.specs.declared.Node.{Node}

-- ---- the limits, each named once for all definitions; the code's are the associated constants of `Cluster`

-- "partition bits k (0 to 8), so P = 2^k partitions"
abbrev pub most_bits : ℕ
most_bits = 8

-- "replication R (1 to 8)"
abbrev pub most_copies : ℕ
most_copies = 8

-- "0 to 32 boxes"
abbrev pub most_nodes : ℕ
most_nodes = 32

-- 2026-05: "a last number of 0 to 256, the most copies this box may hold"
abbrev pub most_ceiling : ℕ
most_ceiling = 256

-- "eight to a partition"
abbrev pub row_cells : ℕ
row_cells = 8

-- The rows of a buffer: one for each partition of a cluster with the most bits.
abbrev pub buffer_rows : ℕ
buffer_rows = 2 ^ most_bits

-- "Former and assignment each take 2,048 cells of 32 bits"
abbrev pub layout_cells : ℕ
layout_cells = buffer_rows * row_cells

-- 2026-07: "former rows here have sixteen cells"
abbrev pub wide_row_cells : ℕ
wide_row_cells = 16

-- "4,096 in all"
abbrev pub wide_cells : ℕ
wide_cells = buffer_rows * wide_row_cells

-- "Scratch takes 16,384 cells of 32 bits."
abbrev pub scratch_cells : ℕ
scratch_cells = 16384

-- "A cluster has partition bits k, replication R, zone redundancy Z and boxes": its numbers and the nodes in use.
pub record Topology : Type 0 where
  pub bits : ℕ
  pub replication : ℕ
  pub redundancy : ℕ
  pub nodes : List Node

-- "Box slots not in use .. are not looked at": the nodes in use are the first `count`.
abbrev pub topology : Cluster → Topology
topology c = record { bits = c.bits; replication = c.replication; redundancy = c.redundancy; nodes = take c.count c.nodes }

-- "P = 2^k partitions numbered from 0"
abbrev pub partitions : Topology → ℕ
partitions t = 2 ^ t.bits

-- A slot that is not in use.
abbrev pub no_node : Node
no_node = record { id = 0; zone = 0; capacity = 0; ceiling = 0 }

-- Node b of the cluster, in the order of ids; b is below the number of nodes wherever this is asked.
abbrev pub node_at : Topology → ℕ → Node
node_at t b = get_or t.nodes b no_node

-- The ids of nodes, in their order.
unfoldable pub ids_of : List Node → List ℕ
ids_of l = map (λ (n : Node). n.id) l

-- ---- rows and layouts, the size, the former layout, the copies to be sent, the distance; layouts in lent cells; the faults of a cluster in hand

-- Whether a number stands in a list.
unfoldable pub mem : ℕ → List ℕ → Bool
mem i [] = false
mem i (x ∷ xs) = eqb i x || mem i xs

-- Whether each number is above the one before it, the first above `last`.
unfoldable pub rising_from : ℕ → List ℕ → Bool
rising_from last [] = true
rising_from last (x ∷ xs) = ltb last x && rising_from x xs

-- Rising ids: all different, and none is 0.
abbrev pub rising : List ℕ → Bool
rising l = rising_from 0 l

-- "A layout gives each partition a row of box ids." A row is a set of ids, written by rising id.
abbrev pub Layout : Type 0
Layout = List (List ℕ)

-- Row p of a layout.
abbrev pub row : Layout → ℕ → List ℕ
row L p = get_or L p []

-- How many different numbers a list has: each counts where it stands last.
unfoldable pub different : List ℕ → ℕ
different [] = 0
different (x ∷ xs) = one_if (not (mem x xs)) + different xs

-- The zones of the nodes that a row names.
unfoldable pub zones_named : List Node → List ℕ → List ℕ
zones_named [] r = []
zones_named (n ∷ ns) r = cond (mem n.id r) (n.zone ∷ zones_named ns r) (zones_named ns r)

-- In how many zones the nodes of a row lie; a zone counts once.
abbrev pub zones_of : List Node → List ℕ → ℕ
zones_of ns r = different (zones_named ns r)

-- How many rows of a layout name an id: the copies that the node holds.
unfoldable pub copies_in : Layout → ℕ → ℕ
copies_in [] i = 0
copies_in (r ∷ rs) i = one_if (mem i r) + copies_in rs i

-- "each row names R different boxes of the cluster, these lie in at least Z zones"
pub record ValidRow (t : Topology) (r : List ℕ) : Type 0 where
  pub ids : rising r ≡ true
  pub many : length r ≡ t.replication
  pub known : (i : ℕ) → mem i r ≡ true → mem i (ids_of t.nodes) ≡ true
  pub zones : t.redundancy ≤ zones_of t.nodes r

-- 2026-02: "usable is capacity less one sixteenth of it, rounded down": what of a node's disk may be filled.
unfoldable pub usable : Node → ℕ
usable n = n.capacity - n.capacity / 16

-- "valid at size s, s at least 1, when each row names R different boxes of the cluster, these lie in at least Z zones, and for each box,
-- copies held times s is at most its capacity", by 2026-02 its usable capacity. A node with no copies puts no limit on s. 2026-05: "A layout is
-- valid only if every box stays within its ceiling too."
pub record ValidAt (t : Topology) (L : Layout) (s : ℕ) : Type 0 where
  pub positive : 1 ≤ s
  pub partition_rows : length L ≡ partitions t
  pub rows : (p : ℕ) → p < partitions t → ValidRow t (row L p)
  pub capacities : (b : ℕ) → b < length t.nodes → copies_in L (node_at t b).id * s ≤ usable (node_at t b)
  pub ceilings : (b : ℕ) → b < length t.nodes → copies_in L (node_at t b).id ≤ (node_at t b).ceiling

-- Whether a node takes so many copies at size s: it "stays within its ceiling", and "copies held times s is at most its" usable capacity, as a test.
unfoldable pub takes : Node → ℕ → ℕ → Bool
takes n copies s = leb copies n.ceiling && leb (copies * s) (usable n)

-- "The size of a cluster is the largest whole s with a layout valid at s."
pub record IsSize (t : Topology) (s : ℕ) : Type 0 where
  pub reached : (L : Layout) × ValidAt t L s
  pub largest : (L : Layout) (s' : ℕ) → ValidAt t L s' → s' ≤ s

-- "The former layout gives each partition 0 to 8 ids, which may name boxes now gone."
pub record IsFormer (t : Topology) (F : Layout) : Type 0 where
  pub partition_rows : length F ≡ partitions t
  pub ids : (p : ℕ) → p < partitions t → rising (row F p) ≡ true
  pub few : (p : ℕ) → p < partitions t → length (row F p) ≤ most_copies

-- How many ids of the first row do not stand in the second.
unfoldable pub only_in : List ℕ → List ℕ → ℕ
only_in [] r = 0
only_in (x ∷ xs) r = one_if (not (mem x r)) + only_in xs r

-- 2026-01: "the number of pairs in the new layout and not in the former one", L the new layout and F the former one: the copies to be sent.
unfoldable pub sent : Topology → Layout → Layout → ℕ
sent t L F = sum_to (partitions t) (λ p. only_in (row L p) (row F p))

-- The pairs of the former layout, those of gone nodes included.
unfoldable pub former_copies : Topology → Layout → ℕ
former_copies t F = sum_to (partitions t) (λ p. length (row F p))

-- "The distance is the number of pairs (id, partition) standing in one of the two layouts and not in both, gone boxes included."
unfoldable pub distance : Topology → Layout → Layout → ℕ
distance t L F = sum_to (partitions t) (λ p. only_in (row L p) (row F p) + only_in (row F p) (row L p))

-- "eight to a partition, rising ids first, then zeros; rows from P on are zero": cell 8 p + j holds id j of row p, and 0 where there is none.
unfoldable pub cells_of : Layout → List ℕ
cells_of L = tab (λ c. get_or (row L (c / row_cells)) (c % row_cells) 0) layout_cells

-- The cells of row p, where each row has w.
abbrev pub row_of : ℕ → List ℕ → ℕ → List ℕ
row_of w cells p = take w (drop (p * w) cells)

-- The eight cells of row p.
abbrev pub row_at : List ℕ → ℕ → List ℕ
row_at cells p = row_of row_cells cells p

-- The ids of a row of cells: those before the first 0.
unfoldable pub ids_in : List ℕ → List ℕ
ids_in [] = []
ids_in (x ∷ xs) = cond (eqb x 0) [] (x ∷ ids_in xs)

-- Whether all cells are 0.
unfoldable pub blank : List ℕ → Bool
blank [] = true
blank (x ∷ xs) = eqb x 0 && blank xs

-- Whether cells are "rising ids followed by zeros", the first id above `last`.
unfoldable pub formed_from : ℕ → List ℕ → Bool
formed_from last [] = true
formed_from last (x ∷ xs) = cond (eqb x 0) (blank xs) (ltb last x && formed_from x xs)

abbrev pub formed : List ℕ → Bool
formed l = formed_from 0 l

-- The first n rows of lent cells, as a layout.
unfoldable pub rows_in : ℕ → List ℕ → Layout
rows_in n cells = tab (λ p. ids_in (row_at cells p)) n

-- An id "never 0", and 2026-05: "a ceiling above 256 gets 4": whether a number of a node is out of its range.
unfoldable pub node_out_of_range : Node → Bool
node_out_of_range n = eqb n.id 0 || ltb most_ceiling n.ceiling

-- Whether one of some nodes has such a number.
unfoldable pub some_out_of_range : List Node → Bool
some_out_of_range [] = false
some_out_of_range (n ∷ ns) = node_out_of_range n || some_out_of_range ns

-- "bits, replication, redundancy or an id out of range": k 0 to 8, R 1 to 8, Z 1 to R; or a number of a node in use.
unfoldable pub out_of_range : Topology → Bool
out_of_range t =
    ltb most_bits t.bits || eqb t.replication 0 || ltb most_copies t.replication || eqb t.redundancy 0 || ltb t.replication t.redundancy
    || some_out_of_range t.nodes

-- "6: more than 32 boxes. 4: bits, replication, redundancy or an id out of range. 5: ids not rising"; 0 where there is no fault.
unfoldable pub fault_of : Cluster → ℕ
fault_of c = cond (ltb most_nodes c.count) 6 (cond (out_of_range (topology c)) 4 (cond (rising (ids_of (topology c).nodes)) 0 5))
