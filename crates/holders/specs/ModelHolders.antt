-- For each node the set of the partitions whose row has it, over words of `mask_bits` partitions: partition p stands in word p / `mask_bits` of the node's
-- set. After the sets stands how many partitions each has. One node more or less of a partition's row.
-- Assumes nothing.
use Rattle.std.specs.Prelude.{ℕ, ◌+◌, ◌-◌, ◌*◌, ◌/◌, ◌%◌, ◌≤◌, ◌<◌, min, max, ◌≡◌, List, length, get_or, set}
use Rattle.sums.specs.TermsSums.{sum_to}
use Rattle.sums.specs.ModelSums.{is}
use Rattle.cluster.specs.Terms.{most_nodes, buffer_rows}
use Rattle.sets.specs.ModelBits.{mask_bits, bit, with_of, without_of}
use Rattle.swaps.specs.declared.instance.Instance.{Instance}
use Rattle.swaps.specs.ModelSwaps.{Tight}

-- The words of a node's set: the code's are `WORDS`.
abbrev pub set_words : ℕ
set_words = 8

-- The cells of all sets: the code's are `COUNTS`.
abbrev pub set_cells : ℕ
set_cells = most_nodes * set_words

-- The cells of the sets and of the counts: the code's are `CELLS`.
abbrev pub holder_cells : ℕ
holder_cells = set_cells + most_nodes

-- The cell in which partition p stands in node u's set.
abbrev pub holder_cell : ℕ → ℕ → ℕ
holder_cell u p = set_words * u + p / mask_bits

-- The cell of how many partitions node u's set has.
abbrev pub count_cell : ℕ → ℕ
count_cell u = set_cells + u

-- 1 where node u's set has partition p.
unfoldable pub holds : List ℕ → ℕ → ℕ → ℕ
holds held u p = bit (get_or held (holder_cell u p) 0) (p % mask_bits)

-- The counts are those of the sets.
pub record Counted (held : List ℕ) : Type 0 where
  pub cells : length held ≡ holder_cells
  pub counts : (u : ℕ) → u < most_nodes → get_or held (count_cell u) 0 ≡ sum_to buffer_rows (holds held u)

-- The sets are those of the first P rows, and counted.
pub record Held (rows : List ℕ) (P : ℕ) (held : List ℕ) : Type 0 where
  pub cells : length held ≡ holder_cells
  pub counts : (u : ℕ) → u < most_nodes → get_or held (count_cell u) 0 ≡ sum_to buffer_rows (holds held u)
  pub here : (u p : ℕ) → u < most_nodes → p < P → holds held u p ≡ bit (get_or rows p 0) u
  pub beyond : (u p : ℕ) → u < most_nodes → P ≤ p → p < buffer_rows → holds held u p ≡ 0

-- No set has partition p.
abbrev pub Absent : ℕ → List ℕ → Type 0
Absent p held = (u : ℕ) → u < most_nodes → holds held u p ≡ 0

-- Each node at which f is 1 took partition p on.
abbrev pub Taken : (ℕ → ℕ) → ℕ → List ℕ → List ℕ → Type 0
Taken f p before after =
    (u q : ℕ) → u < most_nodes → q < buffer_rows → holds after u q ≡ max (holds before u q) (min (f u) (is p q))

-- Node v let partition p go.
abbrev pub Gone : ℕ → ℕ → List ℕ → List ℕ → Type 0
Gone v p before after =
    (u q : ℕ) → u < most_nodes → q < buffer_rows → holds after u q ≡ holds before u q - min (is v u) (is p q)

-- Node u gave way to node v in the row of partition p: sets of rows are now those of the rows with that one changed.
abbrev pub Exchanged : ℕ → ℕ → ℕ → List ℕ → List ℕ → Type 0
Exchanged p u v before after =
    (rows : List ℕ) (P : ℕ) → P ≤ buffer_rows → p < P → p < length rows → Held rows P before
    → Held (set rows p (with_of (without_of (get_or rows p 0) u) v)) P after

-- What is kept of rows goes with them: the nodes of the zones that each may not lose, and the partitions that each node holds.
pub record Follows (given : Instance) (rows zones sets : List ℕ) : Type 0 where
  pub tight : Tight given.mates.now given.z rows given.partitions zones
  pub held : Held rows given.partitions sets
