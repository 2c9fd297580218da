-- Even exchanges over sets of nodes as masks: an exchange of a for b is even where the levels differ by just the weight that it loses.
-- Assumes nothing.
use Rattle.std.specs.Prelude.{ℕ, ◌+◌, ◌*◌, ◌≤◌, ◌<◌, min, max, ◌≡◌, List, length, get_or, ltb}
use Rattle.sums.specs.TermsSums.{one_if, tab}
use Rattle.sums.specs.ModelSums.{is}
use Rattle.cluster.specs.Terms.{most_nodes}
use Rattle.sets.specs.ModelBits.{mask_bits, bit, mask_of, union_of, meet_of, difference_of, below_of}
use Rattle.swaps.specs.ModelSwaps.{targets_of}
use Rattle.waves.specs.ModelWaves.{spread_of}
use Rattle.levels.specs.ModelGraph.{arc_cells}

-- Cell `most_nodes` * h + a of `even` is the set of the nodes below N that stand h - 1 above a, where node b stands at d b.
pub record Levelled (N : ℕ) (d : ℕ → ℕ) (even : List ℕ) : Type 0 where
  pub cells : length even ≡ arc_cells
  pub sets : (h a b : ℕ) → h < 3 → a < N → b < N → bit (get_or even (most_nodes * h + a) 0) b ≡ is (d b + 1) (d a + h)
  pub beyond : (h a b : ℕ) → h < 3 → a < N → N ≤ b → b < most_nodes → bit (get_or even (most_nodes * h + a) 0) b ≡ 0

-- The nodes to which u leads at the start: those of its three sets of arcs that stand where the weight puts them.
unfoldable pub lead_of : List ℕ → List ℕ → ℕ → ℕ
lead_of arcs even u =
    union_of (meet_of (get_or arcs u 0) (get_or even u 0))
    (union_of (meet_of (get_or arcs (most_nodes + u) 0) (get_or even (most_nodes + u) 0)) (meet_of (get_or arcs (2 * most_nodes + u) 0) (get_or even (2 * most_nodes + u) 0)))

-- The nodes that a could be exchanged for evenly, in a row that was `former`, as far as levels and weights tell.
unfoldable pub even_of : List ℕ → ℕ → ℕ → ℕ
even_of even former a =
    union_of (meet_of former (get_or even (a + bit former a * most_nodes) 0)) (difference_of (get_or even (a + bit former a * most_nodes + most_nodes) 0) former)

-- The nodes to which a may give way evenly in the row.
unfoldable pub even_to : List ℕ → ℕ → ℕ → List ℕ → ℕ → ℕ → ℕ → ℕ
even_to mates all z even row former a = meet_of (targets_of mates all z row a) (even_of even former a)

-- The nodes of the row after b that may give way to b evenly.
unfoldable pub givers_of : List ℕ → ℕ → ℕ → List ℕ → ℕ → ℕ → ℕ → ℕ
givers_of mates all z even row former b =
    mask_of (λ a. min (min (bit row a) (one_if (ltb b a))) (min (bit (even_of even former b) a) (bit (targets_of mates all z row a) b))) mask_bits

-- For each node a those before it that it could be exchanged for evenly, as far as levels and weights tell.
unfoldable pub earlier_of : List ℕ → ℕ → List ℕ
earlier_of even former = tab (λ a. meet_of (even_of even former a) (below_of a)) most_nodes

-- The nodes that a later node of the row could give way to evenly, as far as that tells.
unfoldable pub wanted_of : List ℕ → ℕ → ℕ → ℕ
wanted_of even row former = spread_of (earlier_of even former) row

-- Each node of the row leads to those to which it may give way evenly, too; all else is as it was.
pub record Widened (mates : List ℕ) (all z : ℕ) (even : List ℕ) (row former : ℕ) (old new : List ℕ) : Type 0 where
  pub long : length new ≡ length old
  pub bits : (u v : ℕ) → u < most_nodes → v < most_nodes
      → bit (get_or new u 0) v ≡ max (bit (get_or old u 0) v) (min (bit row u) (bit (even_to mates all z even row former u) v))
