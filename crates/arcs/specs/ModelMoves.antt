-- What one row allows of each node, and what the first rows allow: cell `most_nodes` * h + a has the nodes that one of a's copies can go to at weight h - 1.
-- Assumes nothing.
use Rattle.std.specs.Prelude.{ℕ, ◌+◌, ◌*◌, ◌/◌, ◌%◌, min, max, List, get_or, set}
use Rattle.sums.specs.ModelSums.{max_to, is}
use Rattle.cluster.specs.Terms.{most_nodes}
use Rattle.sets.specs.ModelBits.{bit, union_of, meet_of, difference_of}
use Rattle.swaps.specs.ModelSwaps.{targets_of}

-- 1 where the exchange of a for b, in a row that was `former`, has weight h - 1: 1 where a was there, less 1 where b was.
unfoldable pub weighs : ℕ → ℕ → ℕ → ℕ → ℕ
weighs former h a b = is (bit former b + h) (1 + bit former a)

-- 1 where the row has the node a of cell j, which may give way to b at the weight of the cell.
unfoldable pub moves : List ℕ → ℕ → ℕ → ℕ → ℕ → ℕ → ℕ → ℕ
moves mates all z row former j b =
    min (bit row (j % most_nodes)) (min (bit (targets_of mates all z row (j % most_nodes)) b) (weighs former (j / most_nodes) (j % most_nodes) b))

-- 1 where one of the first p rows allows it.
unfoldable pub moves_to : List ℕ → List ℕ → ℕ → List ℕ → ℕ → ℕ → ℕ → ℕ → ℕ
moves_to rows former p mates all z j b = max_to p (λ q. moves mates all z (get_or rows q 0) (get_or former q 0) j b)

-- 1 where b is of `low` and cell j is at weight h - 1, or b is of `high` and the cell is at weight h.
unfoldable pub leads : ℕ → ℕ → ℕ → ℕ → ℕ → ℕ
leads h low high j b = max (min (is h (j / most_nodes)) (bit low b)) (min (is (h + 1) (j / most_nodes)) (bit high b))

-- The list with the members of s added to the set in cell i.
unfoldable pub joined : List ℕ → ℕ → ℕ → List ℕ
joined l i s = set l i (union_of (get_or l i 0) s)

-- The list with the nodes `to` in a's sets: those of the former row at the lower weight, the others at the higher.
unfoldable pub noted : List ℕ → ℕ → ℕ → ℕ → List ℕ
noted l a former to = joined (joined l (a + bit former a * most_nodes) (meet_of to former)) (a + bit former a * most_nodes + most_nodes) (difference_of to former)
