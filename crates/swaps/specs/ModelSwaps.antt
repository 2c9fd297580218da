-- What the functions compute, over sets of nodes as masks and slices as lists.
-- Assumes nothing.
use Rattle.std.specs.Prelude.{ℕ, zero, suc, ◌+◌, ◌≤◌, ◌<◌, ◌≡◌, cond, List, length, get_or, eqb, ltb}
use Rattle.sets.specs.ModelBits.{mask_bits, without_of, union_of, meet_of, difference_of, count_of, least_of}

-- What is left of a set without its least node and that node's zone.
unfoldable pub rest_of : List ℕ → ℕ → ℕ
rest_of mates left = difference_of (without_of left (least_of left)) (get_or mates (least_of left) 0)

-- The zones told by the nodes that are left, added to a count; each step takes a node at least, so that there are as many steps as nodes at most.
unfoldable pub cover_in : ℕ → List ℕ → ℕ → ℕ → ℕ
cover_in zero mates left n = n
cover_in (suc k) mates left n = cond (eqb left 0) n (cover_in k mates (rest_of mates left) (n + 1))

-- The nodes of these zones, added to a set.
unfoldable pub covered_in : ℕ → List ℕ → ℕ → ℕ → ℕ
covered_in zero mates left nodes = nodes
covered_in (suc k) mates left nodes =
    cond (eqb left 0) nodes (covered_in k mates (rest_of mates left) (union_of nodes (get_or mates (least_of left) 0)))

-- How many zones a row touches.
unfoldable pub cover_of : List ℕ → ℕ → ℕ
cover_of mates row = cover_in mask_bits mates row 0

-- The nodes of the zones that a row touches.
unfoldable pub covered_of : List ℕ → ℕ → ℕ
covered_of mates row = covered_in mask_bits mates row 0

-- The nodes of the zones of a row that touches no more than z; none where it touches more, since then it may lose any.
unfoldable pub tight_of : List ℕ → ℕ → ℕ → ℕ
tight_of mates z row = cond (ltb z (cover_of mates row)) 0 (covered_of mates row)

-- The nodes of `all` that may take the place of a node of the zone `mate` in the row, where `tight` are the nodes of the zones that it may not lose.
unfoldable pub targets_in : ℕ → ℕ → ℕ → ℕ → ℕ
targets_in all row mate tight =
    cond (ltb 1 (count_of (meet_of row mate))) (difference_of all row) (meet_of (difference_of all row) (union_of mate (difference_of all tight)))

-- The nodes of `all` that may take a's place in a row that is to touch z zones.
unfoldable pub targets_of : List ℕ → ℕ → ℕ → ℕ → ℕ → ℕ
targets_of mates all z row a = targets_in all row (get_or mates a 0) (tight_of mates z row)

-- Cell p of `tight` tells the nodes of the zones that row p may not lose, for the first P rows.
pub record Tight (mates : List ℕ) (z : ℕ) (rows : List ℕ) (P : ℕ) (tight : List ℕ) : Type 0 where
  pub long : P ≤ length tight
  pub here : (p : ℕ) → p < P → get_or tight p 0 ≡ tight_of mates z (get_or rows p 0)
