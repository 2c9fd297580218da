-- What is read off a walk, over sets of nodes as masks and slices as lists: the test for an exchange, the witness of an arc, the same arcs again in
-- other rows, and whether a part of a walk gains.
-- Assumes nothing.
use Rattle.std.specs.Prelude.{ℕ, suc, ◌+◌, ◌-◌, ◌<◌, ◌≡◌, Bool, ◌&&◌, not, cond, List, get_or, eqb, ltb}
use Rattle.sums.specs.TermsSums.{every_to}
use Rattle.sets.specs.ModelBits.{mask_bits, bit, bits_at, member_of}
use Rattle.swaps.specs.ModelSwaps.{targets_of}
use Rattle.levels.specs.ModelGraph.{weight_of}
use Rattle.sums.specs.ModelSums.{first_from}
use Rattle.exchange.specs.ModelRow.{copies}
use Rattle.exchange.specs.ModelCircuit.{cost}
use Rattle.exchange.specs.ModelUncross.{Walk, walk, inner, walk_costs}

-- Whether node a of row p may give way to node b.
unfoldable pub ok_of : List ℕ → List ℕ → ℕ → ℕ → ℕ → ℕ → ℕ → Bool
ok_of rows mates all z p a b = member_of (targets_of mates all z (get_or rows p 0) a) b

-- Whether the number j of a word is in `own` and not in `other`, and that exchange has the weight w, where the two had `owned` and `othered`.
unfoldable pub picked : ℕ → ℕ → ℕ → ℕ → ℕ → ℕ → Bool
picked own other owned othered w j = member_of own j && not (member_of other j) && eqb (1 + bit owned j) (w + bit othered j)

-- The set r of those numbers.
abbrev pub Picks : ℕ → ℕ → ℕ → ℕ → ℕ → ℕ → Type 0
Picks own other owned othered w r = (j : ℕ) → j < mask_bits → member_of r j ≡ picked own other owned othered w j

-- The first of the numbers of a word, which begins at partition `base`, in whose row u may give way to v; the width where there is none.
unfoldable pub sifted_of : List ℕ → List ℕ → ℕ → ℕ → ℕ → ℕ → ℕ → ℕ → ℕ
sifted_of rows mates all z u v base word = first_from (λ j. member_of word j && ok_of rows mates all z (base + j) u v) mask_bits 0

-- Whether the exchange of u for v is one of the row, at the weight w, where the partition had the row old.
unfoldable pub suits_of : List ℕ → ℕ → ℕ → ℕ → ℕ → ℕ → ℕ → ℕ → Bool
suits_of mates all z row old w u v =
    member_of row u && not (member_of row v) && eqb (1 + bit old u) (w + bit old v) && member_of (targets_of mates all z row u) v

-- The same of the partition p.
abbrev pub suits_at : List ℕ → List ℕ → List ℕ → ℕ → ℕ → ℕ → ℕ → ℕ → ℕ → Bool
suits_at rows former mates all z w u v p = suits_of mates all z (get_or rows p 0) (get_or former p 0) w u v

-- The first partition below P with the exchange of u for v at the arc's weight; P where there is none.
unfoldable pub witness_of : List ℕ → List ℕ → ℕ → List ℕ → List ℕ → ℕ → ℕ → ℕ → ℕ → ℕ
witness_of rows former P mates arcs all z u v = first_from (suits_at rows former mates all z (weight_of arcs u v) u v) P 0

-- The walk of m arcs whose nodes and partitions are cells.
abbrev pub walk_in : ℕ → List ℕ → List ℕ → Walk
walk_in m ys qs = walk m (λ t. get_or ys t 0) (λ t. get_or qs t 0)

-- Whether the inner part of a walk at the arcs i and j gains.
abbrev pub inner_gains : ℕ → (ℕ → ℕ → ℕ) → Walk → ℕ → ℕ → Bool
inner_gains P g w i j = ltb (walk_costs P 1 g (inner w i j)) (j - i)

-- ---- the same walk again

-- Whether node u has fewer copies in the rows than its cap.
unfoldable pub room_at : List ℕ → ℕ → List ℕ → ℕ → Bool
room_at rows P caps u = ltb (copies P (bits_at rows) u) (get_or caps u 0)

module _ (rows former : List ℕ) (P : ℕ) (mates : List ℕ) (all z : ℕ) where
  -- The first partition from q on with the exchange of u for v at the cost that it had at q, P where there is none; P for a step over the store.
  unfoldable pub renewed_at : ℕ → ℕ → ℕ → ℕ
  renewed_at q u v = cond (ltb q P) (first_from (suits_at rows former mates all z (cost P 1 (bits_at former) q u v) u v) (P - q) q) P

  -- The walk with new partitions for its arcs.
  abbrev pub renewed : Walk → Walk
  renewed w = walk w.len w.node (λ t. renewed_at (w.partition t) (w.node (suc t)) (w.node t))

  module _ (caps : List ℕ) where
    -- Whether there is such a partition; of a step over the store, whether u has room.
    unfoldable pub stands_at : ℕ → ℕ → ℕ → Bool
    stands_at q u v = cond (ltb q P) (ltb (renewed_at q u v) P) (room_at rows P caps u)

    -- Whether a walk has arcs, and each of them stands in the rows.
    unfoldable pub stands : Walk → Bool
    stands w = ltb 0 w.len && every_to w.len (λ t. stands_at (w.partition t) (w.node (suc t)) (w.node t))
