-- One step of each scan, over plain numbers and lists.
-- Assumes nothing.
use Prim.Native.Nat.{ℕ, zero, suc, ◌+◌, ◌-◌, ◌^◌, ◌≤◌, ◌<◌}
use mathlib.Core.Path.{◌≡◌, refl, sym, ap, ◌∙◌}
use mathlib.Core.Bool.{Bool, true, false, cond}
use mathlib.Core.List.{List}
use mathlib.Core.Logic.{⊎_elim}
use native.Mathlib.Omega.{arith}
use lib.Dec.{ltb}
use lib.ListN.{get_or}
use borrow.Author.Tests.{eq-eqb, ne_eqb, lt-ltb, le-ltb}
use Rattle.sums.proofs.Sum.{eq_or_ne}
use Rattle.sets.specs.ModelBits.{mask_bits, without_of, union_of, meet_of, difference_of, count_of, least_of}
use Rattle.sets.proofs.Laws.{bit_zero, bit_ext, bit-union, bit-meet, bit-difference, meet_lt, difference_lt, without_lt, without-none, least-none, least-taken, count-difference, count_empty}
use Rattle.swaps.specs.ModelSwaps.{rest_of, cover_in, covered_in, cover_of, covered_of, tight_of, targets_in, targets_of}

-- A scan's next fuel.
pub fuel : (n : ℕ) → n < mask_bits → mask_bits - n ≡ suc (mask_bits - (n + 1))
fuel n l = omega arith

-- A zone more.
pub cover-more : (k j : ℕ) (mates : List ℕ) (left n : ℕ) → k ≡ suc j → (left ≡ 0 → ⊥) → cover_in k mates left n ≡ cover_in j mates (rest_of mates left) (n + 1)
unfolding cover_in
cover-more k j mates left n e h = rw (e, ne_eqb left 0 h)

-- No zone more.
pub cover_done : (k : ℕ) (mates : List ℕ) (left n : ℕ) → left ≡ 0 → cover_in k mates left n ≡ n
unfolding cover_in
cover_done zero mates left n e = refl
cover_done (suc k) mates left n e = rw (eq-eqb left 0 e)

-- The nodes of a zone more.
pub covered_more : (k j : ℕ) (mates : List ℕ) (left nodes : ℕ) → k ≡ suc j → (left ≡ 0 → ⊥)
    → covered_in k mates left nodes ≡ covered_in j mates (rest_of mates left) (union_of nodes (get_or mates (least_of left) 0))
unfolding covered_in
covered_more k j mates left nodes e h = rw (e, ne_eqb left 0 h)

-- No zone more.
pub covered_done : (k : ℕ) (mates : List ℕ) (left nodes : ℕ) → left ≡ 0 → covered_in k mates left nodes ≡ nodes
unfolding covered_in
covered_done zero mates left nodes e = refl
covered_done (suc k) mates left nodes e = rw (eq-eqb left 0 e)

-- Each step leaves fewer nodes.
pub rest-count : (mates : List ℕ) (left : ℕ) → left < 2 ^ mask_bits → (left ≡ 0 → ⊥) → count_of (rest_of mates left) + 1 ≤ count_of left
unfolding rest_of
rest-count mates left h n =
    omega (arith, least-taken left h n, count-difference (without_of left (least_of left)) (get_or mates (least_of left) 0))

-- A set that is not empty has a count of 1 or more.
pub some-count : (s : ℕ) → s < 2 ^ mask_bits → (s ≡ 0 → ⊥) → 1 ≤ count_of s
some-count s h n = omega (arith, least-taken s h n)

-- A set without its least member counts one less, if it has any.
pub least-less : (s : ℕ) → s < 2 ^ mask_bits → count_of (without_of s (least_of s)) ≡ count_of s - 1
least-less s h =
    ⊎_elim
    (λ e. let g : least_of s ≡ mask_bits = ap least_of e ∙ least-none in
    omega (arith, ap count_of (without-none s (least_of s) h (omega arith)), ap count_of e, count_empty))
    (λ n. omega (arith, least-taken s h n)) (eq_or_ne s 0)

-- A set that has members without its least has two.
pub two_members : (s : ℕ) → s < 2 ^ mask_bits → (without_of s (least_of s) ≡ 0 → ⊥) → 1 < count_of s
two_members s h n = omega (arith, least-less s h, some-count (without_of s (least_of s)) (without_lt s (least_of s)) n)

-- A set that has none has one at most.
pub one-member : (s : ℕ) → s < 2 ^ mask_bits → without_of s (least_of s) ≡ 0 → count_of s ≤ 1
one-member s h e = omega (arith, least-less s h, ap count_of e, count_empty)

-- A row that may lose any zone.
pub targets_spare : (all row mate : ℕ) → targets_in all row mate 0 ≡ difference_of all row
unfolding targets_in
targets_spare all row mate = go (ltb 1 (count_of (meet_of row mate)))
  where
    go : (t : Bool) → cond t (difference_of all row) (meet_of (difference_of all row) (union_of mate (difference_of all 0))) ≡ difference_of all row
    go true = refl
    go false =
        bit_ext mask_bits (meet_of (difference_of all row) (union_of mate (difference_of all 0))) (difference_of all row) (meet_lt (difference_of all row) (union_of mate (difference_of all 0)))
        (difference_lt all row)
        (λ j l. omega (
          arith,
          bit-meet (difference_of all row) (union_of mate (difference_of all 0)) j l,
          bit-union mate (difference_of all 0) j l,
          bit-difference all 0 j l,
          bit-difference all row j l,
          bit_zero j,
        ))

-- The row has two nodes of the zone.
pub targets_crowded : (all row mate tight : ℕ) → 1 < count_of (meet_of row mate) → targets_in all row mate tight ≡ difference_of all row
unfolding targets_in
targets_crowded all row mate tight h = rw (lt-ltb 1 (count_of (meet_of row mate)) h)

-- The row has not.
pub targets_few : (all row mate tight : ℕ) → count_of (meet_of row mate) ≤ 1
    → targets_in all row mate tight ≡ meet_of (difference_of all row) (union_of mate (difference_of all tight))
unfolding targets_in
targets_few all row mate tight h = rw (le-ltb 1 (count_of (meet_of row mate)) h)

-- The row touches more than z zones.
pub tight-spare : (mates : List ℕ) (z row : ℕ) → z < cover_of mates row → tight_of mates z row ≡ 0
unfolding tight_of
tight-spare mates z row h = rw (lt-ltb z (cover_of mates row) h)

-- The row touches no more.
pub tight-all : (mates : List ℕ) (z row : ℕ) → cover_of mates row ≤ z → tight_of mates z row ≡ covered_of mates row
unfolding tight_of
tight-all mates z row h = rw (le-ltb z (cover_of mates row) h)

-- A scan of zones only adds.
cover_ge : (k : ℕ) (mates : List ℕ) (left n : ℕ) → n ≤ cover_in k mates left n
cover_ge zero mates left n = unfold cover_in in omega arith
cover_ge (suc k) mates left n =
    ⊎_elim (λ e. omega (arith, cover_done (suc k) mates left n e))
    (λ e. omega (arith, cover-more (suc k) k mates left n refl e, cover_ge k mates (rest_of mates left) (n + 1))) (eq_or_ne left 0)

-- Where z zones are counted and a node is left, there are more.
pub cover-past : (mates : List ℕ) (row left z : ℕ) → cover_of mates row ≡ cover_in (mask_bits - z) mates left z → z < mask_bits → (left ≡ 0 → ⊥) → z < cover_of mates row
cover-past mates row left z e l h =
    omega (
      arith,
      e,
      cover-more (mask_bits - z) (mask_bits - (z + 1)) mates left z (fuel z l) h,
      cover_ge (mask_bits - (z + 1)) mates (rest_of mates left) (z + 1),
    )

-- ---- what the code computes, step by step

-- What a turn leaves: what is left without its least node, and without x, the nodes of that node's zone.
pub rest-is : (mates : List ℕ) (left b x w d : ℕ) → b ≡ least_of left → x ≡ get_or mates b 0 → w ≡ without_of left (least_of left) → d ≡ difference_of w x → d ≡ rest_of mates left
unfolding rest_of
rest-is mates left b x w d eb ex ew ed = ed ∙ ((λ i. difference_of (ew i) (ex i)) ∙ (λ i. difference_of (without_of left (least_of left)) (get_or mates (eb i) 0)))

-- The nodes of the zones up to the turn.
pub nodes_are : (mates : List ℕ) (left nodes b x u : ℕ) → b ≡ least_of left → x ≡ get_or mates b 0 → u ≡ union_of nodes x
    → union_of nodes (get_or mates (least_of left) 0) ≡ u
nodes_are mates left nodes b x u eb ex eu = sym (eu ∙ ((λ i. union_of nodes (ex i)) ∙ (λ i. union_of nodes (get_or mates (eb i) 0))))

-- The nodes of the row in the zone, without the least.
pub gone_is : (row mate s w : ℕ) → s ≡ meet_of row mate → w ≡ without_of s (least_of s) → w ≡ without_of (meet_of row mate) (least_of (meet_of row mate))
gone_is row mate s w es ew = ew ∙ (λ i. without_of (es i) (least_of (es i)))

-- The nodes outside the row in the zone and in the zones that are not tight.
pub near-is : (all row mate tight f d u r : ℕ) → f ≡ difference_of all row → d ≡ difference_of all tight → u ≡ union_of mate d → r ≡ meet_of f u
    → r ≡ meet_of (difference_of all row) (union_of mate (difference_of all tight))
near-is all row mate tight f d u r ef ed eu er = er ∙ ((λ i. meet_of (ef i) (eu i)) ∙ (λ i. meet_of (difference_of all row) (union_of mate (ed i))))

-- The nodes that may take a node's place, where the cells tell its zone and the zones that the row may not lose.
pub targets_are : (mates : List ℕ) (all z row a tight mate r : ℕ) → tight ≡ tight_of mates z row → mate ≡ get_or mates a 0
    → r ≡ targets_in all row mate tight → r ≡ targets_of mates all z row a
unfolding targets_of
targets_are mates all z row a tight mate r et em er = er ∙ (λ i. targets_in all row (em i) (et i))
