-- Which nodes the sets of even exchanges have.
-- Assumes nothing.
use Prim.Native.Nat.{ℕ, ◌+◌, ◌-◌, ◌*◌, ◌≤◌, ◌<◌, min, max}
use mathlib.Core.Path.{◌≡◌, sym, ap, ap₂, ◌∙◌}
use mathlib.Core.List.{List}
use mathlib.Core.Logic.{⊎_elim}
use native.Mathlib.Omega.{arith}
use lib.Dec.{ltb}
use lib.ListN.{get_or}
use Rattle.cluster.specs.Terms.{most_nodes}
use Rattle.sums.specs.TermsSums.{one_if}
use Rattle.sums.specs.ModelSums.{is}
use Rattle.sums.proofs.Sum.{lt_or_ge, eq_or_ne, is_eq, is_ne, is_le, is_one, is_cases}
use Rattle.sets.specs.ModelBits.{mask_bits, bit, union_of, meet_of, difference_of, below_of, count_of}
use Rattle.sets.proofs.Laws.{bit_le, bit-union, bit-meet, bit-difference, bit_below, bit-below_not, bit-mask_of}
use Rattle.cells.proofs.Cells.{get_or_tab}
use Rattle.waves.specs.ModelWaves.{spread_of}
use Rattle.waves.proofs.Waving.{spread_in}
use Rattle.swaps.specs.ModelSwaps.{tight_of, targets_of}
use Rattle.swaps.proofs.Steps.{targets_crowded, targets_few}
use Rattle.evens.specs.ModelEvens.{Levelled, lead_of, even_of, even_to, earlier_of, wanted_of, givers_of}
use Rattle.evens.proofs.Turns.{one_lt, one_ge}

-- ---- levels and weights

-- The members of even_of, bit by bit.
bit-even : (even : List ℕ) (former a b : ℕ) → b < most_nodes
    → bit (even_of even former a) b
    ≡ max (min (bit former b) (bit (get_or even (most_nodes * bit former a + a) 0) b)) (bit (get_or even (most_nodes * (bit former a + 1) + a) 0) b - bit former b)
unfolding even_of
bit-even even former a b l =
    let low = a + bit former a * most_nodes in
    let high = a + bit former a * most_nodes + most_nodes in
    bit-union (meet_of former (get_or even low 0)) (difference_of (get_or even high 0) former) b l
    ∙ ap₂ max (bit-meet former (get_or even low 0) b l ∙ ap (λ (i : ℕ). min (bit former b) (bit (get_or even i 0) b)) (omega arith))
    (bit-difference (get_or even high 0) former b l ∙ ap (λ (i : ℕ). bit (get_or even i 0) b - bit former b) (omega arith))

-- The two cases of the former bit g of b, as one test of the sums.
by-former : (x y f g : ℕ) → g ≤ 1 → max (min g (is (x + 1) (y + f))) (is (x + 1) (y + (f + 1)) - g) ≡ is (x + g) (y + f)
by-former x y f g h =
    ⊎_elim
    (λ e. omega (arith, is_le (x + 1) (y + f), is_le (x + 1) (y + (f + 1)), ap (λ (k : ℕ). is (x + k) (y + f)) e))
    (λ n. let e : g ≡ 0 = omega arith in
    ⊎_elim
    (λ w. omega (arith, w.1, is_eq {a = x + g} {b = y + f} (omega (arith, w.0))))
    (λ w. omega (arith, w.1, is_ne {a = x + g} {b = y + f} (λ q. w.0 (omega arith))))
    (is_cases (x + 1) (y + (f + 1))))
    (eq_or_ne g 1)

-- What arcs and levels say together of the arc from u to v at weight h - 1.
unfoldable side : List ℕ → List ℕ → ℕ → ℕ → ℕ → ℕ
side arcs even u v h = min (bit (get_or arcs (most_nodes * h + u) 0) v) (bit (get_or even (most_nodes * h + u) 0) v)

-- The members of lead_of, bit by bit.
bit-lead : (arcs even : List ℕ) (u v : ℕ) → v < most_nodes
    → bit (lead_of arcs even u) v ≡ max (side arcs even u v 0) (max (side arcs even u v 1) (side arcs even u v 2))
unfolding lead_of side
bit-lead arcs even u v l =
    let at : (ℕ → ℕ) = λ i. meet_of (get_or arcs i 0) (get_or even i 0) in
    let bits : (ℕ → ℕ) = λ i. min (bit (get_or arcs i 0) v) (bit (get_or even i 0) v) in
    bit-union (at u) (union_of (at (most_nodes + u)) (at (2 * most_nodes + u))) v l
    ∙ ap₂ max (bit-meet (get_or arcs u 0) (get_or even u 0) v l ∙ ap bits (omega arith))
    (bit-union (at (most_nodes + u)) (at (2 * most_nodes + u)) v l
    ∙ ap₂ max (bit-meet (get_or arcs (most_nodes + u) 0) (get_or even (most_nodes + u) 0) v l ∙ ap bits (omega arith))
    (bit-meet (get_or arcs (2 * most_nodes + u) 0) (get_or even (2 * most_nodes + u) 0) v l ∙ ap bits (omega arith)))

side_le : (arcs even : List ℕ) (u v h : ℕ) → side arcs even u v h ≤ 1
unfolding side
side_le arcs even u v h = omega (arith, bit_le (get_or arcs (most_nodes * h + u) 0) v)

-- One of the three weights is enough.
lead_side : (arcs even : List ℕ) (u v h : ℕ) → v < most_nodes → h < 3 → side arcs even u v h ≡ 1 → bit (lead_of arcs even u) v ≡ 1
lead_side arcs even u v h l k e =
    ⊎_elim (λ q. omega (arith, facts, ap (side arcs even u v) q))
    (λ n. ⊎_elim (λ q. omega (arith, facts, ap (side arcs even u v) q))
    (λ m. let q : h ≡ 2 = omega arith in omega (arith, facts, ap (side arcs even u v) q)) (eq_or_ne h 1)) (eq_or_ne h 0)
  where
    facts : (bit (lead_of arcs even u) v ≡ max (side arcs even u v 0) (max (side arcs even u v 1) (side arcs even u v 2)))
        × (side arcs even u v 0 ≤ 1) × (side arcs even u v 1 ≤ 1) × (side arcs even u v 2 ≤ 1)
    facts = (bit-lead arcs even u v l, side_le arcs even u v 0, side_le arcs even u v 1, side_le arcs even u v 2)

-- Only nodes of `all` are targets.
targets_inside : (mates : List ℕ) (all z row a b : ℕ) → b < most_nodes → bit (targets_of mates all z row a) b ≤ bit all b
unfolding targets_of
targets_inside mates all z row a b l =
    let mate = get_or mates a 0 in
    let tight = tight_of mates z row in
    let free = difference_of all row in
    ⊎_elim
    (λ k. omega (arith, ap (λ (x : ℕ). bit x b) (targets_crowded all row mate tight k), bit-difference all row b l))
    (λ k. omega (
      arith,
      ap (λ (x : ℕ). bit x b) (targets_few all row mate tight k),
      bit-meet free (union_of mate (difference_of all tight)) b l,
      bit-difference all row b l,
    ))
    (lt_or_ge 1 (count_of (meet_of row mate)))

-- No node at or above N is one to which a may give way evenly, where `all` has the nodes below N.
pub even-to-nodes : (N : ℕ) (mates : List ℕ) (all z : ℕ) (even : List ℕ) (row former a b : ℕ) → all ≡ below_of N → N ≤ b → b < most_nodes
    → bit (even_to mates all z even row former a) b ≡ 0
unfolding even_to
even-to-nodes N mates all z even row former a b e q r =
    omega (
      arith,
      bit-meet (targets_of mates all z row a) (even_of even former a) b r,
      targets_inside mates all z row a b r,
      ap (λ (x : ℕ). bit x b) e,
      bit-below_not N b q,
    )

-- The members of givers_of, bit by bit.
bit_giver : (mates : List ℕ) (all z : ℕ) (even : List ℕ) (row former b a : ℕ) → a < most_nodes
    → bit (givers_of mates all z even row former b) a
    ≡ min (min (bit row a) (one_if (ltb b a))) (min (bit (even_of even former b) a) (bit (targets_of mates all z row a) b))
unfolding givers_of
bit_giver mates all z even row former b a l =
    bit-mask_of (λ a. min (min (bit row a) (one_if (ltb b a))) (min (bit (even_of even former b) a) (bit (targets_of mates all z row a) b))) mask_bits a l
    (omega (arith, bit_le row a))

module _ (N : ℕ) (d : ℕ → ℕ) (even : List ℕ) (few : N ≤ most_nodes) (L : Levelled N d even) where
  -- a could be exchanged evenly for just the nodes with the same sum of level and former bit.
  pub even-at : (former a b : ℕ) → a < N → b < N → bit (even_of even former a) b ≡ is (d b + bit former b) (d a + bit former a)
  even-at former a b p q =
      bit-even even former a b (omega arith)
      ∙ (ap₂ (λ (x y : ℕ). max (min (bit former b) x) (y - bit former b)) (L.sets (bit former a) a b (omega (arith, bit_le former a)) p q)
      (L.sets (bit former a + 1) a b (omega (arith, bit_le former a)) p q)
      ∙ by-former (d b) (d a) (bit former a) (bit former b) (bit_le former b))

  -- None of them lies at or above N.
  pub even-nodes : (former a b : ℕ) → a < N → N ≤ b → b < most_nodes → bit (even_of even former a) b ≡ 0
  even-nodes former a b p q r =
      omega (
        arith,
        bit-even even former a b r,
        L.beyond (bit former a) a b (omega (arith, bit_le former a)) p q r,
        L.beyond (bit former a + 1) a b (omega (arith, bit_le former a)) p q r,
      )

  -- ---- the nodes that each node leads to

  -- An arc whose weight is what the levels differ by is one of those that lead on.
  pub lead_in : (arcs : List ℕ) (u v h : ℕ) → u < N → v < N → h < 3 → bit (get_or arcs (most_nodes * h + u) 0) v ≡ 1 → d v + 1 ≡ d u + h
      → bit (lead_of arcs even u) v ≡ 1
  unfolding side
  lead_in arcs u v h p q k e w =
      lead_side arcs even u v h (omega arith) k (ap₂ min e (L.sets h u v k p q ∙ is_eq w))

  -- No node at or above N is led to.
  pub lead-nodes : (arcs : List ℕ) (u v : ℕ) → u < N → N ≤ v → v < most_nodes → bit (lead_of arcs even u) v ≡ 0
  unfolding side
  lead-nodes arcs u v p q r =
      omega (
        arith,
        bit-lead arcs even u v r,
        L.beyond 0 u v (omega arith) p q r,
        L.beyond 1 u v (omega arith) p q r,
        L.beyond 2 u v (omega arith) p q r,
      )

  -- ---- exchanges in a row

  -- A target of a with the same sum is one to which a may give way evenly.
  pub even-to_in : (mates : List ℕ) (all z row former a b : ℕ) → a < N → b < N → bit (targets_of mates all z row a) b ≡ 1
      → d b + bit former b ≡ d a + bit former a → bit (even_to mates all z even row former a) b ≡ 1
  unfolding even_to
  even-to_in mates all z row former a b p q e w =
      bit-meet (targets_of mates all z row a) (even_of even former a) b (omega arith) ∙ ap₂ min e (even-at former a b p q ∙ is_eq w)

  -- A node is wanted where a later one of the row has the same sum.
  pub wanted_in : (row former a b : ℕ) → a < N → b < N → bit row a ≡ 1 → b < a → d b + bit former b ≡ d a + bit former a → bit (wanted_of even row former) b ≡ 1
  unfolding wanted_of earlier_of
  wanted_in row former a b p q h l e =
      omega (
        arith,
        spread_in (earlier_of even former) row a b (omega arith) (omega arith) h,
        ap (λ (x : ℕ). bit x b) (get_or_tab (λ i. meet_of (even_of even former i) (below_of i)) most_nodes a 0 (omega arith)),
        bit-meet (even_of even former a) (below_of a) b (omega arith),
        even-at former a b p q ∙ is_eq e,
        bit_below a b (omega arith) l,
        bit_le (spread_of (earlier_of even former) row) b,
      )

  -- A node that may give way to b evenly is a later node of the row, b is one of its targets, and both have the same sum.
  pub giver_is : (mates : List ℕ) (all z row former b a : ℕ) → b < N → a < most_nodes → bit (givers_of mates all z even row former b) a ≡ 1
      → (a < N) × (bit row a ≡ 1) × (b < a) × (bit (targets_of mates all z row a) b ≡ 1) × (d b + bit former b ≡ d a + bit former a)
  giver_is mates all z row former b a q r e =
      let g = bit_giver mates all z even row former b a r in
      let even-bit : bit (even_of even former b) a ≡ 1 = omega (arith, g, e, bit_le (even_of even former b) a) in
      let node : a < N = ⊎_elim (λ l. l) (λ l. absurd (omega (arith, even-nodes former b a q l r))) (lt_or_ge a N) in (
        node,
        omega (arith, g, e, bit_le row a),
        ⊎_elim (λ l. l) (λ l. absurd (omega (arith, g, e, one_ge b a l))) (lt_or_ge b a),
        omega (arith, g, e, bit_le (targets_of mates all z row a) b),
        sym (is_one (d a + bit former a) (d b + bit former b) (sym (even-at former b a q node) ∙ even-bit)),
      )

  -- Each such node is one that may give way to b evenly.
  pub is_giver : (mates : List ℕ) (all z row former b a : ℕ) → b < N → a < N → bit row a ≡ 1 → b < a → bit (targets_of mates all z row a) b ≡ 1
      → d b + bit former b ≡ d a + bit former a → bit (givers_of mates all z even row former b) a ≡ 1
  is_giver mates all z row former b a q p e l t w =
      omega (
        arith,
        bit_giver mates all z even row former b a (omega arith),
        one_lt b a l,
        even-at former b a q p,
        is_eq {a = d a + bit former a} {b = d b + bit former b} (sym w),
      )
