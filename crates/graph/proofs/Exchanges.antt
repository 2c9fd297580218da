-- The graph that the sets of a layout stand for is its exchange graph: each exchange has an arc that weighs no more, each node with room an arc
-- to every node at weight 0, and each arc is an exchange of its weight, or such a step.
-- Assumes nothing.
use Prim.Native.Nat.{ℕ, zero, suc, ◌+◌, ◌*◌, ◌^◌, ◌≤◌, ◌<◌, max}
use mathlib.Core.Path.{◌≡◌, sym, ap, ◌∙◌}
use mathlib.Core.List.{List}
use mathlib.Core.Logic.{◌⊎◌, inl, inr, ⊎_elim}
use native.Mathlib.Omega.{arith}
use lib.ListN.{length, get_or, drop, get_or-append}
use borrow.Author.Tests.{le-ltb}
use Rattle.cluster.specs.Terms.{most_nodes}
use Rattle.sums.proofs.Sum.{lt_or_ge}
use Rattle.sets.specs.ModelBits.{bits_at, bit, below_of}
use Rattle.sets.proofs.Laws.{bit_le, bit-true, bit-false}
use Rattle.sums.specs.TermsSums.{tab}
use Rattle.cells.proofs.Cells.{length-tab, get_or_tab}
use Rattle.exchange.specs.ModelRow.{Valid, Exchange, copies}
use Rattle.swaps.specs.ModelMates.{Mates}
use Rattle.levels.specs.ModelGraph.{arc_cells, arc_of, weight_of}
use Rattle.graph.specs.ModelArcs.{cell_of, arcs_of}
use Rattle.graph.proofs.Members.{any, set_of, exchange-set, room-set, set-witness}

-- ---- cells

module _ (rows former : List ℕ) (P : ℕ) (mates caps : List ℕ) (all z : ℕ) (l : List ℕ) where
  -- A cell of the graph.
  pub arcs-cell : (j : ℕ) → arc_cells ≤ length l → j < arc_cells
      → get_or (arcs_of rows former P mates caps all z l) j 0 ≡ cell_of rows former P mates caps all z j
  unfolding arcs_of
  arcs-cell j g h =
      let f = cell_of rows former P mates caps all z in
      rw (le-ltb (length l) arc_cells g)
      (get_or-append (tab f arc_cells) (drop arc_cells l) 0 j (omega (arith, length-tab f arc_cells)) ∙ get_or_tab f arc_cells j 0 h)

-- ---- arcs and their weights

-- A bit is 1 or 0.
one_or_none : (m v : ℕ) → (bit m v ≡ 1) ⊎ (bit m v ≡ 0)
one_or_none m v = ⊎_elim (λ l. inr (omega arith)) (λ g. inl (omega (arith, bit_le m v))) (lt_or_ge (bit m v) 1)

module _ (arcs : List ℕ) (u v : ℕ) where
  -- 1 where v is in the set of u at weight h - 1.
  unfoldable pub within : ℕ → ℕ
  within h = bit (get_or arcs (most_nodes * h + u) 0) v

  -- It is a bit.
  within_le : (h : ℕ) → within h ≤ 1
  unfolding within
  within_le h = bit_le (get_or arcs (most_nodes * h + u) 0) v

  within_zero : bit (get_or arcs u 0) v ≡ within 0
  unfolding within
  within_zero = let e : u ≡ most_nodes * 0 + u = omega arith in ap (λ (k : ℕ). bit (get_or arcs k 0) v) e

  -- An arc is in one of three sets.
  arc-sets : arc_of arcs u v ≡ max (within 0) (max (within 1) (within 2))
  unfolding arc_of within
  arc-sets = ap (λ (x : ℕ). max x (max (within 1) (within 2))) within_zero

  -- Its weight is that of the first set that has v.
  first-set : ((within 0 ≡ 1) × (weight_of arcs u v ≡ 0))
      ⊎ (((within 0 ≡ 0) × (within 1 ≡ 1) × (weight_of arcs u v ≡ 1)) ⊎ ((within 0 ≡ 0) × (within 1 ≡ 0) × (weight_of arcs u v ≡ 2)))
  unfolding weight_of within
  first-set =
      let m = get_or arcs u 0 in
      let k = get_or arcs (most_nodes + u) 0 in
      ⊎_elim (λ e. inl (sym within_zero ∙ e, rw (bit-true m v e)))
      (λ n. ⊎_elim (λ e. inr (inl (sym within_zero ∙ n, e, rw (bit-false m v n, bit-true k v e))))
      (λ o. inr (inr (sym within_zero ∙ n, o, rw (bit-false m v n, bit-false k v o)))) (one_or_none k v))
      (one_or_none m v)

  -- Where a set has v, there is an arc, of that weight at most.
  arc-within : (h : ℕ) → h < 3 → within h ≡ 1 → (arc_of arcs u v ≡ 1) × (weight_of arcs u v ≤ h)
  arc-within h l e = (arc h l e, weight h l e)
    where
      arc : (h : ℕ) → h < 3 → within h ≡ 1 → arc_of arcs u v ≡ 1
      arc zero l e = omega (arith, arc-sets, within_le 1, within_le 2)
      arc (suc zero) l e = omega (arith, arc-sets, within_le 0, within_le 2)
      arc (suc (suc zero)) l e = omega (arith, arc-sets, within_le 0, within_le 1)
      arc (suc (suc (suc h))) l e = absurd (omega arith)

      weight : (h : ℕ) → h < 3 → within h ≡ 1 → weight_of arcs u v ≤ h
      weight zero l e = ⊎_elim (λ w. omega arith) (λ w. ⊎_elim (λ x. omega arith) (λ x. omega arith) w) first-set
      weight (suc zero) l e = ⊎_elim (λ w. omega arith) (λ w. ⊎_elim (λ x. omega arith) (λ x. omega arith) w) first-set
      weight (suc (suc h)) l e = ⊎_elim (λ w. omega arith) (λ w. ⊎_elim (λ x. omega arith) (λ x. omega arith) w) first-set

  -- Where there is an arc, the set of its weight has v.
  pub within-arc : arc_of arcs u v ≡ 1 → (weight_of arcs u v < 3) × (within (weight_of arcs u v) ≡ 1)
  within-arc e =
      ⊎_elim (λ w. (omega arith, ap within w.1 ∙ w.0))
      (λ w. ⊎_elim (λ x. (omega arith, ap within x.2 ∙ x.1)) (λ x. (omega arith, ap within x.2 ∙ omega (arith, arc-sets))) w) first-set

-- ---- the exchange graph

module _ (P N R Z : ℕ) (zone : ℕ → ℕ) (rows former mates caps l : List ℕ) (M : Mates N zone mates) (small : (p : ℕ) → p < P → get_or rows p 0 < 2 ^ N)
    (valid : (p : ℕ) → p < P → Valid N R Z zone (bits_at rows p)) (long : arc_cells ≤ length l) where
  -- The sets that are written.
  arcs : List ℕ
  arcs = arcs_of rows former P mates caps (below_of N) Z l

  within-set : (h u v : ℕ) → h < 3 → u < N → within arcs u v h ≡ bit (set_of rows former P mates caps N Z h u) v
  unfolding within arcs
  within-set h u v k lu = ap (λ (x : ℕ). bit x v) (arcs-cell rows former P mates caps (below_of N) Z l (most_nodes * h + u) long (omega (arith, M.few)))

  -- Every exchange that leaves its row valid has an arc that weighs no more.
  pub graph-exchange : (p a b : ℕ) → p < P → Exchange N R Z zone any (bits_at rows) p a b
      → (arc_of (arcs_of rows former P mates caps (below_of N) Z l) a b ≡ 1)
      × (weight_of (arcs_of rows former P mates caps (below_of N) Z l) a b + bits_at former p b ≤ 1 + bits_at former p a)
  unfolding arcs
  graph-exchange p a b k E =
      let s = exchange-set P N R Z zone rows former mates caps M small valid p a b k E in
      let w = arc-within arcs a b s.0 s.1 (within-set s.0 a b s.1 E.a_node ∙ s.3) in
      (w.0, omega (arith, w.1, s.2))

  -- A node with room has an arc to every node, of weight 0 at most.
  pub graph-room : (u v : ℕ) → u < N → v < N → copies P (bits_at rows) u < get_or caps u 0
      → (arc_of (arcs_of rows former P mates caps (below_of N) Z l) u v ≡ 1) × (weight_of (arcs_of rows former P mates caps (below_of N) Z l) u v ≤ 1)
  unfolding arcs
  graph-room u v lu lv c =
      arc-within arcs u v 1 (omega arith)
      (within-set 1 u v (omega arith) lu ∙ room-set P N R Z zone rows former mates caps M small valid u v lu lv c)

  -- Every arc is an exchange of its weight in some row, or, at weight 0, a step of a node with room.
  pub graph-witness : (u v : ℕ) → u < N → v < N → arc_of (arcs_of rows former P mates caps (below_of N) Z l) u v ≡ 1
      → ((p : ℕ) × (p < P) × Exchange N R Z zone any (bits_at rows) p u v
      × (weight_of (arcs_of rows former P mates caps (below_of N) Z l) u v + bits_at former p v ≡ 1 + bits_at former p u))
      ⊎ ((weight_of (arcs_of rows former P mates caps (below_of N) Z l) u v ≡ 1) × (copies P (bits_at rows) u < get_or caps u 0))
  unfolding arcs
  graph-witness u v lu lv e =
      let w = within-arc arcs u v e in
      set-witness P N R Z zone rows former mates caps M small valid (weight_of arcs u v) u v lu lv
      (sym (within-set (weight_of arcs u v) u v w.0 lu) ∙ w.1)
