-- What the sets of a layout hold: in a layout of valid rows, each exchange that leaves its row valid is in the set of its weight, each node
-- with room leads to every node at weight 0, and nothing else is in a set.
-- Assumes nothing.
use Prim.Native.Nat.{ℕ, ◌+◌, ◌-◌, ◌*◌, ◌/◌, ◌%◌, ◌^◌, ◌≤◌, ◌<◌, min, max}
use mathlib.Core.Path.{◌≡◌, refl, sym, ap, ap₂, ◌∙◌}
use mathlib.Core.Bool.{Bool, true, false}
use mathlib.Core.List.{List}
use mathlib.Core.Logic.{◌⊎◌, inl, inr, ⊎_elim}
use native.Mathlib.Omega.{arith}
use lib.ListN.{get_or}
use lib.Dec.{ltb}
use borrow.Author.Tests.{lt-ltb, ltb-true}
use Rattle.cluster.specs.Terms.{most_nodes}
use Rattle.sums.specs.ModelSums.{max_to, is}
use Rattle.sums.specs.TermsSums.{one_if}
use Rattle.sums.proofs.Sum.{lt_or_ge, is_eq, is_le, is_one}
use Rattle.sums.proofs.Count.{max_ge, max_le, max_at}
use Rattle.sets.specs.ModelBits.{mask_bits, bits_at, bit, below_of}
use Rattle.sets.proofs.Laws.{bit_le, bit-mask_of, bit_below}
use Rattle.exchange.specs.ModelRow.{Valid, Exchange, copies}
use Rattle.swaps.specs.ModelSwaps.{targets_of}
use Rattle.swaps.specs.ModelMates.{Mates}
use Rattle.swaps.proofs.Fitting.{target_valid, valid_target}
use Rattle.arcs.specs.ModelMoves.{weighs, moves, moves_to}
use Rattle.graph.specs.ModelArcs.{copies_to, roomy, cell_of}

-- From 1 back to the test.
one-if-true : (b : Bool) → 1 ≤ one_if b → b ≡ true
unfolding one_if
one-if-true true e = refl
one-if-true false e = absurd (omega arith)

-- The largest value is 0, or some value is not.
some_or_none : (n : ℕ) (f : ℕ → ℕ) → (max_to n f ≡ 0) ⊎ ((i : ℕ) × (i < n) × (1 ≤ f i))
some_or_none n f =
    ⊎_elim (λ z. inl z) (λ w. ⊎_elim (λ l. inl (omega arith)) (λ g. inr (w.0, w.1, omega (arith, w.2))) (lt_or_ge (max_to n f) 1)) (max_at n f)

-- Every pair is free to change.
abbrev pub any : ℕ → ℕ → ℕ
any p b = 1

module _ (rows former : List ℕ) (P : ℕ) (mates caps : List ℕ) (all z : ℕ) where
  -- The bits of a cell: some row allows the exchange, or there is room.
  bit-cell : (j b : ℕ) → b < most_nodes
      → bit (cell_of rows former P mates caps all z j) b ≡ max (moves_to rows former P mates all z j b) (roomy (copies_to rows P) caps all j b)
  unfolding cell_of moves_to moves roomy
  bit-cell j b l =
      bit-mask_of (λ b. max (moves_to rows former P mates all z j b) (roomy (copies_to rows P) caps all j b)) mask_bits b l
      (omega (
        arith,
        max_le P 1 (λ q. moves mates all z (get_or rows q 0) (get_or former q 0) j b) (λ q p. omega (arith, bit_le (get_or rows q 0) (j % most_nodes))),
        is_le 1 (j / most_nodes),
      ))

-- The set of the node u at weight h - 1, over the nodes below N.
abbrev pub set_of : List ℕ → List ℕ → ℕ → List ℕ → List ℕ → ℕ → ℕ → ℕ → ℕ → ℕ
set_of rows former P mates caps N Z h u = cell_of rows former P mates caps (below_of N) Z (most_nodes * h + u)

module _ (rows former : List ℕ) (P : ℕ) (mates caps : List ℕ) (N Z : ℕ) (few : N ≤ most_nodes) where
  -- What row q allows at weight h - 1.
  step : ℕ → ℕ → ℕ → ℕ → ℕ
  step h u v q =
      min (bit (get_or rows q 0) u) (min (bit (targets_of mates (below_of N) Z (get_or rows q 0) u) v) (weighs (get_or former q 0) h u v))

  -- The bits of a set of nodes.
  bit-set : (h u v : ℕ) → u < N → v < N
      → bit (set_of rows former P mates caps N Z h u) v
      ≡ max (max_to P (step h u v)) (min (is 1 h) (one_if (ltb (copies_to rows P u) (get_or caps u 0))))
  unfolding step moves_to moves roomy
  bit-set h u v lu lv =
      let all = below_of N in
      let j = most_nodes * h + u in
      let eu : j % most_nodes ≡ u = omega arith in
      let eh : j / most_nodes ≡ h = omega arith in
      bit-cell rows former P mates caps all Z j v (omega arith)
      ∙ (ap₂
      (λ (a k : ℕ). max (max_to P (λ q. min (bit (get_or rows q 0) a) (min (bit (targets_of mates all Z (get_or rows q 0) a) v) (weighs (get_or former q 0) k a v))))
      (min (is 1 k) (min (one_if (ltb (copies_to rows P a) (get_or caps a 0))) (bit all v)))) eu eh
      ∙ inside (max_to P (step h u v)) (is 1 h) (one_if (ltb (copies_to rows P u) (get_or caps u 0))) (bit all v) (is_le 1 h) (bit_below N v (omega arith) lv))
    where
      inside : (m i o b : ℕ) → i ≤ 1 → b ≡ 1 → max m (min i (min o b)) ≡ max m (min i o)
      inside m i o b li eb = omega arith

module _ (P N R Z : ℕ) (zone : ℕ → ℕ) (rows former mates caps : List ℕ) (M : Mates N zone mates) (small : (p : ℕ) → p < P → get_or rows p 0 < 2 ^ N)
    (valid : (p : ℕ) → p < P → Valid N R Z zone (bits_at rows p)) where
  -- An exchange that leaves its row valid is in the set of its weight.
  pub exchange-set : (p a b : ℕ) → p < P → Exchange N R Z zone any (bits_at rows) p a b
      → (h : ℕ) × (h < 3) × (h + bits_at former p b ≡ 1 + bits_at former p a) × (bit (set_of rows former P mates caps N Z h a) b ≡ 1)
  unfolding step weighs
  exchange-set p a b l E =
      let row = get_or rows p 0 in
      let fa = bits_at former p a in
      let fb = bits_at former p b in
      let h = 1 + fa - fb in
      let la = bit_le (get_or former p 0) a in
      let lb = bit_le (get_or former p 0) b in
      let e : fb + h ≡ 1 + fa = omega arith in
      let t = valid_target N zone mates M Z row a (small p l) E.a_node E.a_in R (valid p l) b E.b_node E.b_out E.valid in (
        h,
        omega arith,
        omega arith,
        omega (
          arith,
          bit-set rows former P mates caps N Z M.few h a b E.a_node E.b_node,
          bit_le (set_of rows former P mates caps N Z h a) b,
          max_ge P p (step rows former P mates caps N Z M.few h a b) l,
          E.a_in,
          t,
          is_eq e,
        ),
      )

  -- A node with room leads to every node at weight 0.
  pub room-set : (u v : ℕ) → u < N → v < N → copies P (bits_at rows) u < get_or caps u 0 → bit (set_of rows former P mates caps N Z 1 u) v ≡ 1
  unfolding copies copies_to one_if
  room-set u v lu lv c =
      omega (
        arith,
        bit-set rows former P mates caps N Z M.few 1 u v lu lv,
        bit_le (set_of rows former P mates caps N Z 1 u) v,
        is_eq {a = 1} {b = 1} refl,
        ap one_if (lt-ltb (copies_to rows P u) (get_or caps u 0) c),
      )

  -- What row p allows is an exchange.
  step-exchange : (h u v p : ℕ) → u < N → v < N → p < P → 1 ≤ step rows former P mates caps N Z M.few h u v p
      → Exchange N R Z zone any (bits_at rows) p u v × (h + bits_at former p v ≡ 1 + bits_at former p u)
  unfolding step weighs
  step-exchange h u v p lu lv l s =
      let row = get_or rows p 0 in
      let T = targets_of mates (below_of N) Z row u in
      let i : bit row u ≡ 1 = omega (arith, bit_le row u) in
      let t = target_valid N zone mates M Z row u (small p l) lu i R (valid p l) v lv (omega (arith, bit_le T v)) in
      let w : bits_at former p v + h ≡ 1 + bits_at former p u =
      is_one (bits_at former p v + h) (1 + bits_at former p u) (omega (arith, is_le (bits_at former p v + h) (1 + bits_at former p u))) in
      (record { a_node = lu; b_node = lv; a_in = i; b_out = t.0; a_free = refl; b_free = refl; valid = t.1 }, omega arith)

  -- What is in a set is an exchange of that weight in some row, or, at weight 0, a step of a node with room.
  pub set-witness : (h u v : ℕ) → u < N → v < N → bit (set_of rows former P mates caps N Z h u) v ≡ 1
      → ((p : ℕ) × (p < P) × Exchange N R Z zone any (bits_at rows) p u v × (h + bits_at former p v ≡ 1 + bits_at former p u))
      ⊎ ((h ≡ 1) × (copies P (bits_at rows) u < get_or caps u 0))
  unfolding copies copies_to
  set-witness h u v lu lv e =
      let f = step rows former P mates caps N Z M.few h u v in
      let b = bit-set rows former P mates caps N Z M.few h u v lu lv in
      ⊎_elim
      (λ z. inr (
        sym (is_one 1 h (omega (arith, b, z, is_le 1 h))),
        ltb-true (copies_to rows P u) (get_or caps u 0) (one-if-true (ltb (copies_to rows P u) (get_or caps u 0)) (omega (arith, b, z))),
      ))
      (λ w. let x = step-exchange h u v w.0 lu lv w.1 w.2 in inl (w.0, w.1, x.0, x.1)) (some_or_none P f)
