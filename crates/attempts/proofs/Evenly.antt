-- From sets of nodes to even exchanges: where the way finds an arc it is allowed and level, where it finds none there is none, and the givers are those
-- that could give way.
-- Assumes nothing.
use Prim.Native.Nat.{ℕ, suc, ◌+◌, ◌-◌, ◌*◌, ◌≤◌, ◌<◌}
use mathlib.Core.Path.{◌≡◌, refl, sym, ap, ◌∙◌, subst}
use mathlib.Core.Bool.{Bool, true, false, ◌&&◌, cond, true≢false}
use mathlib.Core.List.{List}
use mathlib.Core.Logic.{◌⊎◌, inl, inr, ⊎_elim}
use native.Mathlib.Omega.{arith}
use lib.Dec.{eqb, ltb}
use lib.ListN.{get_or}
use borrow.Author.Tests.{eq-eqb, eqb-true, eqb-false, lt-ltb, le-ltb, ltb-true, ltb-false, le-leb}
use Rattle.sums.specs.ModelSums.{is}
use Rattle.sums.proofs.Sum.{lt_or_ge, eq_or_ne, is_eq, is_one}
use Rattle.sums.proofs.Tests.{both, true_or_false}
use Rattle.sums.proofs.First.{First, first_cases}
use Rattle.cluster.specs.Terms.{most_nodes}
use Rattle.sets.specs.ModelBits.{bit, bits_at, member_of, below_of}
use Rattle.sets.proofs.Laws.{bit_le, member-true, member-false, bit-true}
use Rattle.exchange.specs.ModelRow.{Exchange, copies}
use Rattle.exchange.specs.ModelCircuit.{Allowed}
use Rattle.ties.specs.ModelOrder.{from}
use Rattle.ties.specs.ModelEven.{Even}
use Rattle.ties.proofs.Order.{before_zero}
use Rattle.swaps.specs.ModelSwaps.{targets_of}
use Rattle.swaps.proofs.Fitting.{target_valid, valid_target}
use Rattle.evens.specs.ModelEvens.{even_to, givers_of}
use Rattle.evens.proofs.Evening.{even-to_in, giver_is, is_giver}
use Rattle.walks.specs.ModelWalks.{suits_at, room_at}
use Rattle.walks.proofs.Suiting.{suits_has, has_suits}
use Rattle.ways.specs.ModelWays.{weight_in, free_from, row_for, arc_for}
use Rattle.attempts.specs.ModelDeciding.{Givers, Standing}

-- ---- free pairs

-- A pair after (p, b), or that pair itself, is free.
from_one : (p b q x : ℕ) → (p < q) ⊎ ((q ≡ p) × (b ≤ x)) → from p b q x ≡ 1
unfolding from
from_one p b q x (inl l) = rw (lt-ltb p q l)
from_one p b q x (inr (e, l)) = rw (le-ltb p q (omega arith), eq-eqb p q (sym e), le-leb b x l)

-- Only such a pair is.
one_from : (p b q x : ℕ) → from p b q x ≡ 1 → (p < q) ⊎ ((q ≡ p) × (b ≤ x))
one_from p b q x e =
    ⊎_elim (λ l. absurd (omega (arith, before_zero p b q x (inl l))))
    (λ g. ⊎_elim (λ l. inl l)
    (λ k. let i : q ≡ p = omega arith in
    ⊎_elim (λ l. absurd (omega (arith, before_zero p b q x (inr (i, l))))) (λ l. inr (i, l)) (lt_or_ge x b)) (lt_or_ge p q))
    (lt_or_ge q p)

module _ (P N R Z : ℕ) (zone cap : ℕ → ℕ) (A : ℕ) (former mates caps even : List ℕ) (d : ℕ → ℕ) (rows : List ℕ)
    (s : Standing P N R Z zone cap A former mates caps even d rows)
  where
    few : N ≤ most_nodes
    few = s.zones.few

    -- ---- the weight at which an exchange is even

    -- The set of the weight h tells whether it is that weight.
    set_at : (h u v i : ℕ) → h < 3 → u < N → v < N → i ≡ most_nodes * h + u → bit (get_or even i 0) v ≡ is (d v + 1) (d u + h)
    set_at h u v i k l m e = ap (λ (j : ℕ). bit (get_or even j 0) v) e ∙ s.levelled.sets h u v k l m

    -- A member of the set stands at the weight.
    set-has : (h u v i : ℕ) → h < 3 → u < N → v < N → i ≡ most_nodes * h + u → member_of (get_or even i 0) v ≡ true → d v + 1 ≡ d u + h
    set-has h u v i k l m e t = is_one (d v + 1) (d u + h) (sym (set_at h u v i k l m e) ∙ member-true (get_or even i 0) v t)

    -- No other node does.
    set-lacks : (h u v i : ℕ) → h < 3 → u < N → v < N → i ≡ most_nodes * h + u → member_of (get_or even i 0) v ≡ false → d v + 1 ≡ d u + h → ⊥
    set-lacks h u v i k l m e t w =
        omega (arith, is_eq {a = d v + 1} {b = d u + h} w, set_at h u v i k l m e, member-false (get_or even i 0) v t)

    -- The weight is that by which the levels differ, or they differ by none.
    weight_cases : (u v : ℕ) → u < N → v < N
        → ((weight_in even u v < 3) × (d v + 1 ≡ d u + weight_in even u v)) ⊎ ((weight_in even u v ≡ 3) × ((h : ℕ) → h < 3 → d v + 1 ≡ d u + h → ⊥))
    unfolding weight_in
    weight_cases u v l m =
        go (member_of (get_or even u 0) v) (member_of (get_or even (most_nodes + u) 0) v) (member_of (get_or even (2 * most_nodes + u) 0) v)
        (set-has 0 u v u (omega arith) l m (omega arith)) (set-has 1 u v (most_nodes + u) (omega arith) l m (omega arith))
        (set-has 2 u v (2 * most_nodes + u) (omega arith) l m (omega arith)) (set-lacks 0 u v u (omega arith) l m (omega arith))
        (set-lacks 1 u v (most_nodes + u) (omega arith) l m (omega arith)) (set-lacks 2 u v (2 * most_nodes + u) (omega arith) l m (omega arith))
      where
        Cases : ℕ → Type 0
        Cases w = ((w < 3) × (d v + 1 ≡ d u + w)) ⊎ ((w ≡ 3) × ((h : ℕ) → h < 3 → d v + 1 ≡ d u + h → ⊥))

        none : (d v + 1 ≡ d u + 0 → ⊥) → (d v + 1 ≡ d u + 1 → ⊥) → (d v + 1 ≡ d u + 2 → ⊥) → (h : ℕ) → h < 3 → d v + 1 ≡ d u + h → ⊥
        none a b c h k e =
            ⊎_elim (λ i. a (omega arith)) (λ i. ⊎_elim (λ j. b (omega arith)) (λ j. c (omega arith)) (eq_or_ne h 1)) (eq_or_ne h 0)

        go : (x y z : Bool) → (x ≡ true → d v + 1 ≡ d u + 0) → (y ≡ true → d v + 1 ≡ d u + 1) → (z ≡ true → d v + 1 ≡ d u + 2)
            → (x ≡ false → d v + 1 ≡ d u + 0 → ⊥) → (y ≡ false → d v + 1 ≡ d u + 1 → ⊥) → (z ≡ false → d v + 1 ≡ d u + 2 → ⊥)
            → Cases (cond x 0 (cond y 1 (cond z 2 3)))
        go true y z a b c e f g = inl (omega arith, a refl)
        go false true z a b c e f g = inl (omega arith, b refl)
        go false false true a b c e f g = inl (omega arith, c refl)
        go false false false a b c e f g = inr (refl, none (e refl) (f refl) (g refl))

    -- Levels that differ by a weight give that weight.
    weight-at : (u v h : ℕ) → u < N → v < N → h < 3 → d v + 1 ≡ d u + h → weight_in even u v ≡ h
    weight-at u v h l m k e = ⊎_elim (λ w. omega (arith, w.1)) (λ w. absurd (w.1 h k e)) (weight_cases u v l m)

    -- ---- room

    -- A node that passes the test has room.
    room-has : (u : ℕ) → u < N → room_at rows P caps u ≡ true → copies P (bits_at rows) u < cap u
    unfolding room_at
    room-has u l e = omega (arith, ltb-true (copies P (bits_at rows) u) (get_or caps u 0) e, s.capped u l)

    -- One that does not pass is full.
    room-lacks : (u : ℕ) → u < N → room_at rows P caps u ≡ false → cap u ≤ copies P (bits_at rows) u
    unfolding room_at
    room-lacks u l e = omega (arith, ltb-false (copies P (bits_at rows) u) (get_or caps u 0) e, s.capped u l)

    -- ---- exchanges and targets

    -- A node of a row may give way to those of its targets.
    target_exchange : (free : ℕ → ℕ → ℕ) (q u v : ℕ) → q < P → u < N → v < N → bits_at rows q u ≡ 1 → free q u ≡ 1 → free q v ≡ 1
        → bit (targets_of mates (below_of N) Z (get_or rows q 0) u) v ≡ 1 → Exchange N R Z zone free (bits_at rows) q u v
    target_exchange free q u v l i j a f g t =
        let h = target_valid N zone mates s.zones Z (get_or rows q 0) u (s.small q l) i a R (s.nearest.within.rows q l) v j t in
        record { a_node = i; b_node = j; a_in = a; b_out = h.0; a_free = f; b_free = g; valid = h.1 }

    -- Where it may give way, that is one of its targets.
    exchange_target : (free : ℕ → ℕ → ℕ) (q u v : ℕ) → q < P → Exchange N R Z zone free (bits_at rows) q u v
        → bit (targets_of mates (below_of N) Z (get_or rows q 0) u) v ≡ 1
    exchange_target free q u v l e =
        valid_target N zone mates s.zones Z (get_or rows q 0) u (s.small q l) e.a_node e.a_in R (s.nearest.within.rows q l) v e.b_node e.b_out
        e.valid

    -- An even exchange leads where its row says.
    pub even-leads : (free : ℕ → ℕ → ℕ) (q u v : ℕ) → q < P → Even N R Z zone (bits_at former) free (bits_at rows) d q u v
        → bit (even_to mates (below_of N) Z even (get_or rows q 0) (get_or former q 0) u) v ≡ 1
    even-leads free q u v l t =
        even-to_in N d even few s.levelled mates (below_of N) Z (get_or rows q 0) (get_or former q 0) u v t.exchange.a_node t.exchange.b_node
        (exchange_target free q u v l t.exchange) t.level

    module _ (p b : ℕ) (in_p : p < P) (in_b : b < N) (out : bits_at rows p b ≡ 0) where
      -- Where u gives way to v.
      abbrev pub at : ℕ → ℕ → ℕ
      at = arc_for rows former P mates caps (below_of N) Z even p b

      -- The first row for them.
      abbrev row : ℕ → ℕ → ℕ
      row = row_for rows former P mates caps (below_of N) Z even p b

      -- ---- the pairs of an arc

      -- From the first partition of the search on both are free.
      free-after : (u v q : ℕ) → free_from p b u v ≤ q → (from p b q u ≡ 1) × (from p b q v ≡ 1)
      unfolding free_from
      free-after u v q h = go (true_or_false (ltb b u && ltb b v)) h
        where
          later : p < q → (from p b q u ≡ 1) × (from p b q v ≡ 1)
          later i = (from_one p b q u (inl i), from_one p b q v (inl i))

          go : (ltb b u && ltb b v ≡ true) ⊎ (ltb b u && ltb b v ≡ false) → cond (ltb b u && ltb b v) p (suc p) ≤ q
              → (from p b q u ≡ 1) × (from p b q v ≡ 1)
          go (inl e) i =
              let t = both (ltb b u) (ltb b v) e in
              let k : p ≤ q = subst (λ (x : Bool). cond x p (suc p) ≤ q) e i in
              ⊎_elim later
              (λ g. let z : q ≡ p = omega arith in
              (from_one p b q u (inr (z, omega (arith, ltb-true b u t.0))), from_one p b q v (inr (z, omega (arith, ltb-true b v t.1)))))
              (lt_or_ge p q)
          go (inr e) i = later (subst (λ (x : Bool). cond x p (suc p) ≤ q) e i)

      -- A node of the row at b or after it comes after b, which the row lacks.
      later_in : (x : ℕ) → b ≤ x → bits_at rows p x ≡ 1 → b < x
      later_in x h e =
          ⊎_elim (λ l. l) (λ g. absurd (let z : x ≡ b = omega arith in omega (arith, out, ap (bits_at rows p) z))) (lt_or_ge b x)

      -- An exchange of free pairs that brings in another node than b stands there or later.
      free-before : (u v q : ℕ) → q < P → (v ≡ b → ⊥) → Exchange N R Z zone (from p b) (bits_at rows) q u v → free_from p b u v ≤ q
      unfolding free_from
      free-before u v q l n e = ⊎_elim (λ i. late i) (λ i. here i.0 i.1) (one_from p b q u e.a_free)
        where
          late : p < q → cond (ltb b u && ltb b v) p (suc p) ≤ q
          late i = go (ltb b u && ltb b v)
            where
              go : (x : Bool) → cond x p (suc p) ≤ q
              go true = omega arith
              go false = i

          here : q ≡ p → b ≤ u → cond (ltb b u && ltb b v) p (suc p) ≤ q
          here i k =
              let x : b < u = later_in u k (ap (λ (t : ℕ). bits_at rows t u) (sym i) ∙ e.a_in) in
              let y : b < v =
              ⊎_elim (λ o. absurd (omega arith)) (λ o. ⊎_elim (λ j. j) (λ j. absurd (n (omega (arith, o.1)))) (lt_or_ge b v)) (one_from p b q v e.b_free) in
              rw (lt-ltb b u x, lt-ltb b v y) (omega (arith, i))

      -- ---- where an arc is

      -- What is found for an arc: the store, a row, or nothing.
      abbrev Found : ℕ → ℕ → ℕ → Type 0
      Found u v r =
          ((r ≡ P) × (weight_in even u v ≡ 1) × (copies P (bits_at rows) u < cap u))
          ⊎ (((r ≡ row u v) × (row u v < P) × (weight_in even u v < 3))
          ⊎ ((r ≡ suc P) × (weight_in even u v < 3 → (P ≤ row u v) × (weight_in even u v ≡ 1 → cap u ≤ copies P (bits_at rows) u))))

      -- It is one of these.
      arc_cases : (u v : ℕ) → u < N → v < N → Found u v (at u v)
      unfolding arc_for
      arc_cases u v l k =
          go (eqb (weight_in even u v) 3) (eqb (weight_in even u v) 1) (room_at rows P caps u) (ltb (row u v) P) refl refl refl refl
        where
          light : eqb (weight_in even u v) 3 ≡ false → weight_in even u v < 3
          light e = ⊎_elim (λ w. w.0) (λ w. absurd (eqb-false (weight_in even u v) 3 e w.0)) (weight_cases u v l k)

          go : (x y r t : Bool) → eqb (weight_in even u v) 3 ≡ x → eqb (weight_in even u v) 1 ≡ y → room_at rows P caps u ≡ r → ltb (row u v) P ≡ t
              → Found u v (cond x (suc P) (cond (y && r) P (cond t (row u v) (suc P))))
          go true y r t a b c e = inr (inr (refl, λ w. absurd (omega (arith, eqb-true (weight_in even u v) 3 a))))
          go false true true t a b c e = inl (refl, eqb-true (weight_in even u v) 1 b, room-has u l c)
          go false true false true a b c e = inr (inl (refl, ltb-true (row u v) P e, light a))
          go false true false false a b c e = inr (inr (refl, λ w. (ltb-false (row u v) P e, λ z. room-lacks u l c)))
          go false false r true a b c e = inr (inl (refl, ltb-true (row u v) P e, light a))
          go false false r false a b c e = inr (inr (refl, λ w. (ltb-false (row u v) P e, λ z. absurd (eqb-false (weight_in even u v) 1 b z))))

      -- Whether a row suits the arc.
      abbrev suits : ℕ → ℕ → ℕ → Bool
      suits u v = suits_at rows former mates (below_of N) Z (weight_in even u v) u v

      -- It does, and both nodes are free there.
      abbrev Suits : ℕ → ℕ → ℕ → Type 0
      Suits u v q = (suits u v q ≡ true) × (from p b q u ≡ 1) × (from p b q v ≡ 1)

      -- A row that is found is such a one.
      row_suits : (u v : ℕ) → row u v < P → Suits u v (row u v)
      unfolding row_for
      row_suits u v l = go (row u v) l (first_cases (suits u v) (P - free_from p b u v) (free_from p b u v))
        where
          go : (r : ℕ) → r < P → First (suits u v) (P - free_from p b u v) (free_from p b u v) r → Suits u v r
          go r k (inl f) = let e = free-after u v r f.0 in (f.2, e.0, e.1)
          go r k (inr f) = absurd (omega (arith, f.0))

      -- Where no row is found, none from the first on suits.
      row-none : (u v q : ℕ) → P ≤ row u v → free_from p b u v ≤ q → q < P → suits u v q ≡ false
      unfolding row_for
      row-none u v q l i k = go (row u v) l (first_cases (suits u v) (P - free_from p b u v) (free_from p b u v))
        where
          go : (r : ℕ) → P ≤ r → First (suits u v) (P - free_from p b u v) (free_from p b u v) r → suits u v q ≡ false
          go r h (inl f) = absurd (omega (arith, f.1))
          go r h (inr f) = f.1 q i (omega arith)

      -- An arc that is found is allowed.
      pub arc-allowed : (u v : ℕ) → u < N → v < N → at u v ≤ P → Allowed P N R Z zone cap (from p b) (bits_at rows) (at u v) u v
      arc-allowed u v l k h = go (at u v) h (arc_cases u v l k)
        where
          go : (r : ℕ) → r ≤ P → Found u v r → Allowed P N R Z zone cap (from p b) (bits_at rows) r u v
          go r i (inl f) = inr (f.0, l, k, f.2)
          go r i (inr (inl f)) =
              let t = row_suits u v f.1 in
              let x = suits_has mates (below_of N) Z (get_or rows (row u v) 0) (get_or former (row u v) 0) (weight_in even u v) u v t.0 in
              subst (λ (z : ℕ). Allowed P N R Z zone cap (from p b) (bits_at rows) z u v) (sym f.0)
              (inl (
                f.1,
                target_exchange (from p b) (row u v) u v f.1 l k x.0 t.1 t.2
                    (member-true (targets_of mates (below_of N) Z (get_or rows (row u v) 0) u) v x.3),
              ))
          go r i (inr (inr f)) = absurd (omega (arith, f.0))

      -- Along it the levels and the weights agree.
      pub arc-level : (u v : ℕ) → u < N → v < N → at u v ≤ P
          → (at u v < P → d v + bits_at former (at u v) v ≡ d u + bits_at former (at u v) u) × (P ≤ at u v → d v ≡ d u)
      arc-level u v l k h = go (at u v) h (arc_cases u v l k)
        where
          level : weight_in even u v < 3 → d v + 1 ≡ d u + weight_in even u v
          level w = ⊎_elim (λ x. x.1) (λ x. absurd (omega (arith, x.0))) (weight_cases u v l k)

          go : (r : ℕ) → r ≤ P → Found u v r → (r < P → d v + bits_at former r v ≡ d u + bits_at former r u) × (P ≤ r → d v ≡ d u)
          go r i (inl f) = ((λ a. absurd (omega (arith, f.0))), λ a. omega (arith, f.1, level (omega (arith, f.1))))
          go r i (inr (inl f)) =
              let t = row_suits u v f.1 in
              let x = suits_has mates (below_of N) Z (get_or rows (row u v) 0) (get_or former (row u v) 0) (weight_in even u v) u v t.0 in
              subst (λ (z : ℕ). (z < P → d v + bits_at former z v ≡ d u + bits_at former z u) × (P ≤ z → d v ≡ d u)) (sym f.0)
              ((λ a. omega (arith, x.2, level f.2)), λ a. absurd (omega (arith, f.1)))
          go r i (inr (inr f)) = absurd (omega (arith, f.0))

      -- Where none is found, u gives way to v nowhere: in no row of free pairs, and not over the store.
      pub arc_nowhere : (u v : ℕ) → u < N → v < N → (v ≡ b → ⊥) → at u v ≡ suc P
          → ((q : ℕ) → q < P → Even N R Z zone (bits_at former) (from p b) (bits_at rows) d q u v → ⊥) × (copies P (bits_at rows) u < cap u → d v ≡ d u → ⊥)
      arc_nowhere u v l k n h = go (at u v) h (arc_cases u v l k)
        where
          go : (r : ℕ) → r ≡ suc P → Found u v r
              → ((q : ℕ) → q < P → Even N R Z zone (bits_at former) (from p b) (bits_at rows) d q u v → ⊥) × (copies P (bits_at rows) u < cap u → d v ≡ d u → ⊥)
          go r i (inl f) = absurd (omega (arith, f.0))
          go r i (inr (inl f)) = absurd (omega (arith, f.0, f.1))
          go r i (inr (inr f)) = (row_not, store_not)
            where
              row_not : (q : ℕ) → q < P → Even N R Z zone (bits_at former) (from p b) (bits_at rows) d q u v → ⊥
              row_not q j t =
                  let e = t.exchange in
                  let gu = bit_le (get_or former q 0) u in
                  let gv = bit_le (get_or former q 0) v in
                  let c = 1 + bits_at former q u - bits_at former q v in
                  let w : weight_in even u v ≡ c = weight-at u v c l k (omega arith) (omega (arith, t.level)) in
                  true≢false
                  (sym
                  (has_suits mates (below_of N) Z (get_or rows q 0) (get_or former q 0) (weight_in even u v) u v e.a_in e.b_out (omega arith)
                  (bit-true (targets_of mates (below_of N) Z (get_or rows q 0) u) v (exchange_target (from p b) q u v j e)))
                  ∙ row-none u v q (f.1 (omega arith)).0 (free-before u v q j n e) j)

              store_not : copies P (bits_at rows) u < cap u → d v ≡ d u → ⊥
              store_not c e =
                  let w : weight_in even u v ≡ 1 = weight-at u v 1 l k (omega arith) (omega arith) in
                  omega (arith, (f.1 (omega arith)).1 w)

      -- The givers of b in its row are the nodes that could give way to it.
      pub givers_right : Givers N R Z zone (bits_at former) (from p b) (bits_at rows) d p b
          (givers_of mates (below_of N) Z even (get_or rows p 0) (get_or former p 0) b)
      givers_right =
          record {
            all = λ a t. let e = t.exchange in
                is_giver N d even few s.levelled mates (below_of N) Z (get_or rows p 0) (get_or former p 0) b a in_b e.a_node e.a_in
                (after a e (one_from p b p a e.a_free)) (exchange_target (from p b) p a b in_p e) t.level;
            only = λ a l o.
                let h = giver_is N d even few s.levelled mates (below_of N) Z (get_or rows p 0) (get_or former p 0) b a in_b l o in
                record {
                  exchange =
                      target_exchange (from p b) p a b in_p h.0 in_b h.1 (from_one p b p a (inr (refl, omega (arith, h.2))))
                      (from_one p b p b (inr (refl, omega arith))) h.3;
                  level = h.4;
                };
          }
        where
          after : (a : ℕ) → Exchange N R Z zone (from p b) (bits_at rows) p a b → (p < p) ⊎ ((p ≡ p) × (b ≤ a)) → b < a
          after a e (inl i) = absurd (omega arith)
          after a e (inr i) = later_in a i.1 e.a_in
