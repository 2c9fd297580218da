-- One pair after another: what each end of an attempt does to the order reached so far.
-- Assumes nothing.
use Prim.Native.Nat.{ℕ, suc, ◌+◌, ◌-◌, ◌^◌, ◌≤◌, ◌<◌}
use mathlib.Core.Path.{◌≡◌, refl, sym, ap, ◌∙◌, subst}
use mathlib.Core.Bool.{Bool, true, false, cond, ◌&&◌}
use mathlib.Core.List.{List}
use mathlib.Core.Logic.{◌⊎◌, inl, inr, ⊎_elim}
use native.Mathlib.Nat.{sub_self}
use native.Mathlib.Omega.{arith}
use lib.ListN.{length, get_or, set}
use lib.Dec.{ltb, leb, eqb}
use lib.Seq.{get_or-set_same, get_or-set_other}
use Rattle.sums.proofs.Sum.{lt_or_ge, eq_or_ne, is_eq, sum_but_one}
use Rattle.cluster.specs.Terms.{most_nodes}
use Rattle.sets.specs.ModelBits.{bit, bits_at, without_of, below_of, count_of}
use Rattle.sets.proofs.Laws.{bit_le, bit_zero, bit-without, bit-without_other, count-without}
use Rattle.exchange.specs.ModelRow.{Within, Agree, Exchange, swap, copies, weigh}
use Rattle.exchange.specs.ModelCircuit.{Circuit, Allowed, turn}
use Rattle.exchange.proofs.Agreeing.{SameLayout, valid_cong, swap_cong, copies_cong, within_cong, weigh_cong}
use Rattle.ties.specs.ModelOrder.{from, Settled, first_of}
use Rattle.ties.specs.ModelEven.{tried, Even, Shut, Way}
use Rattle.ties.proofs.Order.{before_zero, zero_before}
use Rattle.ties.proofs.Stays.{potential_stays}
use Rattle.ties.proofs.Trying.{shut_out, way_circuit, let_in}
use Rattle.ties.proofs.Deciding.{decided_next, decided_other, in_settled, decided_row, decided_first}
use Rattle.evens.specs.ModelEvens.{wanted_of, givers_of}
use Rattle.evens.proofs.Evening.{wanted_in, giver_is, even-to-nodes}
use Rattle.walks.specs.ModelWalks.{walk_in}
use Rattle.waves.specs.ModelWaves.{wave_cells, wave_of, seen_of, Waved}
use Rattle.waves.proofs.Waving.{wave_seen, seen_stays, wave_start, wave_first, wave_later, wave_nodes}
use Rattle.ways.specs.ModelWays.{arc_for, Traced}
use Rattle.exchanging.specs.ModelExchanged.{walked_of}
use Rattle.exchanging.proofs.Making.{length_exchanged}
use Rattle.exchanging.proofs.Exchanging.{walked_bit, walked_small}
use Rattle.attempts.specs.ModelDeciding.{Covers, Givers, Standing, Ordered, members, Refreshed}
use Rattle.attempts.proofs.Evenly.{even-leads, arc-allowed, arc-level, arc_nowhere, givers_right}
use Rattle.attempts.proofs.Meeting.{waves_shut, waves-way}
use Rattle.attempts.proofs.Turning.{covers_turn}

-- ---- pairs that are free

-- A pair is free or not.
from_le : (p b q x : ℕ) → from p b q x ≤ 1
unfolding from
from_le p b q x = go (ltb p q) (eqb p q && leb b x)
  where
    go : (s t : Bool) → cond s 1 (cond t 1 0) ≤ 1
    go true t = omega arith
    go false true = omega arith
    go false false = omega arith

-- A pair that comes before (p', b') where it comes before (p, b) is free from (p, b) on where it is from (p', b') on.
from-later : (p b p' b' q x : ℕ) → ((q < p) ⊎ ((q ≡ p) × (x < b)) → (q < p') ⊎ ((q ≡ p') × (x < b'))) → from p' b' q x ≡ 1 → from p b q x ≡ 1
from-later p b p' b' q x h o =
    ⊎_elim (λ z. absurd (omega (arith, before_zero p' b' q x (h (zero_before p b q x (omega arith)))))) (λ l. omega (arith, from_le p b q x))
    (lt_or_ge (from p b q x) 1)

module _ (P N R Z : ℕ) (zone cap : ℕ → ℕ) (g : ℕ → ℕ → ℕ) (d : ℕ → ℕ) (leads : List ℕ) where
  -- Where fewer pairs are free, cells that cover still do.
  covers_fewer : (free less S : ℕ → ℕ → ℕ) → ((q x : ℕ) → x < N → less q x ≡ 1 → free q x ≡ 1) → Covers P N R Z zone cap g free S d leads
      → Covers P N R Z zone cap g less S d leads
  covers_fewer free less S h c =
      record {
        rows = λ q u v l t. c.rows q u v l (record { exchange = wider q u v t.exchange; level = t.level });
        store = c.store;
        nodes = c.nodes;
      }
    where
      wider : (q u v : ℕ) → Exchange N R Z zone less S q u v → Exchange N R Z zone free S q u v
      wider q u v e =
          record {
            a_node = e.a_node;
            b_node = e.b_node;
            a_in = e.a_in;
            b_out = e.b_out;
            a_free = h q u e.a_node e.a_free;
            b_free = h q v e.b_node e.b_free;
            valid = e.valid;
          }

  -- Past a pair, cells that cover still do.
  covers_later : (p b : ℕ) (S : ℕ → ℕ → ℕ) → Covers P N R Z zone cap g (from p b) S d leads → Covers P N R Z zone cap g (from p (suc b)) S d leads
  covers_later p b S =
      covers_fewer (from p b) (from p (suc b)) S
      (λ q x k. from-later p b p (suc b) q x (λ w. ⊎_elim (λ i. inl i) (λ i. inr (i.0, omega (arith, i.1))) w))

  -- Past the last node of a row too.
  covers_row : (p : ℕ) (S : ℕ → ℕ → ℕ) → Covers P N R Z zone cap g (from p N) S d leads → Covers P N R Z zone cap g (from (suc p) 0) S d leads
  covers_row p S =
      covers_fewer (from p N) (from (suc p) 0) S
      (λ q x k. from-later p N (suc p) 0 q x (λ w. ⊎_elim (λ i. inl (omega arith)) (λ i. inl (omega (arith, i.0))) w))

-- ---- layouts with the same bits

module _ (P N R Z : ℕ) (zone cap : ℕ → ℕ) (g free S T : ℕ → ℕ → ℕ) (d : ℕ → ℕ) (h : SameLayout P N S T) where
  -- They have the same even exchanges.
  even_cong : (q u v : ℕ) → q < P → Even N R Z zone g free T d q u v → Even N R Z zone g free S d q u v
  even_cong q u v l t =
      let e = t.exchange in
      record {
        exchange = record {
          a_node = e.a_node;
          b_node = e.b_node;
          a_in = h q l u e.a_node ∙ e.a_in;
          b_out = h q l v e.b_node ∙ e.b_out;
          a_free = e.a_free;
          b_free = e.b_free;
          valid = valid_cong N zone (swap (T q) u v) (swap (S q) u v) (swap_cong N zone (T q) (S q) (λ x k. sym (h q l x k)) u v) R Z e.valid;
        };
        level = t.level;
      }

  -- The same cells cover them.
  covers_cong : (leads : List ℕ) → Covers P N R Z zone cap g free S d leads → Covers P N R Z zone cap g free T d leads
  covers_cong leads c =
      record {
        rows = λ q u v l t. c.rows q u v l (even_cong q u v l t);
        store = λ u v l k r e. c.store u v l k (omega (arith, copies_cong P N S T h u l)) e;
        nodes = c.nodes;
      }

-- ---- one pair

module _ (P N R Z : ℕ) (zone cap : ℕ → ℕ) (A : ℕ) (former mates caps even : List ℕ) (d : ℕ → ℕ) (p b : ℕ) (rows leads : List ℕ)
    (o : Ordered P N R Z zone cap A former mates caps even d p b rows leads) (in_p : p < P) (in_b : b < N)
  where
    -- The layout, and what it weighs by.
    abbrev S : ℕ → ℕ → ℕ
    S = bits_at rows

    abbrev g : ℕ → ℕ → ℕ
    g = bits_at former

    -- No more nodes than cells.
    few : N ≤ most_nodes
    few = o.standing.zones.few

    small : b < most_nodes
    small = omega (arith, few)

    -- A pair that is settled as it stands is decided.
    settled_ordered : Settled P N R Z zone cap g A S p b → Ordered P N R Z zone cap A former mates caps even d p (suc b) rows leads
    settled_ordered h =
        record {
          standing = o.standing;
          covers = covers_later P N R Z zone cap g d leads p b S o.covers;
          decided = decided_next P N R Z zone cap g A p b S o.decided h;
        }

    -- A pair that the row has is settled.
    pub in_ordered : bits_at rows p b ≡ 1 → Ordered P N R Z zone cap A former mates caps even d p (suc b) rows leads
    in_ordered e = settled_ordered (in_settled P N R Z zone cap g A p b S in_p in_b e)

    module _ (out : bits_at rows p b ≡ 0) (goal : ℕ) (is-goal : goal ≡ givers_of mates (below_of N) Z even (get_or rows p 0) (get_or former p 0) b) where
      -- The goal has the nodes that could give way.
      givers : Givers N R Z zone g (from p b) S d p b goal
      givers =
          subst (λ (t : ℕ). Givers N R Z zone g (from p b) S d p b t) (sym is-goal)
          (givers_right P N R Z zone cap A former mates caps even d rows o.standing p b in_p in_b out)

      -- A pair that a set shuts out is settled.
      out_ordered : (X : ℕ → ℕ) → Shut P N R Z zone cap g (from p b) S d p b X → Ordered P N R Z zone cap A former mates caps even d p (suc b) rows leads
      out_ordered X x =
          settled_ordered
          (λ T t a. omega (
            arith,
            shut_out P N R Z zone cap g (from p b) S d o.standing.zones.inside o.standing.nearest.within o.standing.potential p b in_p in_b out
                (from_le p b) X x T t.within a (t.weighs ∙ sym o.standing.nearest.weighs),
          ))

      -- Where nobody could give way, the set of all nodes shuts it out.
      pub none_ordered : goal ≡ 0 → Ordered P N R Z zone cap A former mates caps even d p (suc b) rows leads
      none_ordered z =
          out_ordered (λ x. 1)
          (record {
            bits = λ x. omega arith;
            begins = refl;
            along = λ q a c l t. omega arith;
            room = λ u v l k r e. omega arith;
            none = λ a t. absurd (omega (arith, givers.all a t, ap (λ (m : ℕ). bit m a) z, bit_zero a));
          })

      -- Where no wave meets the goal, the nodes that they have seen shut it out.
      pub shut_ordered : (r : ℕ) (waves : List ℕ) → Waved leads b goal r waves → wave_cells ≤ r
          → Ordered P N R Z zone cap A former mates caps even d p (suc b) rows leads
      shut_ordered r waves w l =
          let e = w.shut l in
          let k = e.0 in
          let own : bit (seen_of leads b k) b ≡ 1 =
          omega (
            arith,
            wave_start leads b small,
            wave_seen leads b small 0 b small,
            seen_stays leads b small 0 k b (omega arith) small,
            bit_le (seen_of leads b k) b,
          ) in
          out_ordered (bit (seen_of leads b k))
          (waves_shut P N R Z zone cap g (from p b) S d p b goal leads few in_p in_b o.covers givers k e.1 e.2 own)

      -- No cell leads past the last node.
      inner : (u v : ℕ) → u < most_nodes → v < most_nodes → bit (get_or leads u 0) v ≡ 1 → v < N
      inner u v l k e = ⊎_elim (λ i. i) (λ i. absurd (omega (arith, o.covers.nodes u v l i k))) (lt_or_ge v N)

      -- Where the arcs of a way are.
      abbrev at : ℕ → ℕ → ℕ
      at = arc_for rows former P mates caps (below_of N) Z even p b

      module _ (k r : ℕ) (y q : List ℕ) (t : Traced leads b goal k r (arc_for rows former P mates caps (below_of N) Z even p b) P p y q) (l : r < k)
          (long : length leads ≡ most_nodes)
        where
          -- The member of cell u that is nowhere, and the cells without it.
          abbrev u : ℕ
          u = get_or y (suc r) 0

          abbrev v : ℕ
          v = get_or y r 0

          abbrev new : List ℕ
          new = set leads u (without_of (get_or leads u 0) v)

          -- The cell is there.
          low : u < length leads
          low = omega (arith, (t.stale l).0)

          -- It is a node's.
          u_node : u < N
          u_node = wave_nodes leads b small N in_b inner (k - suc r) u (t.stale l).1

          -- The member is of a wave after the first.
          v_wave : bit (wave_of leads b (suc (k - suc r))) v ≡ 1
          v_wave = let e : suc (k - suc r) ≡ k - r = omega arith in rw e (t.nodes r (omega arith)).1

          -- So it is a node.
          v_node : v < N
          v_node = wave_nodes leads b small N in_b inner (suc (k - suc r)) v v_wave

          -- It is no even exchange, and no step over the store.
          gone : ((x : ℕ) → x < P → Even N R Z zone g (from p b) S d x u v → ⊥) × (copies P S u < cap u → d v ≡ d u → ⊥)
          gone =
              arc_nowhere P N R Z zone cap A former mates caps even d rows o.standing p b in_p in_b out u v u_node v_node
              (wave_later leads b small (k - suc r) v v_wave) (t.stale l).3

          -- All other members stay.
          stays : (a c : ℕ) → c < most_nodes → (u ≡ a → v ≡ c → ⊥) → bit (get_or leads a 0) c ≡ 1 → bit (get_or new a 0) c ≡ 1
          stays a c m n e =
              ⊎_elim
              (λ i. subst (λ (z : ℕ). bit (get_or new z 0) c ≡ 1) i
              (ap (λ (z : ℕ). bit z c) (get_or-set_same leads u (without_of (get_or leads u 0) v) 0 low)
              ∙ (bit-without_other (get_or leads u 0) v c m (n i) ∙ (ap (λ (z : ℕ). bit (get_or leads z 0) c) i ∙ e))))
              (λ i. ap (λ (z : ℕ). bit z c) (get_or-set_other leads u a (without_of (get_or leads u 0) v) 0 (λ z. i (sym z))) ∙ e) (eq_or_ne u a)

          -- No member comes.
          fewer : (a c : ℕ) → c < most_nodes → bit (get_or leads a 0) c ≡ 0 → bit (get_or new a 0) c ≡ 0
          fewer a c m e =
              ⊎_elim
              (λ i. subst (λ (z : ℕ). bit (get_or new z 0) c ≡ 0) i
              (ap (λ (z : ℕ). bit z c) (get_or-set_same leads u (without_of (get_or leads u 0) v) 0 low)
              ∙ omega (arith, bit-without (get_or leads u 0) v c m, ap (λ (z : ℕ). bit (get_or leads z 0) c) i)))
              (λ i. ap (λ (z : ℕ). bit z c) (get_or-set_other leads u a (without_of (get_or leads u 0) v) 0 (λ z. i (sym z))) ∙ e) (eq_or_ne u a)

          -- A member that is nowhere is taken off.
          pub stale_ordered : Ordered P N R Z zone cap A former mates caps even d p b rows
              (set leads (get_or y (suc r) 0) (without_of (get_or leads (get_or y (suc r) 0) 0) (get_or y r 0)))
          stale_ordered =
              record {
                standing = o.standing;
                covers = record {
                  rows = λ x a c m e. stays a c (omega (arith, e.exchange.b_node, few))
                      (λ i j. gone.0 x m (subst (λ (z : ℕ). Even N R Z zone g (from p b) S d x z v) (sym i)
                      (subst (λ (z : ℕ). Even N R Z zone g (from p b) S d x a z) (sym j) e)))
                      (o.covers.rows x a c m e);
                  store = λ a c m n f e. stays a c (omega (arith, few)) (λ i j. gone.1 (rw i f) (ap d j ∙ (e ∙ ap d (sym i)))) (o.covers.store a c m n f e);
                  nodes = λ a c m n f. fewer a c f (o.covers.nodes a c m n f);
                };
                decided = o.decided;
              }

      module _ (k : ℕ) (waves y q : List ℕ) (w : Waved leads b goal k waves) (met : k < wave_cells)
          (t : Traced leads b goal k k (arc_for rows former P mates caps (below_of N) Z even p b) P p y q)
        where
          -- The nodes of the way and the partitions of its arcs.
          abbrev Y : ℕ → ℕ
          Y i = get_or y i 0

          abbrev Q : ℕ → ℕ
          Q i = get_or q i 0

          -- Node i is of wave k - i.
          there : (i : ℕ) → i ≤ k → (Y i < N) × (bit (wave_of leads b (k - i)) (Y i) ≡ 1)
          there i l = let e = (t.nodes i l).1 in (wave_nodes leads b small N in_b inner (k - i) (Y i) e, e)

          -- Its last node is b.
          begins : Y k ≡ b
          begins = wave_first leads b small (Y k) (subst (λ (z : ℕ). bit (wave_of leads b z) (Y k) ≡ 1) (sub_self k) (there k (omega arith)).1)

          -- Each arc is somewhere.
          arc_in : (i : ℕ) → i < k → at (Y (suc i)) (Y i) ≤ P
          arc_in i l = omega (arith, (t.arcs i l).0, (t.arcs i l).1)

          -- It is allowed there.
          arcs : (i : ℕ) → i < k → Allowed P N R Z zone cap (from p b) S (Q i) (Y (suc i)) (Y i)
          arcs i l =
              subst (λ (z : ℕ). Allowed P N R Z zone cap (from p b) S z (Y (suc i)) (Y i)) (sym (t.arcs i l).0)
              (arc-allowed P N R Z zone cap A former mates caps even d rows o.standing p b in_p in_b out (Y (suc i)) (Y i)
              (there (suc i) l).0 (there i (omega arith)).0 (arc_in i l))

          -- It is even there.
          levels : (i : ℕ) → i < k → (Q i < P → d (Y i) + g (Q i) (Y i) ≡ d (Y (suc i)) + g (Q i) (Y (suc i))) × (P ≤ Q i → d (Y i) ≡ d (Y (suc i)))
          levels i l =
              subst (λ (z : ℕ). (z < P → d (Y i) + g z (Y i) ≡ d (Y (suc i)) + g z (Y (suc i))) × (P ≤ z → d (Y i) ≡ d (Y (suc i)))) (sym (t.arcs i l).0)
              (arc-level P N R Z zone cap A former mates caps even d rows o.standing p b in_p in_b out (Y (suc i)) (Y i)
              (there (suc i) l).0 (there i (omega arith)).0 (arc_in i l))

          -- The way is a shortest one.
          way : (reach : ℕ → ℕ) × Way P N R Z zone cap g (from p b) S d p b k Y Q reach
          way = (
            _,
            waves-way P N R Z zone cap g (from p b) S d p b goal leads few in_p in_b o.covers givers k (w.met met).1 Y Q begins
                (t.closed refl).0 (t.closed refl).1 t.ends there arcs (λ i l. (levels i l).0) (λ i l. (levels i l).1),
          )

          -- The layout after its turn.
          abbrev T : ℕ → ℕ → ℕ
          T = turn (suc k) Y Q S

          -- The way with its last arc is a circuit.
          circuit : Circuit P N R Z 3 zone cap (tried g p b) (from p b) S (suc k) Y Q
          circuit =
              way_circuit P N R Z zone cap g (from p b) S d o.standing.zones.inside o.standing.nearest.within o.standing.potential p b in_p in_b
              out (λ x c. bit_le (get_or former x 0) c) k Y Q way.0 way.1

          -- The turn keeps the weight and the pairs before, and brings the pair in.
          turned : Within P N R Z zone cap T × Agree P N (from p b) S T × (weigh P N g T ≡ weigh P N g S) × (T p b ≡ 1)
          turned =
              let_in P N R Z zone cap g (from p b) S d o.standing.zones.inside o.standing.nearest.within o.standing.potential p b in_p in_b
              out (λ x c. bit_le (get_or former x 0) c) k Y Q way.0 way.1

          -- With the rows after the turn, and the cells refreshed, the pair is decided.
          pub turned_ordered : (rows' leads' : List ℕ) → rows' ≡ walked_of P (walk_in (suc k) y q) rows
              → Refreshed rows' former P mates (below_of N) Z even y q (suc k) leads leads'
              → Ordered P N R Z zone cap A former mates caps even d p (suc b) rows' leads'
          turned_ordered rows' leads' e f =
              record {
                standing = stands;
                covers = covers_later P N R Z zone cap g d leads' p b (bits_at rows')
                    (covers_cong P N R Z zone cap g (from p b) T (bits_at rows') d same leads' covers);
                decided = decided_next P N R Z zone cap g A p b (bits_at rows')
                    (decided_other P N R Z zone cap g A p b S (bits_at rows') o.decided stands.nearest
                    (λ x l c m z. sym (same x l c m) ∙ turned.1 x l c m z))
                    (in_settled P N R Z zone cap g A p b (bits_at rows') in_p in_b (sym (same p in_p b in_b) ∙ turned.3));
              }
            where
              same : SameLayout P N T (bits_at rows')
              same x l c m =
                  sym
                  (ap (λ (r : List ℕ). bits_at r x c) e
                  ∙ walked_bit P N R Z 3 zone cap (tried g p b) (from p b) rows (walk_in (suc k) y q) o.standing.long circuit x l c (omega (arith, few)))

              within : Within P N R Z zone cap (bits_at rows')
              within = within_cong P N T (bits_at rows') same R Z zone cap turned.0

              weighs : weigh P N g (bits_at rows') ≡ weigh P N g S
              weighs = sym (weigh_cong P N g g T (bits_at rows') (λ x l c m. refl) same) ∙ turned.2

              stands : Standing P N R Z zone cap A former mates caps even d rows'
              stands =
                  record {
                    zones = o.standing.zones;
                    capped = o.standing.capped;
                    levelled = o.standing.levelled;
                    long = omega (arith, o.standing.long, ap (λ (r : List ℕ). length r) e, length_exchanged P Y Q rows (suc k));
                    small = λ x l. subst (λ (r : List ℕ). get_or r x 0 < 2 ^ N) (sym e)
                        (walked_small P N R Z 3 zone cap (tried g p b) (from p b) rows (walk_in (suc k) y q) o.standing.long circuit x l few
                        (o.standing.small x l));
                    nearest = record { within = within; weighs = weighs ∙ o.standing.nearest.weighs };
                    potential = potential_stays P N R Z zone cap g S (bits_at rows') o.standing.zones.inside o.standing.nearest.within within weighs d
                        o.standing.potential;
                  }

              node : (i : ℕ) → i < suc k → Y i < N
              node i l = (there i (omega arith)).0

              covers : Covers P N R Z zone cap g (from p b) T d leads'
              covers =
                  covers_turn P N R Z 3 zone cap g (tried g p b) (from p b) S d (suc k) Y Q circuit leads leads' o.covers
                  (λ u v l m. f.more u v (omega (arith, few)) (omega (arith, few)))
                  (λ i u v l m x.
                  let x' = even_cong P N R Z zone cap g (from p b) (bits_at rows') T d (λ a h c n. sym (same a h c n)) (Q i) u v m x in
                  let e' = x'.exchange in
                  f.changed i u v l m (omega (arith, e'.a_node, few)) (omega (arith, e'.b_node, few)) e'.a_in
                  (even-leads P N R Z zone cap A former mates caps even d rows' stands (from p b) (Q i) u v m x'))
                  (λ i v l m h x. f.store i v l m (omega (arith, node i l, few)) (omega (arith, few))
                  (o.standing.levelled.sets 1 (Y i) v (omega arith) (node i l) h ∙ is_eq (ap (λ (z : ℕ). z + 1) x)))
                  (λ u v l m h. f.only v h (λ a n. o.covers.nodes a v n m h)
                  (λ i a n r. even-to-nodes N mates (below_of N) Z even (get_or rows' (Q i) 0) (get_or former (Q i) 0) a v refl m h)
                  (λ i n. o.standing.levelled.beyond 1 (Y i) v (omega arith) (node i n) m h) u l)

    -- A node that is not wanted is in the row, or nobody could give way to it.
    pub unwanted_ordered : bit (wanted_of even (get_or rows p 0) (get_or former p 0)) b ≡ 0 → Ordered P N R Z zone cap A former mates caps even d p (suc b) rows leads
    unwanted_ordered z =
        ⊎_elim (λ l. shut (omega arith)) (λ l. in_ordered (omega (arith, bit_le (get_or rows p 0) b))) (lt_or_ge (bits_at rows p b) 1)
      where
        goal : ℕ
        goal = givers_of mates (below_of N) Z even (get_or rows p 0) (get_or former p 0) b

        shut : bits_at rows p b ≡ 0 → Ordered P N R Z zone cap A former mates caps even d p (suc b) rows leads
        shut out =
            out_ordered out goal refl (λ x. 1)
            (record {
              bits = λ x. omega arith;
              begins = refl;
              along = λ q a c l t. omega arith;
              room = λ u v l k r e. omega arith;
              none = λ a t.
                  let g = giver_is N d even few o.standing.levelled mates (below_of N) Z (get_or rows p 0) (get_or former p 0) b a in_b (omega (arith, t.exchange.a_node, few))
                  ((givers out goal refl).all a t) in
                  absurd (omega (arith, z, wanted_in N d even few o.standing.levelled (get_or rows p 0) (get_or former p 0) a b g.0 in_b g.1 g.2 g.4));
            })

-- ---- the members that are left

-- A member that is taken off is one less.
pub stale-less : (leads : List ℕ) (u v : ℕ) → length leads ≡ most_nodes → u < most_nodes → v < most_nodes → bit (get_or leads u 0) v ≡ 1
    → members (set leads u (without_of (get_or leads u 0) v)) < members leads
unfolding members
stale-less leads u v long l k e =
    let new = set leads u (without_of (get_or leads u 0) v) in
    omega (
      arith,
      sum_but_one most_nodes u (λ a. count_of (get_or new a 0)) (λ a. count_of (get_or leads a 0)) l
          (λ a m n. ap count_of (get_or-set_other leads u a (without_of (get_or leads u 0) v) 0 n)),
      ap count_of (get_or-set_same leads u (without_of (get_or leads u 0) v) 0 (omega arith)),
      count-without (get_or leads u 0) v k,
    )

-- ---- rows

-- After the last node of a row the next row begins.
pub ordered_row : (P N R Z : ℕ) (zone cap : ℕ → ℕ) (A : ℕ) (former mates caps even : List ℕ) (d : ℕ → ℕ) (p : ℕ) (rows leads : List ℕ)
    → Ordered P N R Z zone cap A former mates caps even d p N rows leads → Ordered P N R Z zone cap A former mates caps even d (suc p) 0 rows leads
ordered_row P N R Z zone cap A former mates caps even d p rows leads o =
    record {
      standing = o.standing;
      covers = covers_row P N R Z zone cap (bits_at former) d leads p (bits_at rows) o.covers;
      decided = decided_row P N R Z zone cap (bits_at former) A p (bits_at rows) o.decided;
    }

-- After the last row the layout is the first.
pub ordered_first : (P N R Z : ℕ) (zone cap : ℕ → ℕ) (A : ℕ) (former mates caps even : List ℕ) (d : ℕ → ℕ) (rows leads : List ℕ)
    → Ordered P N R Z zone cap A former mates caps even d P 0 rows leads → SameLayout P N (bits_at rows) (first_of P N R Z zone cap (bits_at former) A)
ordered_first P N R Z zone cap A former mates caps even d rows leads o =
    decided_first P N R Z zone cap (bits_at former) A (bits_at rows) o.decided
