-- From a circuit of the rows to a better layout: the test for exchanges is right, the partitions that are looked up are witnesses of the graph's
-- arcs, a walk whose arcs stand is a circuit again, and the rows after the exchanges are the layout that the circuit leads to.
-- Assumes nothing.
use Prim.Native.Nat.{ℕ, suc, ◌+◌, ◌-◌, ◌*◌, ◌^◌, ◌≤◌, ◌<◌}
use mathlib.Core.Path.{◌≡◌, refl, sym, ap, ap₂, ◌∙◌, subst}
use mathlib.Core.Bool.{Bool, true, true≢false}
use mathlib.Core.List.{List}
use mathlib.Core.Logic.{inl, inr, ⊎_elim}
use native.Mathlib.Omega.{arith}
use lib.Dec.{ltb}
use lib.ListN.{length, get_or}
use borrow.Author.Tests.{ltb-true}
use Rattle.sums.specs.TermsSums.{every_to}
use Rattle.sums.proofs.Sum.{lt_or_ge, sum_cong}
use Rattle.sums.proofs.Tests.{both, every-at}
use Rattle.sets.specs.ModelBits.{below_of, bits_at}
use Rattle.sets.proofs.Laws.{bit_le, member-true, bit-true}
use Rattle.exchange.specs.ModelRow.{Within, Exchange, copies}
use Rattle.exchange.specs.ModelLevels.{cycle_found, back, cycle_length, outcome, IsCycle}
use Rattle.exchange.specs.ModelCircuit.{cost, Allowed, Better}
use Rattle.exchange.specs.ModelUncross.{Walk, Round, Right, improved, walk_costs}
use Rattle.exchange.specs.ModelJoin.{ExchangeGraph}
use Rattle.sums.proofs.First.{First, first_cases}
use Rattle.exchange.proofs.Search.{outcome_cycle}
use Rattle.exchange.proofs.Circuit.{cost-row, cost-store, ends}
use Rattle.exchange.proofs.Uncross.{uncross_circuit, improved_better}
use Rattle.exchange.proofs.Join.{graph_circuit}
use Rattle.exchange.proofs.Agreeing.{SameLayout, better_cong}
use Rattle.swaps.specs.ModelSwaps.{targets_of}
use Rattle.swaps.specs.ModelMates.{Mates}
use Rattle.swaps.proofs.Fitting.{target_valid, valid_target}
use Rattle.levels.specs.ModelGraph.{graph_of, arc_of, weight_of}
use Rattle.walks.specs.ModelWalks.{ok_of, suits_at, witness_of, room_at, renewed_at, renewed, stands_at, stands}
use Rattle.walks.proofs.Suiting.{suits_has, has_suits}
use Rattle.walks.proofs.Renewing.{next_from, renewed-row, renewed-store, stands-row, stands-store}
use Rattle.freeing.specs.ModelFreed.{freed_of}
use Rattle.exchanging.proofs.Exchanging.{walked_bit, walked_small}
use Rattle.circuits.specs.ModelCircuits.{cycle_of, turned_of}

-- ---- a walk by itself

-- A closed simple walk over nodes below N that gains, whatever the rows are.
pub record Ring (P N : ℕ) (former : List ℕ) (w : Walk) : Type 0 where
  pub nodes : (i : ℕ) → i ≤ w.len → w.node i < N
  pub closed : w.node w.len ≡ w.node 0
  pub distinct : (i j : ℕ) → i < j → j < w.len → w.node i ≡ w.node j → ⊥
  pub gains : walk_costs P 1 (bits_at former) w < w.len * 1

-- A circuit of any layout is one.
pub round_ring : (P N R Z : ℕ) (zone cap : ℕ → ℕ) (former : List ℕ) (free S : ℕ → ℕ → ℕ) (w : Walk)
    → Round P N R Z 1 zone cap (bits_at former) free S w → Ring P N former w
round_ring P N R Z zone cap former free S w c =
    record {
      nodes = λ i l. ⊎_elim (λ h. (node i h).1) (λ h. last i l h) (lt_or_ge i w.len);
      closed = c.closed;
      distinct = c.distinct;
      gains = c.gains;
    }
  where
    node : (i : ℕ) → i < w.len → (w.node (suc i) < N) × (w.node i < N)
    node = ends P N R Z 1 zone cap (bits_at former) free S w.len w.node w.partition c

    last : (i : ℕ) → i ≤ w.len → w.len ≤ i → w.node i < N
    last i l h =
        let e : i ≡ w.len = omega arith in
        omega (arith, ap w.node e, c.closed, (node 0 (omega (arith, c.gains))).1)

-- ---- in planning

-- N nodes in zones, of which mates tells the sets; the first P rows are a layout within the caps, of nodes below N; every pair is free.
module _ (P N R Z : ℕ) (zone cap : ℕ → ℕ) (free : ℕ → ℕ → ℕ) (loose : (p b : ℕ) → free p b ≡ 1) (rows former mates : List ℕ)
    (M : Mates N zone mates) (small : (p : ℕ) → p < P → get_or rows p 0 < 2 ^ N) (s : Within P N R Z zone cap (bits_at rows))
  where
    -- The test for exchanges.
    abbrev ok : ℕ → ℕ → ℕ → Bool
    ok = ok_of rows mates (below_of N) Z

    -- The test for exchanges is right.
    pub ok_right : Right P N R Z zone free (bits_at rows) ok
    unfolding ok_of
    ok_right =
        record {
          sound = λ p a b l j k i o t.
              record {
                a_node = j;
                b_node = k;
                a_in = i;
                b_out = o;
                a_free = loose p a;
                b_free = loose p b;
                valid =
                    (target_valid N zone mates M Z (get_or rows p 0) a (small p l) j i R (s.rows p l) b k
                    (member-true (targets_of mates (below_of N) Z (get_or rows p 0) a) b t)
                    ).1;
              };
          complete = λ p a b l e.
              bit-true (targets_of mates (below_of N) Z (get_or rows p 0) a) b
              (valid_target N zone mates M Z (get_or rows p 0) a (small p l) e.a_node e.a_in R (s.rows p l) b e.b_node e.b_out e.valid);
        }

    light : (p b : ℕ) → bits_at former p b ≤ 1
    light p b = bit_le (get_or former p 0) b

    -- A partition that suits at a weight allows the exchange, which costs that much there.
    suits_right : (u v r c : ℕ) → u < N → v < N → r < P → suits_at rows former mates (below_of N) Z c u v r ≡ true
        → Allowed P N R Z zone cap free (bits_at rows) r u v × (cost P 1 (bits_at former) r u v ≡ c)
    unfolding ok_of
    suits_right u v r c l k i e =
        let h = suits_has mates (below_of N) Z (get_or rows r 0) (get_or former r 0) c u v e in
        (inl (i, ok_right.sound r u v i l k h.0 h.1 h.3), omega (arith, h.2, cost-row P 1 (bits_at former) light r u v i))

    -- ---- a circuit of the rows

    module _ (w : Walk) (c : Round P N R Z 1 zone cap (bits_at former) free (bits_at rows) w) (a : P ≤ length rows) where
      -- The rows after its exchanges, and what is left of it.
      abbrev new : List ℕ
      new = turned_of rows former P mates (below_of N) Z w

      abbrev left : Walk
      left = freed_of rows former P mates (below_of N) Z w

      freed : Round P N R Z 1 zone cap (bits_at former) free (bits_at rows) left
      freed = (uncross_circuit P N R Z 1 zone cap (bits_at former) free (bits_at rows) ok ok_right light w.len w (omega arith) c).0

      -- What is left of it is a closed simple walk that gains.
      pub freed_ring : Ring P N former left
      freed_ring = round_ring P N R Z zone cap former free (bits_at rows) left freed

      -- The rows are the layout that the circuit leads to.
      turned-improved : SameLayout P N (improved P 1 (bits_at former) ok w (bits_at rows)) (bits_at new)
      unfolding improved
      turned-improved p l t k = sym (walked_bit P N R Z 1 zone cap (bits_at former) free rows left a freed p l t (omega (arith, M.few)))

      -- They are rows of nodes below N.
      pub turned_small : (p : ℕ) → p < P → get_or new p 0 < 2 ^ N
      turned_small p l = walked_small P N R Z 1 zone cap (bits_at former) free rows left a freed p l M.few (small p l)

      -- They are a better layout.
      pub turned_better : Better P N R Z 1 zone cap (bits_at former) free (bits_at rows) (bits_at new)
      turned_better =
          better_cong P N R Z 1 zone cap (bits_at former) free (bits_at rows) (improved P 1 (bits_at former) ok w (bits_at rows)) (bits_at rows) (bits_at new)
          (λ p l t k. refl) turned-improved
          (improved_better P N R Z 1 zone cap (bits_at former) free (bits_at rows) ok ok_right M.inside light s w c)

    -- ---- a walk again

    module _ (caps : List ℕ) (capped : (b : ℕ) → b < N → get_or caps b 0 ≡ cap b) where
      -- An arc that stands is allowed at its new partition, at the cost that it had.
      again_right : (q u v : ℕ) → u < N → v < N → stands_at rows former P mates (below_of N) Z caps q u v ≡ true
          → Allowed P N R Z zone cap free (bits_at rows) (renewed_at rows former P mates (below_of N) Z q u v) u v
          × (cost P 1 (bits_at former) (renewed_at rows former P mates (below_of N) Z q u v) u v ≡ cost P 1 (bits_at former) q u v)
      unfolding room_at
      again_right q u v l k e =
          ⊎_elim
          (λ h. subst Right (sym (renewed-row rows former P mates (below_of N) Z q u v h))
          (row h (ltb-true (next) P (sym (stands-row rows former P mates (below_of N) Z caps q u v h) ∙ e))
          (first_cases (suits_at rows former mates (below_of N) Z (cost P 1 (bits_at former) q u v) u v) (P - q) q)))
          (λ h. subst Right (sym (renewed-store rows former P mates (below_of N) Z q u v h))
          (store h (sym (stands-store rows former P mates (below_of N) Z caps q u v h) ∙ e)))
          (lt_or_ge q P)
        where
          Right : ℕ → Type 0
          Right r = Allowed P N R Z zone cap free (bits_at rows) r u v × (cost P 1 (bits_at former) r u v ≡ cost P 1 (bits_at former) q u v)

          next : ℕ
          next = next_from rows former P mates (below_of N) Z q u v

          row : q < P → next < P → First (suits_at rows former mates (below_of N) Z (cost P 1 (bits_at former) q u v) u v) (P - q) q next → Right next
          row h i (inl f) = suits_right u v next (cost P 1 (bits_at former) q u v) l k i f.2
          row h i (inr f) = absurd (omega (arith, f.0))

          store : P ≤ q → room_at rows P caps u ≡ true → Right P
          store h r = (
            inr (refl, l, k, omega (arith, ltb-true (copies P (bits_at rows) u) (get_or caps u 0) r, capped u l)),
            omega (arith, cost-store P 1 (bits_at former) light q u v h, cost-store P 1 (bits_at former) light P u v (omega arith)),
          )

      -- A closed simple walk that gains, and whose arcs stand in the rows, is a circuit of them again.
      pub again_round : (w : Walk) → Ring P N former w → stands rows former P mates (below_of N) Z caps w ≡ true
          → Round P N R Z 1 zone cap (bits_at former) free (bits_at rows) (renewed rows former P mates (below_of N) Z w)
      unfolding stands
      again_round w r e =
          record {
            closed = r.closed;
            distinct = r.distinct;
            arcs = λ i l. (at i l).0;
            gains = omega (
              arith,
              sum_cong w.len
                  (λ i. cost P 1 (bits_at former) (renewed_at rows former P mates (below_of N) Z (w.partition i) (w.node (suc i)) (w.node i)) (w.node (suc i)) (w.node i))
                  (λ i. cost P 1 (bits_at former) (w.partition i) (w.node (suc i)) (w.node i)) (λ i l. (at i l).1),
              r.gains,
            );
          }
        where
          arc : ℕ → Bool
          arc i = stands_at rows former P mates (below_of N) Z caps (w.partition i) (w.node (suc i)) (w.node i)

          at : (i : ℕ) → i < w.len
              → Allowed P N R Z zone cap free (bits_at rows) (renewed_at rows former P mates (below_of N) Z (w.partition i) (w.node (suc i)) (w.node i)) (w.node (suc i)) (w.node i)
              × (cost P 1 (bits_at former) (renewed_at rows former P mates (below_of N) Z (w.partition i) (w.node (suc i)) (w.node i)) (w.node (suc i)) (w.node i)
              ≡ cost P 1 (bits_at former) (w.partition i) (w.node (suc i)) (w.node i))
          at i l =
              again_right (w.partition i) (w.node (suc i)) (w.node i) (r.nodes (suc i) l) (r.nodes i (omega arith))
              (every-at w.len i arc (both (ltb 0 w.len) (every_to w.len arc) e).1 l)

    -- ---- a cycle of the graph

    -- The cells of arcs are an exchange graph of the rows: each exchange has an arc that weighs no more, a node with room has one to each node,
    -- and each arc is allowed in some partition, or over the store, at what it weighs.
    module _
        (arcs : List ℕ)
        (exchanges :
        (p a b : ℕ) → p < P → Exchange N R Z zone free (bits_at rows) p a b
        → (arc_of arcs a b ≡ 1) × (weight_of arcs a b + bits_at former p b ≤ 1 + bits_at former p a))
        (room : (u v : ℕ) → u < N → v < N → copies P (bits_at rows) u < cap u → (arc_of arcs u v ≡ 1) × (weight_of arcs u v ≤ 1))
        (there :
        (u v : ℕ) → u < N → v < N → arc_of arcs u v ≡ 1
        → (q : ℕ) × (Allowed P N R Z zone cap free (bits_at rows) q u v × (cost P 1 (bits_at former) q u v ≡ weight_of arcs u v)))
      where
        -- The partitions that are looked up.
        abbrev wit : ℕ → ℕ → ℕ
        wit = witness_of rows former P mates arcs (below_of N) Z

        -- The first partition that suits an arc, or P, allows it, and the arc costs there what it weighs.
        first_right : (u v r : ℕ) → u < N → v < N → arc_of arcs u v ≡ 1 → First (suits_at rows former mates (below_of N) Z (weight_of arcs u v) u v) P 0 r
            → Allowed P N R Z zone cap free (bits_at rows) r u v × (cost P 1 (bits_at former) r u v ≡ weight_of arcs u v)
        unfolding ok_of
        first_right u v r l k a (inl f) = suits_right u v r (weight_of arcs u v) l k (omega (arith, f.1)) f.2
        first_right u v r l k a (inr f) = none (there u v l k a).0 (there u v l k a).1.0 (there u v l k a).1.1
          where
            none : (q : ℕ) → Allowed P N R Z zone cap free (bits_at rows) q u v → cost P 1 (bits_at former) q u v ≡ weight_of arcs u v
                → Allowed P N R Z zone cap free (bits_at rows) r u v × (cost P 1 (bits_at former) r u v ≡ weight_of arcs u v)
            none q (inl d) t =
                absurd
                (true≢false
                (sym
                (has_suits mates (below_of N) Z (get_or rows q 0) (get_or former q 0) (weight_of arcs u v) u v d.1.a_in d.1.b_out
                (omega (arith, cost-row P 1 (bits_at former) light q u v d.0)) (ok_right.complete q u v d.0 d.1))
                ∙ f.1 q (omega arith) (omega (arith, d.0))))
            none q (inr d) t =
                let e : r ≡ P = omega (arith, f.0) in (
                  inr (e, d.1, d.2, d.3),
                  omega (
                    arith,
                    cost-store P 1 (bits_at former) light q u v (omega (arith, d.0)),
                    cost-store P 1 (bits_at former) light r u v (omega arith),
                  ),
                )

        -- The partition that is looked up for an arc allows it, and the arc costs there what it weighs.
        pub witness_right : (u v : ℕ) → u < N → v < N → arc_of arcs u v ≡ 1
            → Allowed P N R Z zone cap free (bits_at rows) (wit u v) u v × (cost P 1 (bits_at former) (wit u v) u v ≡ weight_of arcs u v)
        unfolding witness_of
        witness_right u v l k a =
            first_right u v (wit u v) l k a (first_cases (suits_at rows former mates (below_of N) Z (weight_of arcs u v) u v) P 0)

        -- The graph with the partitions that are looked up.
        pub witness-graph : ExchangeGraph P N R Z 1 zone cap (bits_at former) free (bits_at rows) (graph_of arcs N) wit
        witness-graph =
            record { nodes = refl; shift = refl; exchanges = exchanges; room = room; witness = λ u v l k a. witness_right u v l k a }

        -- A cycle over the nodes of a list, each arc at its witness, is a circuit of the rows.
        pub cycle_round : (nodes : List ℕ) (m : ℕ) → IsCycle (graph_of arcs N) m (λ t. get_or nodes t 0)
            → Round P N R Z 1 zone cap (bits_at former) free (bits_at rows) (cycle_of rows former P mates arcs (below_of N) Z nodes m)
        cycle_round nodes m c =
            graph_circuit P N R Z 1 zone cap (bits_at former) free (bits_at rows) (graph_of arcs N) wit witness-graph m (λ t. get_or nodes t 0) c

        -- The cycle that the search ends with, where the list holds its way back.
        module _ (some : 1 ≤ N) (k v : ℕ) (o : outcome (graph_of arcs N) ≡ cycle_found k v) (nodes : List ℕ)
            (held : (t : ℕ) → t ≤ cycle_length (graph_of arcs N) k v → get_or nodes t 0 ≡ back (graph_of arcs N) k v t)
          where
            abbrev m : ℕ
            m = cycle_length (graph_of arcs N) k v

            -- The list holds a cycle of the graph.
            pub held_cycle : IsCycle (graph_of arcs N) m (λ t. get_or nodes t 0)
            held_cycle =
                let c = (outcome_cycle (graph_of arcs N) k v some o).cycle in
                record {
                  some = c.some;
                  few = c.few;
                  nodes = λ i l. subst (λ (t : ℕ). t < N) (sym (held i l)) (c.nodes i l);
                  closed = held m (omega arith) ∙ (c.closed ∙ sym (held 0 (omega arith)));
                  distinct = λ i j l h f. c.distinct i j l h (sym (held i (omega arith)) ∙ (f ∙ held j (omega arith)));
                  arcs = λ i l. ap₂ (arc_of arcs) (held (suc i) l) (held i (omega arith)) ∙ c.arcs i l;
                  negative = omega (
                    arith,
                    c.negative,
                    sum_cong m (λ i. weight_of arcs (get_or nodes (suc i) 0) (get_or nodes i 0))
                        (λ i. weight_of arcs (back (graph_of arcs N) k v (suc i)) (back (graph_of arcs N) k v i))
                        (λ i l. ap₂ (weight_of arcs) (held (suc i) l) (held i (omega arith))),
                  );
                }
