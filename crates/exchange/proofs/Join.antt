-- The join of the parts: where the search of a layout's exchange graph ends with a potential, the layout is one of most weight; where it ends with
-- a cycle, the next layout is better.
-- Assumes nothing.
use Prim.Native.Nat.{ℕ, suc, ◌+◌, ◌*◌, ◌≤◌, ◌<◌}
use mathlib.Core.Path.{◌≡◌, refl, sym, ap, subst}
use mathlib.Core.Bool.{Bool, true, false, false≢true}
use mathlib.Core.Logic.{⊎_elim}
use native.Mathlib.Omega.{arith}
use borrow.Author.Tests.{lt-ltb, le-ltb}
use Rattle.sums.proofs.Sum.{lt_or_ge, sum_cong, sum_const}
use Rattle.exchange.specs.ModelRow.{Within}
use Rattle.exchange.specs.ModelPrices.{Potential as LayoutPotential}
use Rattle.exchange.specs.ModelCircuit.{cost, Allowed, Circuit, Better}
use Rattle.exchange.specs.ModelLevels.{Graph, Outcome, potential_found, cycle_found, back, cycle_length, outcome, dist, IsPotential, IsCycle}
use Rattle.exchange.specs.ModelUncross.{Right, improved}
use Rattle.exchange.specs.ModelJoin.{ExchangeGraph, cycle_walk, improves, next_layout, Heaviest, Settles}
use Rattle.exchange.proofs.Circuit.{ends}
use Rattle.exchange.proofs.Prices.{potential_best}
use Rattle.exchange.proofs.Search.{Stands, outcome-stands}
use Rattle.exchange.proofs.Uncross.{improved_better}

-- Where no pair weighs anything, there is no circuit: each arc costs C.
pub no_circuit : (P N R Z C : ℕ) (zone cap : ℕ → ℕ) (g free S : ℕ → ℕ → ℕ) (m : ℕ) (y r : ℕ → ℕ) → ((p b : ℕ) → p < P → b < N → g p b ≡ 0)
    → Circuit P N R Z C zone cap g free S m y r → ⊥
no_circuit P N R Z C zone cap g free S m y r none c =
    omega (arith, sum_cong m (λ i. cost P C g (r i) (y (suc i)) (y i)) (λ i. C) flat, sum_const m C, c.gains)
  where
    flat : (i : ℕ) → i < m → cost P C g (r i) (y (suc i)) (y i) ≡ C
    flat i l =
        let (a, b) = ends P N R Z C zone cap g free S m y r c i l in
        unfold cost in
        ⊎_elim (λ h. simp (lt-ltb (r i) P h) (omega (arith, none (r i) (y (suc i)) h a, none (r i) (y i) h b))) (λ h. simp (le-ltb (r i) P h))
        (lt_or_ge (r i) P)

module _ (P N R Z C : ℕ) (zone cap : ℕ → ℕ) (g free S : ℕ → ℕ → ℕ) (G : Graph) (q : ℕ → ℕ → ℕ)
    (x : ExchangeGraph P N R Z C zone cap g free S G q) where
  -- A potential on the exchange graph is one for the layout.
  pub graph_potential : (d : ℕ → ℕ) → IsPotential G d → LayoutPotential P N R Z zone cap g free S d
  graph_potential d h =
      record {
        along = λ p a b l e. along a b p e.a_node e.b_node (x.exchanges p a b l e);
        room = λ u v l m r. let w = x.room u v l m r in omega (arith, h u v (node l) (node m) w.0, w.1, x.shift);
      }
    where
      node : {u : ℕ} → u < N → u < G.N
      node l = omega (arith, x.nodes)

      along : (a b p : ℕ) → a < N → b < N → (G.arc a b ≡ 1) × (G.W a b + g p b ≤ C + g p a) → d b + g p b ≤ d a + g p a
      along a b p l m w = omega (arith, h a b (node l) (node m) w.0, w.1, x.shift)

  -- A simple negative cycle of the exchange graph, each arc at its partition, is a circuit of the layout.
  pub graph_circuit : (m : ℕ) (y : ℕ → ℕ) → IsCycle G m y → Circuit P N R Z C zone cap g free S m y (λ i. q (y (suc i)) (y i))
  graph_circuit m y c =
      record {
        closed = c.closed;
        distinct = c.distinct;
        arcs = λ i l. (at i l).0;
        gains = omega (
          arith,
          sum_cong m (λ i. cost P C g (q (y (suc i)) (y i)) (y (suc i)) (y i)) (λ i. G.W (y (suc i)) (y i)) (λ i l. (at i l).1),
          c.negative,
          ap (λ (t : ℕ). m * t) x.shift,
        );
      }
    where
      at : (i : ℕ) → i < m
          → Allowed P N R Z zone cap free S (q (y (suc i)) (y i)) (y (suc i)) (y i) × (cost P C g (q (y (suc i)) (y i)) (y (suc i)) (y i) ≡ G.W (y (suc i)) (y i))
      at i l =
          x.witness (y (suc i)) (y i) (omega (arith, c.nodes (suc i) l, x.nodes)) (omega (arith, c.nodes i (omega arith), x.nodes)) (c.arcs i l)

  module _ (ok : ℕ → ℕ → ℕ → Bool) (right : Right P N R Z zone free S ok) (some : 1 ≤ N) (zones : (b : ℕ) → b < N → zone b < N)
      (light : (p b : ℕ) → g p b ≤ C) (bits : (p b : ℕ) → free p b ≤ 1) (w : Within P N R Z zone cap S) where
    -- The join: the search ends with a potential, and the layout is one of most weight; or with a cycle, and the next layout is better.
    pub join : Settles P N R Z C zone cap g free S (next_layout P C g ok G q S (outcome G)) (outcome G)
    unfolding next_layout cycle_walk
    join = go (outcome G) (outcome-stands G (omega (arith, x.nodes)))
      where
        go : (o : Outcome) → Stands G o → Settles P N R Z C zone cap g free S (next_layout P C g ok G q S o) o
        go (potential_found k) h = potential_best P N R Z zone cap g free S (dist G k) zones bits w (graph_potential (dist G k) h.1)
        go (cycle_found k v) h = improved_better P N R Z C zone cap g free S ok right zones light w (cycle_walk G q k v)
            (graph_circuit (cycle_length G k v) (back G k v) h.cycle)

    -- The end with a potential.
    pub join_potential : (k : ℕ) → outcome G ≡ potential_found k → Heaviest P N R Z zone cap g free S
    join_potential k e = subst (λ (o : Outcome). Settles P N R Z C zone cap g free S (next_layout P C g ok G q S o) o) e join

    -- The end with a cycle.
    pub join_cycle : (k v : ℕ) → outcome G ≡ cycle_found k v → Better P N R Z C zone cap g free S (improved P C g ok (cycle_walk G q k v) S)
    unfolding next_layout
    join_cycle k v e = subst (λ (o : Outcome). Settles P N R Z C zone cap g free S (next_layout P C g ok G q S o) o) e join

    -- Where the search does not improve the layout, it is one of most weight, and it stays.
    pub join_stays : improves (outcome G) ≡ false → Heaviest P N R Z zone cap g free S × (next_layout P C g ok G q S (outcome G) ≡ S)
    unfolding improves next_layout
    join_stays e = go (outcome G) e join
      where
        go : (o : Outcome) → improves o ≡ false → Settles P N R Z C zone cap g free S (next_layout P C g ok G q S o) o
            → Heaviest P N R Z zone cap g free S × (next_layout P C g ok G q S o ≡ S)
        go (potential_found k) e h = (h, refl)
        go (cycle_found k v) e h = absurd (false≢true (sym e))

    -- Where it does, the next layout is better.
    pub join-improves : improves (outcome G) ≡ true → Better P N R Z C zone cap g free S (next_layout P C g ok G q S (outcome G))
    unfolding improves
    join-improves e = go (outcome G) e join
      where
        go : (o : Outcome) → improves o ≡ true → Settles P N R Z C zone cap g free S (next_layout P C g ok G q S o) o
            → Better P N R Z C zone cap g free S (next_layout P C g ok G q S o)
        go (potential_found k) e h = absurd (false≢true e)
        go (cycle_found k v) e h = h
