-- From the end of a run to the first of the nearest layouts: where no cycle is found, the distances of the search are a potential, and the arcs that weigh just
-- what the levels differ by lead along every even exchange; and where all pairs are decided from there, the rows are the first of their weight.
-- Assumes nothing.
use Prim.Native.Nat.{ℕ, ◌+◌, ◌≤◌, ◌<◌}
use mathlib.Core.Path.{◌≡◌, refl, ap, ◌∙◌, subst}
use mathlib.Core.List.{List}
use mathlib.Core.Logic.{⊎_elim}
use native.Mathlib.Omega.{arith}
use lib.ListN.{get_or}
use Rattle.cluster.specs.Terms.{most_nodes}
use Rattle.sums.proofs.Sum.{lt_or_ge}
use Rattle.sets.specs.ModelBits.{bit, bits_at}
use Rattle.sets.proofs.Laws.{bit_zero}
use Rattle.exchange.specs.ModelRow.{Exchange, weigh}
use Rattle.exchange.specs.ModelLevels.{potential_found, outcome, IsPotential}
use Rattle.exchange.proofs.Join.{graph_potential}
use Rattle.exchange.proofs.Agreeing.{SameLayout}
use Rattle.ties.specs.ModelOrder.{any, from, first_of}
use Rattle.ties.specs.ModelEven.{Even}
use Rattle.ties.proofs.Deciding.{none_decided}
use Rattle.levels.specs.ModelGraph.{graph_of, arc_of, weight_of}
use Rattle.graph.proofs.Exchanges.{within, within-arc}
use Rattle.evens.specs.ModelEvens.{Levelled, lead_of}
use Rattle.evens.proofs.Evening.{lead_in, lead-nodes}
use Rattle.attempts.specs.ModelDeciding.{Covers, Ordered}
use Rattle.attempts.proofs.Attempts.{ordered_first}
use Rattle.steps.specs.ModelSteps.{arcs_in, cycle_in}
use Rattle.improve.proofs.Ground.{Ground, Good, graph, witness, the_graph, found_none}

module _ (P N R Z : ℕ) (zone cap : ℕ → ℕ) (former mates caps : List ℕ) where
  module _ (G : Ground P N R Z zone cap former mates caps) (rows : List ℕ) (g : Good P N R Z zone cap rows) (d : ℕ → ℕ)
      (h : IsPotential (graph_of (arcs_in former P mates caps N Z rows) N) d) (even : List ℕ) (L : Levelled N d even) (leads : List ℕ)
      (led : (u : ℕ) → u < N → get_or leads u 0 ≡ lead_of (arcs_in former P mates caps N Z rows) even u)
      (blank : (u : ℕ) → N ≤ u → u < most_nodes → get_or leads u 0 ≡ 0) where
    abbrev arcs : List ℕ
    arcs = arcs_in former P mates caps N Z rows

    -- An arc that weighs what the levels differ by leads.
    leads-on : (u v : ℕ) → u < N → v < N → arc_of arcs u v ≡ 1 → d v + 1 ≡ d u + weight_of arcs u v → bit (get_or leads u 0) v ≡ 1
    unfolding within
    leads-on u v lu lv e w =
        let s = within-arc arcs u v e in
        ap (λ (x : ℕ). bit x v) (led u lu) ∙ lead_in N d even G.zones.few L arcs u v (weight_of arcs u v) lu lv s.0 s.1 w

    -- The arcs lead along every even exchange and every step over the store between nodes of one level.
    start_covers : Covers P N R Z zone cap (bits_at former) (from 0 0) (bits_at rows) d leads
    start_covers =
        record {
          rows = λ q u v l e. even-leads q u v l e.exchange.a_node e.exchange.b_node e;
          store = λ u v lu lv r e.
              let w = (the_graph G rows g).room u v lu lv r in
              leads-on u v lu lv w.0 (omega (arith, h u v lu lv w.0, w.1));
          nodes = λ u v lu n lv.
              ⊎_elim (λ k. ap (λ (x : ℕ). bit x v) (led u k) ∙ lead-nodes N d even G.zones.few L arcs u v k n lv)
              (λ k. ap (λ (x : ℕ). bit x v) (blank u k lu) ∙ bit_zero v) (lt_or_ge u N);
        }
      where
        even-leads : (q u v : ℕ) → q < P → u < N → v < N → Even N R Z zone (bits_at former) (from 0 0) (bits_at rows) d q u v → bit (get_or leads u 0) v ≡ 1
        even-leads q u v l lu lv e =
            let x : Exchange N R Z zone any (bits_at rows) q u v =
            record {
              a_node = e.exchange.a_node;
              b_node = e.exchange.b_node;
              a_in = e.exchange.a_in;
              b_out = e.exchange.b_out;
              a_free = refl;
              b_free = refl;
              valid = e.exchange.valid;
            } in
            let w = (the_graph G rows g).exchanges q u v l x in
            leads-on u v lu lv w.0 (omega (arith, h u v lu lv w.0, w.1, e.level))

    -- The start of the ordering.
    pub start_ordered : Ordered P N R Z zone cap (weigh P N (bits_at former) (bits_at rows)) former mates caps even d 0 0 rows leads
    start_ordered =
        record {
          standing = record {
            zones = G.zones;
            capped = G.capped;
            levelled = L;
            long = g.long;
            small = g.small;
            nearest = record { within = g.within; weighs = refl };
            potential = graph_potential P N R Z 1 zone cap (bits_at former) any (bits_at rows) (graph G rows g) (witness G rows g) (the_graph G rows g) d h;
          };
          covers = start_covers;
          decided = none_decided P N R Z zone cap (bits_at former) (weigh P N (bits_at former) (bits_at rows)) (bits_at rows) (record { within = g.within; weighs = refl });
        }

  -- Good rows in which no cycle is found are ordered by whatever decides all pairs, from the levels of a search of their graph and the nodes that lead on.
  pub order-first : Ground P N R Z zone cap former mates caps → (rows : List ℕ) → Good P N R Z zone cap rows → cycle_in former P mates caps N Z rows ≡ 0
      → (arcs levels even leads : List ℕ) → arcs ≡ arcs_in former P mates caps N Z rows
      → ((k : ℕ) → outcome (graph_of arcs N) ≡ potential_found k → IsPotential (graph_of arcs N) (λ v. get_or levels v 0)) → Levelled N (λ v. get_or levels v 0) even
      → ((u : ℕ) → u < N → get_or leads u 0 ≡ lead_of arcs even u) → ((u : ℕ) → N ≤ u → u < most_nodes → get_or leads u 0 ≡ 0) → (new after : List ℕ)
      → ((A : ℕ) (d : ℕ → ℕ) → Ordered P N R Z zone cap A former mates caps even d 0 0 rows leads
      → Ordered P N R Z zone cap A former mates caps even d P 0 new after)
      → Good P N R Z zone cap new
      × SameLayout P N (bits_at new) (first_of P N R Z zone cap (bits_at former) (weigh P N (bits_at former) (bits_at rows)))
  order-first G rows g none arcs levels even leads e potential L led blank new after decides =
      let o = found_none G rows g none in
      let h = subst (λ (x : List ℕ). (k : ℕ) → outcome (graph_of x N) ≡ potential_found k → IsPotential (graph_of x N) (λ v. get_or levels v 0)) e potential in
      let l = subst (λ (x : List ℕ). (u : ℕ) → u < N → get_or leads u 0 ≡ lead_of x even u) e led in
      let A = weigh P N (bits_at former) (bits_at rows) in
      let d : (ℕ → ℕ) = λ v. get_or levels v 0 in
      let r = decides A d (start_ordered G rows g d (h o.0 o.1) even L leads l blank) in (
        record { long = r.standing.long; small = r.standing.small; within = r.standing.nearest.within },
        ordered_first P N R Z zone cap A former mates caps even d new after r,
      )
