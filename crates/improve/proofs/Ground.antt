-- The machine of improvements over any ground, from any good first rows: an improvement keeps states good and gains 1 to N in agreement, whether the
-- last walk is turned again or a cycle that was found; and where there is none, no rows within the caps agree more with the former ones. What nodes,
-- zones and caps stand for is left to whoever plans with it.
-- Assumes nothing.
use Prim.Native.Nat.{ℕ, zero, suc, ◌+◌, ◌*◌, ◌^◌, ◌≤◌, ◌<◌, min}
use mathlib.Core.Path.{◌≡◌, refl, sym, ap, ◌∙◌, subst}
use mathlib.Core.Bool.{Bool, true, false, not, cond}
use mathlib.Core.List.{List}
use mathlib.Core.Logic.{inl, inr, ⊎_elim}
use native.Mathlib.Omega.{arith}
use native.Mathlib.Nat.{mul-one, mul-zero, one-mul, zero-mul, zero-add}
use lib.Dec.{eqb}
use lib.ListN.{length, get_or, drop, replicate, length-replicate, length-append}
use borrow.Author.Tests.{eq-eqb, eqb-true, le-leb, not-true, not-false}
use Rattle.sums.specs.TermsSums.{sum_to, tab}
use Rattle.sums.proofs.Sum.{lt_or_ge, sum_cong, sum_zero}
use Rattle.sums.proofs.Tests.{true_or_false}
use Rattle.sets.specs.ModelBits.{mask_bits, bit, bits_at, meet_of, below_of, count_of}
use Rattle.sets.proofs.Laws.{bit_le, bit_lt, bit_high, bit-meet, meet_lt, count-sum}
use Rattle.cells.specs.ModelCells.{put}
use Rattle.cells.proofs.Cells.{get_or_put_in, length-tab}
use Rattle.exchange.specs.ModelRow.{Within, Exchange, copies, weigh}
use Rattle.exchange.specs.ModelLevels.{Graph, Outcome, potential_found, cycle_found, outcome, back, cycle_length, IsCycle}
use Rattle.exchange.specs.ModelCircuit.{cost, Allowed, Better}
use Rattle.exchange.specs.ModelUncross.{Walk, Round}
use Rattle.exchange.specs.ModelJoin.{ExchangeGraph}
use Rattle.exchange.proofs.Prices.{weigh_le}
use Rattle.exchange.proofs.Search.{outcome_cycle}
use Rattle.exchange.proofs.Circuit.{cost-row, cost-store}
use Rattle.exchange.proofs.Join.{join_potential, no_circuit}
use Rattle.cluster.specs.Terms.{most_nodes, buffer_rows}
use Rattle.swaps.specs.ModelMates.{Mates}
use Rattle.graph.specs.ModelArcs.{arcs_of, cell_of}
use Rattle.graph.proofs.Members.{any}
use Rattle.graph.proofs.Exchanges.{graph-exchange, graph-room, graph-witness}
use Rattle.levels.specs.ModelGraph.{arc_cells, graph_of, arc_of, weight_of}
use Rattle.cycles.specs.ModelFound.{walk_cells, searchable, end_length, end_walk, found_length, found_walk}
use Rattle.walks.specs.ModelWalks.{ok_of, witness_of, renewed, stands}
use Rattle.walks.proofs.Renewing.{stands-some}
use Rattle.circuits.specs.ModelCircuits.{cycle_of}
use Rattle.circuits.proofs.Steps.{turned-length}
use Rattle.circuits.proofs.Improving.{Ring, ok_right, witness-graph, cycle_round, held_cycle, again_round, freed_ring, turned_small, turned_better}
use Rattle.agreement.specs.ModelAgreement.{agreement_in}
use Rattle.steps.specs.ModelSteps.{State, arcs_in, cycle_in, found_in, sought_in, turned_in, improves_in, next_in}
use Rattle.improve.specs.ModelImprove.{begun, ran_in}
use Rattle.allowances.proofs.Runs.{not_both, run_keeps, run_ends}

-- What a run stands on: the zones of the nodes in the slice of mates, the caps in cells, and a former row for each of the partitions.
pub record Ground (P N R Z : ℕ) (zone cap : ℕ → ℕ) (former mates caps : List ℕ) : Type 0 where
  pub partitions : (1 ≤ P) × (P ≤ buffer_rows)
  pub copied : 1 ≤ R
  pub zones : Mates N zone mates
  pub capped : (b : ℕ) → b < N → get_or caps b 0 ≡ cap b
  pub rows : P ≤ length former

-- Good rows: a mask of nodes below N for each partition, together within the caps.
pub record Good (P N R Z : ℕ) (zone cap : ℕ → ℕ) (rows : List ℕ) : Type 0 where
  pub long : P ≤ length rows
  pub small : (p : ℕ) → p < P → get_or rows p 0 < 2 ^ N
  pub within : Within P N R Z zone cap (bits_at rows)

-- A good state: good rows, and a last walk that, where it has arcs, is closed and simple and gains.
pub record GoodState (P N R Z : ℕ) (zone cap : ℕ → ℕ) (former : List ℕ) (s : State) : Type 0 where
  pub good : Good P N R Z zone cap s.rows
  pub ring : 0 < s.last.len → Ring P N former s.last

module _ {P N R Z : ℕ} {zone cap : ℕ → ℕ} {former mates caps : List ℕ} (G : Ground P N R Z zone cap former mates caps) where
  light : (p b : ℕ) → bits_at former p b ≤ 1
  light p b = bit_le (get_or former p 0) b

  -- ---- agreement

  -- What good rows share with the former ones is their weight.
  pub agreement-weighs : (rows : List ℕ) → Good P N R Z zone cap rows → agreement_in rows former P ≡ weigh P N (bits_at former) (bits_at rows)
  unfolding agreement_in weigh
  agreement-weighs rows g =
      sum_cong P (λ p. count_of (meet_of (get_or rows p 0) (get_or former p 0))) (λ p. sum_to N (λ b. bits_at rows p b * bits_at former p b)) row
    where
      times : (x y : ℕ) → x ≤ 1 → y ≤ 1 → min x y ≡ x * y
      times zero y a b = omega (arith, zero-mul y)
      times (suc zero) y a b = omega (arith, one-mul y)
      times (suc (suc x)) y a b = absurd (omega arith)

      row : (p : ℕ) → p < P → count_of (meet_of (get_or rows p 0) (get_or former p 0)) ≡ sum_to N (λ b. bits_at rows p b * bits_at former p b)
      row p l =
          let m = meet_of (get_or rows p 0) (get_or former p 0) in
          let meet = bit-meet (get_or rows p 0) (get_or former p 0) in
          count-sum N m G.zones.few
          (bit_lt mask_bits N m (meet_lt (get_or rows p 0) (get_or former p 0)) (λ i h k. meet i k ∙ omega (arith, bit_high N (get_or rows p 0) i (g.small p l) h)))
          ∙ sum_cong N (λ b. bit m b) (λ b. bits_at rows p b * bits_at former p b)
          (λ b k. meet b (omega (arith, G.zones.few)) ∙ times (bits_at rows p b) (bits_at former p b) (bit_le (get_or rows p 0) b) (light p b))

  -- They share no more than there are copies.
  pub agreement_le : (rows : List ℕ) → Good P N R Z zone cap rows → agreement_in rows former P ≤ P * R
  agreement_le rows g =
      omega (arith, agreement-weighs rows g, weigh_le P N R Z 1 zone cap (bits_at former) (bits_at rows) g.within (λ p b l k. light p b), mul-one (P * R))

  -- ---- the exchange graph of good rows

  module _ (rows : List ℕ) (g : Good P N R Z zone cap rows) where
    abbrev arcs : List ℕ
    arcs = arcs_in former P mates caps N Z rows

    abbrev pub graph : Graph
    graph = graph_of arcs N

    blank : arc_cells ≤ length {A = ℕ} (replicate arc_cells 0)
    blank = omega (arith, length-replicate {A = ℕ} arc_cells 0)

    arcs_long : arc_cells ≤ length arcs
    unfolding arcs_in arcs_of
    arcs_long =
        let f = cell_of rows former P mates caps (below_of N) Z in
        omega (arith, length-append (tab f arc_cells) (drop arc_cells (replicate arc_cells 0)), length-tab f arc_cells)

    exchanges : (p a b : ℕ) → p < P → Exchange N R Z zone any (bits_at rows) p a b
        → (arc_of arcs a b ≡ 1) × (weight_of arcs a b + bits_at former p b ≤ 1 + bits_at former p a)
    unfolding arcs_in
    exchanges = graph-exchange P N R Z zone rows former mates caps (replicate arc_cells 0) G.zones g.small g.within.rows blank

    room : (u v : ℕ) → u < N → v < N → copies P (bits_at rows) u < cap u → (arc_of arcs u v ≡ 1) × (weight_of arcs u v ≤ 1)
    unfolding arcs_in
    room u v lu lv h =
        graph-room P N R Z zone rows former mates caps (replicate arc_cells 0) G.zones g.small g.within.rows blank u v lu lv
        (omega (arith, G.capped u lu))

    there : (u v : ℕ) → u < N → v < N → arc_of arcs u v ≡ 1
        → (q : ℕ) × (Allowed P N R Z zone cap any (bits_at rows) q u v × (cost P 1 (bits_at former) q u v ≡ weight_of arcs u v))
    unfolding arcs_in
    there u v lu lv e =
        ⊎_elim (λ w. (w.0, (inl (w.1, w.2), omega (arith, w.3, cost-row P 1 (bits_at former) light w.0 u v w.1))))
        (λ w. (
          P,
          (
            inr (refl, lu, lv, omega (arith, w.1, G.capped u lu)),
            omega (arith, w.0, cost-store P 1 (bits_at former) light P u v (omega arith)),
          ),
        ))
        (graph-witness P N R Z zone rows former mates caps (replicate arc_cells 0) G.zones g.small g.within.rows blank u v lu lv e)

    abbrev pub witness : ℕ → ℕ → ℕ
    witness = witness_of rows former P mates arcs (below_of N) Z

    -- The masks of the rows are their exchange graph.
    pub the_graph : ExchangeGraph P N R Z 1 zone cap (bits_at former) any (bits_at rows) graph witness
    the_graph = witness-graph P N R Z zone cap any (λ p b. refl) rows former mates G.zones g.small g.within arcs exchanges room there

    -- There is a node, since there are copies.
    pub some : 1 ≤ N
    unfolding sum_to
    some = ⊎_elim (λ l. absurd (none (omega arith) (g.within.rows 0 G.partitions.0).size)) (λ h. h) (lt_or_ge N 1)
      where
        none : N ≡ 0 → sum_to N (bits_at rows 0) ≡ R → ⊥
        none z e = omega (arith, G.copied, ap (λ (n : ℕ). sum_to n (bits_at rows 0)) z)

    can_search : searchable arcs N (replicate walk_cells 0) ≡ true
    unfolding searchable
    can_search = rw (le-leb 1 N some, le-leb N most_nodes G.zones.few, le-leb arc_cells (length arcs) arcs_long)

    found : cycle_in former P mates caps N Z rows ≡ end_length graph (outcome graph)
    unfolding cycle_in found_length
    found = ap (λ (b : Bool). cond b (end_length graph (outcome graph)) 0) can_search

    -- Where a cycle is found, the search of the graph ended with it ..
    found_cycle : (cycle_in former P mates caps N Z rows ≡ 0 → ⊥) → (k : ℕ) × (v : ℕ) × (outcome graph ≡ cycle_found k v)
    unfolding end_length
    found_cycle n = go (outcome graph) refl
      where
        go : (o : Outcome) → outcome graph ≡ o → (k : ℕ) × (v : ℕ) × (outcome graph ≡ cycle_found k v)
        go (potential_found k) h = absurd (n (found ∙ ap (end_length graph) h))
        go (cycle_found k v) h = (k, v, h)

    -- .. and where none is, with a potential.
    pub found_none : cycle_in former P mates caps N Z rows ≡ 0 → (k : ℕ) × (outcome graph ≡ potential_found k)
    unfolding end_length
    found_none e = go (outcome graph) refl
      where
        go : (o : Outcome) → outcome graph ≡ o → (k : ℕ) × (outcome graph ≡ potential_found k)
        go (potential_found k) h = (k, h)
        go (cycle_found k v) h = absurd (omega (arith, e, found, ap (end_length graph) h, (outcome_cycle graph k v some h).cycle.some))

    -- ---- the cycle that is found

    module _ (k v : ℕ) (o : outcome graph ≡ cycle_found k v) where
      abbrev m : ℕ
      m = cycle_length graph k v

      abbrev nodes : List ℕ
      nodes = found_walk arcs N (replicate walk_cells 0)

      short : m < length {A = ℕ} (replicate walk_cells 0)
      short = omega (arith, (outcome_cycle graph k v some o).cycle.few, G.zones.few, length-replicate {A = ℕ} walk_cells 0)

      walked : nodes ≡ put 0 (back graph k v) (m + 1) (replicate walk_cells 0)
      unfolding found_walk end_walk
      walked =
          ap (λ (b : Bool). cond b (end_walk graph (outcome graph) (replicate walk_cells 0)) (replicate walk_cells 0)) can_search
          ∙ ap (λ (x : Outcome). end_walk graph x (replicate walk_cells 0)) o

      held : (i : ℕ) → i ≤ m → get_or nodes i 0 ≡ back graph k v i
      held i l =
          ap (λ (x : List ℕ). get_or x i 0) walked
          ∙ (ap (λ (j : ℕ). get_or (put 0 (back graph k v) (m + 1) (replicate walk_cells 0)) j 0) (sym (zero-add i))
          ∙ get_or_put_in 0 (back graph k v) (m + 1) (replicate walk_cells 0) i 0 (omega arith) (omega (arith, short)))

      cycle : IsCycle graph m (λ i. get_or nodes i 0)
      cycle =
          held_cycle P N R Z zone cap any (λ p b. refl) rows former mates G.zones g.small g.within arcs exchanges room there some k v o nodes held

      -- Its walk is a circuit of the rows.
      found-round : Round P N R Z 1 zone cap (bits_at former) any (bits_at rows) (found_in former P mates caps N Z rows)
      unfolding found_in end_length
      found-round =
          subst (λ (x : ℕ). Round P N R Z 1 zone cap (bits_at former) any (bits_at rows) (cycle_of rows former P mates arcs (below_of N) Z nodes x))
          (sym (found ∙ ap (end_length graph) o))
          (cycle_round P N R Z zone cap any (λ p b. refl) rows former mates G.zones g.small g.within arcs exchanges room there nodes m cycle)

    -- ---- one improvement

    -- A circuit of the rows is turned.
    module _ (w : Walk) (c : Round P N R Z 1 zone cap (bits_at former) any (bits_at rows) w) where
      turned_better_rows : Better P N R Z 1 zone cap (bits_at former) any (bits_at rows) (bits_at (turned_in former P mates caps N Z rows w).rows)
      unfolding turned_in
      turned_better_rows =
          turned_better P N R Z zone cap any (λ p b. refl) rows former mates G.zones g.small g.within w c g.long

      turned_good : GoodState P N R Z zone cap former (turned_in former P mates caps N Z rows w)
      unfolding turned_in
      turned_good =
          record {
            good = record {
              long = omega (arith, g.long, turned-length rows former P mates (below_of N) Z w);
              small = turned_small P N R Z zone cap any (λ p b. refl) rows former mates G.zones g.small g.within w c g.long;
              within = turned_better_rows.within;
            };
            ring = λ l. freed_ring P N R Z zone cap any (λ p b. refl) rows former mates G.zones g.small g.within w c g.long;
          }

  -- ---- the walk to turn next

  module _ (s : State) (h : GoodState P N R Z zone cap former s) where
    -- A walk to turn is a circuit of the rows: the last one again, or a cycle that was found.
    pub sought-round : improves_in former P mates caps N Z s ≡ true
        → Round P N R Z 1 zone cap (bits_at former) any (bits_at s.rows) (sought_in former P mates caps N Z s.rows s.last)
    unfolding improves_in sought_in found_in
    sought-round = go (stands s.rows former P mates (below_of N) Z caps s.last) refl
      where
        again : Walk
        again = renewed s.rows former P mates (below_of N) Z s.last

        other : Walk
        other = found_in former P mates caps N Z s.rows

        go : (b : Bool) → stands s.rows former P mates (below_of N) Z caps s.last ≡ b → not (eqb (cond b again other).len 0) ≡ true
            → Round P N R Z 1 zone cap (bits_at former) any (bits_at s.rows) (cond b again other)
        go true e n =
            again_round P N R Z zone cap any (λ p b. refl) s.rows former mates G.zones h.good.small h.good.within caps G.capped s.last
            (h.ring (stands-some s.rows former P mates (below_of N) Z caps s.last e)) e
        go false e n =
            let w = found_cycle s.rows h.good (λ q. not_both (eqb (cycle_in former P mates caps N Z s.rows) 0) (eq-eqb (cycle_in former P mates caps N Z s.rows) 0 q) (not-true (eqb (cycle_in former P mates caps N Z s.rows) 0) n)) in
            found-round s.rows h.good w.0 w.1 w.2

    -- Where there is none, no cycle was found.
    pub sought-none : improves_in former P mates caps N Z s ≡ false → cycle_in former P mates caps N Z s.rows ≡ 0
    unfolding improves_in sought_in found_in
    sought-none = go (stands s.rows former P mates (below_of N) Z caps s.last) refl
      where
        again : Walk
        again = renewed s.rows former P mates (below_of N) Z s.last

        other : Walk
        other = found_in former P mates caps N Z s.rows

        go : (b : Bool) → stands s.rows former P mates (below_of N) Z caps s.last ≡ b → not (eqb (cond b again other).len 0) ≡ false
            → cycle_in former P mates caps N Z s.rows ≡ 0
        go true e n =
            absurd (omega (arith, stands-some s.rows former P mates (below_of N) Z caps s.last e, eqb-true s.last.len 0 (not-false (eqb s.last.len 0) n)))
        go false e n = eqb-true (cycle_in former P mates caps N Z s.rows) 0 (not-false (eqb (cycle_in former P mates caps N Z s.rows) 0) n)

  -- ---- the machine

  -- The beginning of a run is good with its rows.
  pub begun_good : (rows : List ℕ) → Good P N R Z zone cap rows → GoodState P N R Z zone cap former (begun rows)
  begun_good rows g = record { good = g; ring = λ l. absurd (omega arith) }

  -- An improvement keeps states good.
  pub next_good : (s : State) → GoodState P N R Z zone cap former s → improves_in former P mates caps N Z s ≡ true
      → GoodState P N R Z zone cap former (next_in former P mates caps N Z s)
  unfolding next_in
  next_good s h e = turned_good s.rows h.good (sought_in former P mates caps N Z s.rows s.last) (sought-round s h e)

  -- It gains at least 1 and at most N in agreement.
  pub next-gains : (s : State) → GoodState P N R Z zone cap former s → improves_in former P mates caps N Z s ≡ true
      → (agreement_in s.rows former P + 1 ≤ agreement_in (next_in former P mates caps N Z s).rows former P)
      × (agreement_in (next_in former P mates caps N Z s).rows former P ≤ agreement_in s.rows former P + N)
  unfolding next_in
  next-gains s h e =
      let b = turned_better_rows s.rows h.good (sought_in former P mates caps N Z s.rows s.last) (sought-round s h e) in
      let x = agreement-weighs s.rows h.good in
      let y = agreement-weighs (next_in former P mates caps N Z s).rows (next_good s h e).good in
      (omega (arith, b.more), omega (arith, b.most, mul-one N))

  -- Where there is none, no rows within the caps have more agreement.
  pub none_heavier : (s : State) → GoodState P N R Z zone cap former s → improves_in former P mates caps N Z s ≡ false
      → (T : ℕ → ℕ → ℕ) → Within P N R Z zone cap T → weigh P N (bits_at former) T ≤ agreement_in s.rows former P
  none_heavier s h e T w =
      let rows = s.rows in
      let g = h.good in
      let d = found_none rows g (sought-none s h e) in
      omega (
        arith,
        agreement-weighs rows g,
        join_potential P N R Z 1 zone cap (bits_at former) any (bits_at rows) (graph rows g) (witness rows g) (the_graph rows g)
            (ok_of rows mates (below_of N) Z) (ok_right P N R Z zone cap any (λ p b. refl) rows former mates G.zones g.small g.within) (some rows g)
            G.zones.inside light (λ p b. omega arith) g.within d.0 d.1 T w (λ p l b k z. absurd (omega (arith, z))),
      )

  -- Without former copies there is nothing to improve, and nothing is shared.
  pub none-former : (s : State) → GoodState P N R Z zone cap former s → ((p b : ℕ) → p < P → b < N → bits_at former p b ≡ 0)
      → (improves_in former P mates caps N Z s ≡ false) × (agreement_in s.rows former P ≡ 0)
  unfolding weigh
  none-former s h none = (
    ⊎_elim
        (λ e.
        let w = sought_in former P mates caps N Z s.rows s.last in
        absurd
        (no_circuit P N R Z 1 zone cap (bits_at former) any (bits_at s.rows) w.len w.node w.partition none (sought-round s h e)))
        (λ e. e) (true_or_false (improves_in former P mates caps N Z s)),
    agreement-weighs s.rows h.good
        ∙ sum_zero P (λ p. sum_to N (λ b. bits_at s.rows p b * bits_at former p b))
        (λ p l. sum_zero N (λ b. bits_at s.rows p b * bits_at former p b)
        (λ b k. ap (λ (x : ℕ). bits_at s.rows p b * x) (none p b l k) ∙ mul-zero (bits_at s.rows p b))),
  )

  -- A run from good rows ends in a good state ..
  pub run_good : (start : List ℕ) → Good P N R Z zone cap start → (a : ℕ) → GoodState P N R Z zone cap former (ran_in former P mates caps N Z a start).state
  unfolding ran_in
  run_good start g a =
      run_keeps (improves_in former P mates caps N Z) (next_in former P mates caps N Z) (GoodState P N R Z zone cap former) next_good a (begun start) (begun_good start g)

  -- .. and is finished by an improvement for each copy.
  pub run_finishes : (start : List ℕ) → Good P N R Z zone cap start → (a : ℕ) → P * R ≤ a → (ran_in former P mates caps N Z a start).finished ≡ true
  unfolding ran_in
  run_finishes start g a l =
      run_ends (improves_in former P mates caps N Z) (next_in former P mates caps N Z) (GoodState P N R Z zone cap former) next_good
      (λ x. agreement_in x.rows former P) (P * R) (λ x h e. (next-gains x h e).0) (λ x h. agreement_le x.rows h.good) a (begun start)
      (begun_good start g) (omega arith)
