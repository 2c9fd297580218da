-- What the functions of one improvement rest on, over plain lists and numbers: the walk to turn next, one step, and what a step tells of a state.
-- Assumes nothing.
use Prim.Native.Nat.{ℕ, ◌≤◌, ◌<◌}
use mathlib.Core.Path.{◌≡◌, refl, sym, ap, ◌∙◌, subst}
use mathlib.Core.Bool.{Bool, true, false, not, cond, ◌&&◌}
use mathlib.Core.List.{List}
use mathlib.Core.Logic.{⊎_elim}
use native.Mathlib.Omega.{arith}
use lib.Dec.{eqb, ltb, leb}
use lib.ListN.{length, get_or, replicate}
use borrow.Author.Tests.{ne_eqb, eqb-true, leb-true, not-false}
use Rattle.sums.specs.TermsSums.{one_if}
use Rattle.sums.proofs.Sum.{eq_or_ne}
use Rattle.sums.proofs.Tests.{both}
use Rattle.sets.specs.ModelBits.{bit, bits_at, mask_of, below_of}
use Rattle.sets.proofs.Laws.{bit-mask_of}
use Rattle.cluster.specs.Terms.{most_nodes}
use Rattle.exchange.specs.ModelRow.{copies}
use Rattle.exchange.specs.ModelLevels.{Outcome, potential_found, cycle_found, outcome}
use Rattle.exchange.specs.ModelUncross.{Walk, Same}
use Rattle.exchange.proofs.Search.{outcome_cycle}
use Rattle.exchange.proofs.Walk.{same_refl, same_trans}
use Rattle.graph.specs.ModelArcs.{copies_to, arcs_of}
use Rattle.levels.specs.ModelGraph.{arc_cells, graph_of}
use Rattle.cycles.specs.ModelFound.{walk_cells, searchable, end_length, found_length, found_walk}
use Rattle.walks.specs.ModelWalks.{ok_of, renewed, stands}
use Rattle.walks.proofs.Renewing.{renewed_same, stands_same}
use Rattle.freeing.specs.ModelFreed.{freed_of}
use Rattle.freeing.proofs.Freeing.{freed_same, freed_none, uncross-some}
use Rattle.circuits.specs.ModelCircuits.{cycle_of, turned_of}
use Rattle.circuits.proofs.Steps.{turned_same, turned_none}
use Rattle.steps.specs.ModelSteps.{State, arcs_in, cycle_in, found_in, sought_in, turned_in, improves_in, next_in, stepped_in}

-- ---- the walk to turn next

module _ (former : List ℕ) (P : ℕ) (mates caps : List ℕ) (n z : ℕ) (rows : List ℕ) where
  -- The masks of the graph, over the set of all nodes.
  pub the_arcs : (all : ℕ) → all ≡ below_of n → (arcs : List ℕ) → arcs ≡ arcs_of rows former P mates caps all z (replicate arc_cells 0)
      → arcs ≡ arcs_in former P mates caps n z rows
  unfolding arcs_in
  the_arcs all e-all arcs e = e ∙ ap (λ (x : ℕ). arcs_of rows former P mates caps x z (replicate arc_cells 0)) e-all

  -- The cycle that is found in the graph, as a walk.
  pub found-walk : (all : ℕ) → all ≡ below_of n → (u : Walk) (arcs nodes : List ℕ) (m : ℕ) → arcs ≡ arcs_in former P mates caps n z rows
      → m ≡ found_length arcs n (replicate walk_cells 0) → nodes ≡ found_walk arcs n (replicate walk_cells 0)
      → Same (cycle_of rows former P mates arcs all z nodes m) u → Same (found_in former P mates caps n z rows) u
  unfolding found_in cycle_in
  found-walk all e-all u arcs nodes m e-arcs e-m e-nodes s =
      subst (λ (v : Walk). Same v u)
      ((λ i. cycle_of rows former P mates arcs all z (e-nodes i) (e-m i))
      ∙ (λ i. cycle_of rows former P mates (e-arcs i) (e-all i) z (found_walk (e-arcs i) n (replicate walk_cells 0)) (found_length (e-arcs i) n (replicate walk_cells 0))))
      s

  module _ (all : ℕ) (e-all : all ≡ below_of n) (w u : Walk) (b : Bool) (e : b ≡ stands rows former P mates all z caps w) where
    -- Whether the last walk stands.
    the_test : stands rows former P mates (below_of n) z caps w ≡ b
    the_test = sym (e ∙ ap (λ (x : ℕ). stands rows former P mates x z caps w) e-all)

    -- Where it does, it is turned again.
    pub sought_again : b ≡ true → Same (renewed rows former P mates all z w) u → Same (sought_in former P mates caps n z rows w) u
    unfolding sought_in
    sought_again y s = rw (the_test ∙ y) (subst (λ (x : ℕ). Same (renewed rows former P mates x z w) u) e-all s)

    -- Else the cycle that is found in the graph is.
    pub sought-found : b ≡ false → Same (found_in former P mates caps n z rows) u → Same (sought_in former P mates caps n z rows w) u
    unfolding sought_in
    sought-found y s = rw (the_test ∙ y) s

  -- It goes by the entries of the last walk up to its length.
  sought_same : {w u : Walk} → Same w u → Same (sought_in former P mates caps n z rows w) (sought_in former P mates caps n z rows u)
  unfolding sought_in
  sought_same {w} {u} s =
      subst (λ (b : Bool). Same (cond (test w) (again w) (found_in former P mates caps n z rows)) (cond b (again u) (found_in former P mates caps n z rows)))
      (stands_same rows former P mates (below_of n) z caps s) (go (test w))
    where
      test : Walk → Bool
      test v = stands rows former P mates (below_of n) z caps v

      again : Walk → Walk
      again v = renewed rows former P mates (below_of n) z v

      go : (b : Bool) → Same (cond b (again w) (found_in former P mates caps n z rows)) (cond b (again u) (found_in former P mates caps n z rows))
      go true = renewed_same rows former P mates (below_of n) z s
      go false = same_refl (found_in former P mates caps n z rows)

  -- ---- one step

  module _ (w v u : Walk) (s : Same (sought_in former P mates caps n z rows w) v) (allowed : Bool) where
    -- The walk to turn next is turned ..
    pub step-made : allowed ≡ true → (all : ℕ) → all ≡ below_of n → (new : List ℕ) → new ≡ turned_of rows former P mates all z v
        → Same (freed_of rows former P mates all z v) u
        → (new ≡ (stepped_in former P mates caps n z allowed rows w).rows) × Same (stepped_in former P mates caps n z allowed rows w).last u
    unfolding stepped_in turned_in
    step-made y all e new f t =
        rw y (
          f ∙ (ap (λ (x : ℕ). turned_of rows former P mates x z v) e ∙ sym (turned_same rows former P mates (below_of n) z s)),
          same_trans (freed_same rows former P mates (below_of n) z s) (subst (λ (x : ℕ). Same (freed_of rows former P mates x z v) u) e t),
        )

    -- .. or only told.
    pub step_kept : allowed ≡ false → (rows ≡ (stepped_in former P mates caps n z allowed rows w).rows) × Same (stepped_in former P mates caps n z allowed rows w).last v
    unfolding stepped_in
    step_kept y = rw y (refl, s)

-- The cycle that is found has no more arcs than there may be nodes.
pub found_few : (arcs : List ℕ) (n : ℕ) (walk : List ℕ) (m : ℕ) → m ≡ found_length arcs n walk → m ≤ most_nodes
unfolding found_length
found_few arcs n walk m h = subst (λ (k : ℕ). k ≤ most_nodes) (sym h) (go (searchable arcs n walk) refl)
  where
    some : searchable arcs n walk ≡ true → (1 ≤ n) × (n ≤ most_nodes)
    some e =
        unfold searchable in
        let a = both (leb 1 n) (leb n most_nodes && (leb arc_cells (length arcs) && leb walk_cells (length walk))) e in
        let b = both (leb n most_nodes) (leb arc_cells (length arcs) && leb walk_cells (length walk)) a.1 in
        (leb-true 1 n a.0, leb-true n most_nodes b.0)

    ends : (o : Outcome) → outcome (graph_of arcs n) ≡ o → 1 ≤ n → end_length (graph_of arcs n) o ≤ n
    ends (potential_found k) e l = unfold end_length in omega arith
    ends (cycle_found k v) e l = unfold end_length in (outcome_cycle (graph_of arcs n) k v l e).cycle.few

    go : (b : Bool) → searchable arcs n walk ≡ b → cond b (end_length (graph_of arcs n) (outcome (graph_of arcs n))) 0 ≤ most_nodes
    go true e = omega (arith, some e, ends (outcome (graph_of arcs n)) refl (some e).0)
    go false e = omega arith

-- ---- room

-- The nodes with room, one by one.
pub room-bit : (rows : List ℕ) (P : ℕ) (caps : List ℕ) (room : ℕ) → room ≡ mask_of (λ u. one_if (ltb (copies P (bits_at rows) u) (get_or caps u 0))) most_nodes → (u : ℕ) → u < most_nodes
    → bit room u ≡ one_if (ltb (copies_to rows P u) (get_or caps u 0))
unfolding copies copies_to one_if
room-bit rows P caps room e u h =
    ap (λ (x : ℕ). bit x u) e ∙ bit-mask_of (λ u. one_if (ltb (copies P (bits_at rows) u) (get_or caps u 0))) most_nodes u h (one_le (ltb (copies P (bits_at rows) u) (get_or caps u 0)))
  where
    one_le : (b : Bool) → one_if b ≤ 1
    one_le true = omega arith
    one_le false = omega arith

-- ---- a step from cells that hold a state

-- Cells that hold a state.
pub record Holds (s : State) (rows : List ℕ) (w : Walk) : Type 0 where
  pub rows_are : rows ≡ s.rows
  pub last-is : Same s.last w

module _ (former : List ℕ) (P : ℕ) (mates caps : List ℕ) (n z : ℕ) where
  -- What a step from cells that hold a state tells of it, and leaves.
  module _ (s : State) (rows : List ℕ) (w : Walk) (h : Holds s rows w) (new : List ℕ) (u : Walk) where
    abbrev next : Walk
    next = sought_in former P mates caps n z rows w

    abbrev left : Walk
    left = freed_of rows former P mates (below_of n) z next

    sought : Same (sought_in former P mates caps n z s.rows s.last) next
    sought =
        subst (λ (r : List ℕ). Same (sought_in former P mates caps n z s.rows s.last) (sought_in former P mates caps n z r w)) (sym h.rows_are)
        (sought_same former P mates caps n z s.rows h.last-is)

    improves-is : (k : ℕ) → eqb k 0 ≡ eqb next.len 0 → improves_in former P mates caps n z s ≡ not (eqb k 0)
    unfolding improves_in
    improves-is k e = ap (λ (m : ℕ). not (eqb m 0)) sought.lens ∙ ap not (sym e)

    -- The walk to turn next, where it is only told.
    pub look_improves : Same (stepped_in former P mates caps n z false rows w).last u → improves_in former P mates caps n z s ≡ not (eqb u.len 0)
    unfolding stepped_in
    look_improves t = improves-is u.len (ap (λ (m : ℕ). eqb m 0) (sym t.lens))

    pub look_keeps : new ≡ (stepped_in former P mates caps n z false rows w).rows → new ≡ s.rows
    unfolding stepped_in
    look_keeps e = e ∙ h.rows_are

    -- Where it is turned, some of its arcs are left.
    pub step-improves : Same (stepped_in former P mates caps n z true rows w).last u → improves_in former P mates caps n z s ≡ not (eqb u.len 0)
    unfolding stepped_in turned_in
    step-improves t = improves-is u.len (⊎_elim none some (eq_or_ne next.len 0))
      where
        none : next.len ≡ 0 → eqb u.len 0 ≡ eqb next.len 0
        none e = ap (λ (m : ℕ). eqb m 0) (sym t.lens ∙ ap (λ (v : Walk). v.len) (freed_none rows former P mates (below_of n) z next e))

        some : (next.len ≡ 0 → ⊥) → eqb u.len 0 ≡ eqb next.len 0
        some e =
            let l : 0 < next.len = omega (arith, e) in
            let k : 0 < left.len = uncross-some P (bits_at former) (ok_of rows mates (below_of n) z) next.len next l in
            ne_eqb u.len 0 (λ q. omega (arith, t.lens)) ∙ sym (ne_eqb next.len 0 e)

    pub step-next : new ≡ (stepped_in former P mates caps n z true rows w).rows → Same (stepped_in former P mates caps n z true rows w).last u
        → Holds (next_in former P mates caps n z s) new u
    unfolding stepped_in turned_in next_in
    step-next e t =
        record {
          rows_are = e ∙ same_rows;
          last-is = same_trans same_walk t;
        }
      where
        state : List ℕ → Walk
        state r = sought_in former P mates caps n z s.rows s.last

        same_rows : turned_of rows former P mates (below_of n) z next ≡ turned_of s.rows former P mates (below_of n) z (sought_in former P mates caps n z s.rows s.last)
        same_rows =
            sym (turned_same rows former P mates (below_of n) z sought)
            ∙ ap (λ (r : List ℕ). turned_of r former P mates (below_of n) z (sought_in former P mates caps n z s.rows s.last)) h.rows_are

        same_walk : Same (freed_of s.rows former P mates (below_of n) z (sought_in former P mates caps n z s.rows s.last)) left
        same_walk =
            subst (λ (r : List ℕ). Same (freed_of r former P mates (below_of n) z (sought_in former P mates caps n z s.rows s.last)) left) h.rows_are
            (freed_same rows former P mates (below_of n) z sought)

    -- Without a walk to turn the rows stay.
    pub step-none : new ≡ (stepped_in former P mates caps n z true rows w).rows → improves_in former P mates caps n z s ≡ false → new ≡ s.rows
    unfolding stepped_in turned_in improves_in
    step-none e f =
        e
        ∙ (turned_none rows former P mates (below_of n) z next
        (sym sought.lens ∙ eqb-true (sought_in former P mates caps n z s.rows s.last).len 0 (not-false (eqb (sought_in former P mates caps n z s.rows s.last).len 0) f))
        ∙ h.rows_are)
