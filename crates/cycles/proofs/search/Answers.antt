-- `cycles::search` meets its contract: at the start of each turn the cells hold a level, and what is to come from there is what the search comes to.
use Prim.Native.Nat.{ℕ, suc, ◌≤◌, ◌<◌, ◌-◌, ◌+◌, ◌*◌}
use mathlib.Core.Path.{◌≡◌, refl, ap, ◌∙◌, subst}
use native.Mathlib.Omega.{arith}
use mathlib.Core.List.{List}
use lib.ListN.{take, drop, replicate, get_or-replicate}
use Rattle.cluster.specs.Terms.{most_nodes}
use Rattle.sets.specs.ModelBits.{bit}
use Rattle.exchange.specs.ModelLevels.{potential_found, cycle_found, outcome}
use Rattle.levels.specs.ModelGraph.{table_cells, graph_of}
use Rattle.cycles.specs.ModelFound.{end_walk}
use Rattle.levels.specs.ModelTurns.{Settled, Descended}
use Rattle.cycles.specs.ModelTrails.{behind, closer}
use Rattle.levels.proofs.Offers.{stand-start}
use Rattle.cycles.proofs.States.{State, state-start, state-room, state-next}
use Rattle.cycles.proofs.Ends.{Turning, part-row, ends_still, ends_closed, levelled_still, levelled_closed, search_spent, search-start, search-still, row-node, search-on, state-on, search-closed, trail-closes, trail-node, trail-walk, trail-length}
use Rattle.cycles.proofs.Rows.{row-length}
use Rattle.cycles.proofs.search.Goals as goal

pub loop-k-init : goal.loop-k-init
loop-k-init c =
    let a = c.args in
    let s = c.requires.1 in (
      refl,
      refl,
      search-start (graph_of a.arcs.now a.n),
      state-start a.arcs.now a.n c.below-mask.result (replicate most_nodes a.n) (replicate most_nodes a.n) (replicate most_nodes 0) (replicate table_cells 0) s c.below-mask.ensures
          (λ v h. get_or-replicate most_nodes v a.n 0 (omega arith)) (λ v h. get_or-replicate most_nodes v a.n 0 (omega arith)) (λ v h. get_or-replicate most_nodes v 0 0 (omega arith)),
      stand-start a.n s,
    )

-- One level down, with all that the cells hold.
module _ {arcs dist next ways table next' table' : List ℕ} {n k mask set : ℕ} (small : n ≤ most_nodes) (below : k < n) (st : State (graph_of arcs n) k mask dist next ways table)
    (d : Descended arcs n k mask dist next' table table' set) where
  turning : Turning (graph_of arcs n) k set mask next' table' dist next ways table (take ((k + 1) * most_nodes + most_nodes - (k + 1) * most_nodes) (drop ((k + 1) * most_nodes) table'))
  turning =
      record {
        small = small;
        below = below;
        down = state-next arcs n k mask dist next ways table small below st set next' table' d;
        state = st;
        at_row = λ v h. part-row ((k + 1) * most_nodes) v table' h;
      }

pub descend-fell-requires : goal.descend-fell-requires
descend-fell-requires c =
    let i = c.loop-k.invariant in
    let a = c.args in
    let s = c.requires.1 in
    let b = c.loop-k-test.true in (
      b,
      s,
      c.requires.2,
      omega arith,
      omega arith,
      omega arith,
      omega arith,
      i.4,
      i.3.nodes,
      state-room a.arcs.now a.n c.loop-k.k c.loop-k.mask c.loop-k.dist c.loop-k.next c.loop-k.way c.loop-k.table s b i.3,
    )

pub returns-then-fell-eq0 : goal.returns-then-fell-eq0
returns-then-fell-eq0 c =
    let i = c.loop-k.invariant in
    let turn = turning c.requires.1 c.loop-k-test.true i.3 c.descend-fell.ensures.level in
    let a = c.args in
    let G = graph_of a.arcs.now a.n in
    let e : outcome G ≡ potential_found c.loop-k.k = i.2 ∙ search-still turn c.if-fell-eq0.true in
    (ends_still G (outcome G) c.loop-k.k a.walk.now c.loop-k.walk e i.0, levelled_still G (outcome G) c.loop-k.k i.3 e)

pub close-requires : goal.close-requires
close-requires c =
    let i = c.loop-k.invariant in
    let turn = turning c.requires.1 c.loop-k-test.true i.3 c.descend-fell.ensures.level in
    (c.requires.1, row-length c.loop-k.k (omega arith) c.descend-fell.new.table (omega arith), omega arith, omega arith, turn.down.nodes, row-node turn)

pub trace-length-requires : goal.trace-length-requires
trace-length-requires c =
    let i = c.loop-k.invariant in
    let turn = turning c.requires.1 c.loop-k-test.true i.3 c.descend-fell.ensures.level in
    let e = c.in-Some.ensures.first in (
      omega arith,
      omega arith,
      omega arith,
      trail-closes turn c.in-Some.v e.0 e.1,
      trail-node turn c.in-Some.v e.0 e.1,
    )

pub returns-in-Some : goal.returns-in-Some
returns-in-Some c =
    let l = c.loop-k.invariant in
    let turn = turning c.requires.1 c.loop-k-test.true l.3 c.descend-fell.ensures.level in
    let a = c.args in
    let G = graph_of a.arcs.now a.n in
    let v = c.in-Some.v in
    let i = c.in-Some.ensures.first.0 in
    let h = c.in-Some.ensures.first.1 in
    let e : outcome G ≡ cycle_found (suc c.loop-k.k) v = l.2 ∙ search-closed turn v i h c.if-fell-eq0.false c.descend-fell.type_inv in (
      ends_closed G (outcome G) (suc c.loop-k.k) v c.trace-length.result a.walk.now c.trace-length.new.walk e (c.trace-length.ensures.0 ∙ trail-length turn v i h)
          (c.trace-length.ensures.1 ∙ (trail-walk turn v i h c.loop-k.walk ∙ ap (λ (w : List ℕ). end_walk G (cycle_found (suc c.loop-k.k) v) w) l.0)),
      levelled_closed G (outcome G) c.loop-k.k l.3 (suc c.loop-k.k) v e,
    )

pub loop-k-preserved : goal.loop-k-preserved
loop-k-preserved c =
    let l = c.loop-k.invariant in
    let turn = turning c.requires.1 c.loop-k-test.true l.3 c.descend-fell.ensures.level in
    let n = c.args.n in
    let i = (c.loop-k.k + 1) * most_nodes in
    let row = take (i + most_nodes - i) (drop i c.descend-fell.new.table) in
    let e = c.in_default.ensures in
    let w : n ≤ closer n c.descend-fell.result row c.loop-k.way = omega (arith, e.first.0) in (
      l.0,
      refl,
      l.2 ∙ search-on turn c.if-fell-eq0.false c.descend-fell.type_inv w,
      state-on turn c.close.new.grown w
          (subst (λ (x : List ℕ). Settled (bit c.descend-fell.result) (behind row c.loop-k.way) x c.close.new.grown) l.1 (e.grows refl)),
      c.descend-fell.ensures.stand,
    )

pub returns : goal.returns
returns c =
    let a = c.args in
    let i = c.loop-k.invariant in
    let G = graph_of a.arcs.now a.n in
    let e : outcome G ≡ potential_found c.loop-k.k = i.2 ∙ search_spent G c.loop-k.k c.loop-k-test.false in
    (ends_still G (outcome G) c.loop-k.k a.walk.now c.loop-k.walk e i.0, levelled_still G (outcome G) c.loop-k.k i.3 e)
