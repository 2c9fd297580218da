-- `graph::add_room` meets its contract. The loop's invariant: the nodes that are no more left lead to all.
use borrow.Author.Rules.{rules}
use native.Mathlib.Omega.{arith}
use Rattle.sets.proofs.Scan.{left_all, left_less}
use Rattle.arcs.proofs.Turns.{nodes-none, nodes-turn, nodes-all, middle_node}
use Rattle.graph.proofs.add_room.Invariants.{roomed}
use Rattle.graph.proofs.add_room.Goals as goal

pub loop-a-init : goal.loop-a-init
loop-a-init c =
    let a = c.args in
    rw (c.into_iter-a-iterator.ensures.into_iter_gives, c.iter-a-items.ensures)
    (record { left = left_all a.room (search rules); done = nodes-none a.room (roomed a.all) a.arcs.now })

pub loop-a-preserved : goal.loop-a-preserved
loop-a-preserved c =
    let L = c.loop-a in
    let comes = c.in-Some.ensures.steps in
    record {
      left = rw comes.rest (left_less _ _ L.invariant.left comes.some);
      done = nodes-turn _ _ _ _ _ _ _ _ L.invariant.left comes L.invariant.done (middle_node _ _ _ _ comes.below (omega arith) c.join.ensures);
    }

pub returns : goal.returns
returns c = nodes-all c.args.room (roomed c.args.all) _ _ _ c.in-None.ensures.steps.0 c.loop-a.invariant.done
