-- `arcs::add_part` meets its contract. The loop's invariant: the nodes of the part that are no more left have their sets.
use native.Mathlib.Omega.{arith}
use borrow.Author.Rules.{rules}
use Rattle.sets.proofs.Scan.{left_all, left_less}
use Rattle.arcs.specs.ModelMoves.{leads}
use Rattle.arcs.proofs.Turns.{nodes-none, nodes-turn, nodes-all, part-node}
use Rattle.arcs.proofs.add_part.Goals as goal

pub loop-a-init : goal.loop-a-init
loop-a-init c =
    let a = c.args in
    rw (c.into_iter-a-iterator.ensures.into_iter_gives, c.iter-a-items.ensures)
    (record { left = left_all a.part (search rules); done = nodes-none a.part (leads a.h a.low a.high) a.arcs.now })

pub loop-a-preserved : goal.loop-a-preserved
loop-a-preserved c =
    let L = c.loop-a in
    let comes = c.in-Some.ensures.steps in
    record {
      left = rw comes.rest (left_less _ _ L.invariant.left comes.some);
      done = nodes-turn _ _ _ _ _ _ _ _ L.invariant.left comes L.invariant.done
          (part-node _ _ _ _ _ _ _ comes.below c.requires.1 (omega arith) c.join.ensures c.join-in-loop-a.ensures);
    }

pub returns : goal.returns
returns c =
    nodes-all _ _ _ _ _ c.in-None.ensures.steps.0 c.loop-a.invariant.done
