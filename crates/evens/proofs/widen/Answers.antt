-- `evens::widen` meets its contract. The nodes of the row that are no more left lead to those to which they may give way.
use borrow.Author.Rules.{rules}
use Rattle.sets.proofs.Scan.{left_all, left_less}
use Rattle.swaps.proofs.Steps.{targets_are}
use Rattle.evens.proofs.Turns.{widen_none, widen-turn, widen-all, even-to-is}
use Rattle.evens.proofs.widen.Goals as goal

pub loop-a-init : goal.loop-a-init
loop-a-init c =
    let a = c.args in
    rw (c.into_iter-a-iterator.ensures.into_iter_gives, c.iter-a-items.ensures)
    (record { left = left_all a.row (search rules); done = widen_none a.mates.now a.all a.z a.even.now a.row a.former a.leads.now })

pub loop-a-preserved : goal.loop-a-preserved
loop-a-preserved c =
    let a = c.args in
    let L = c.loop-a in
    let comes = c.in-Some.ensures.steps in
    let to = targets_are a.mates.now a.all a.z a.row c.in-Some.a a.tight c.cell-mate.result c.targets_in.result c.requires.2 c.cell-mate.ensures c.targets_in.ensures in
    record {
      left = rw comes.rest (left_less _ _ L.invariant.left comes.some);
      done = widen-turn _ _ _ _ _ _ _ _ _ _ _ _ _ L.invariant.left comes c.requires.0
          (even-to-is _ _ _ _ _ _ _ _ _ _ to c.even_of.ensures c.meet-to.ensures) c.join.ensures L.invariant.done;
    }

pub returns : goal.returns
returns c = widen-all _ _ _ _ _ _ _ _ _ c.in-None.ensures.steps.0 c.loop-a.invariant.done
