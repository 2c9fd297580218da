-- `arcs::add_row` meets its contract. The loop's invariant: the nodes of the row that are no more left have been noted.
use mathlib.Core.Path.{sym, ◌∙◌}
use borrow.Author.Rules.{rules}
use Rattle.sets.proofs.Scan.{left_all, left_less}
use Rattle.swaps.proofs.Steps.{targets_are}
use Rattle.arcs.proofs.Turns.{row-none, row-turn, row-all, spare-moves}
use Rattle.arcs.proofs.add_row.Goals as goal

pub returns-then-tight-eq0 : goal.returns-then-tight-eq0
returns-then-tight-eq0 c =
    let a = c.args in
    spare-moves a.mates.now a.all a.z a.row a.former a.arcs.now c.add_spare.new.arcs (sym c.requires.1 ∙ c.if-tight-eq0.true) c.add_spare.ensures

pub loop-a-init : goal.loop-a-init
loop-a-init c =
    let a = c.args in
    rw (c.into_iter-a-iterator.ensures.into_iter_gives, c.iter-a-items.ensures)
    (record { left = left_all a.row (search rules); done = row-none a.mates.now a.all a.z a.row a.former a.arcs.now })

pub loop-a-preserved : goal.loop-a-preserved
loop-a-preserved c =
    let a = c.args in
    let L = c.loop-a in
    let comes = c.in-Some.ensures.steps in
    let to = targets_are a.mates.now a.all a.z a.row c.in-Some.a a.tight c.cell-mate.result c.targets_in.result c.requires.1 c.cell-mate.ensures c.targets_in.ensures in
    record {
      left = rw comes.rest (left_less _ _ L.invariant.left comes.some);
      done = row-turn _ _ _ _ _ _ _ _ _ _ _ _ L.invariant.left comes c.requires.0 to c.note.ensures L.invariant.done;
    }

pub returns : goal.returns
returns c = row-all _ _ _ _ _ _ _ _ c.in-None.ensures.steps.0 c.loop-a.invariant.done
