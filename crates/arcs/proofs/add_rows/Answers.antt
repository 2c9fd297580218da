-- `arcs::add_rows` meets its contract. The loop's invariant: the rows passed have been added. Assumes nothing.
use native.Mathlib.Omega.{arith}
use mathlib.Core.Path.{sym, ap, ◌∙◌}
use lib.ListN.{drop}
use lib.Seq.{get_or-drop}
use Rattle.swaps.specs.ModelSwaps.{tight_of}
use Rattle.arcs.proofs.Turns.{rows_none, rows-turn}
use Rattle.arcs.proofs.add_rows.Goals as goal

pub loop-i-init : goal.loop-i-init
loop-i-init c =
    let a = c.args in
    rows_none (drop a.first a.rows.now) (drop a.first a.given.now.former.now) a.given.now.mates.now a.all a.given.now.z a.arcs.now

pub overflow_add-p : goal.overflow_add-p
overflow_add-p c = omega (arith, c.requires.2 c.loop-i.i (omega arith))

pub bounds-tight-p : goal.bounds-tight-p
bounds-tight-p c = omega (arith, c.requires.3.long, c.requires.2 c.loop-i.i (omega arith))

pub add_row-requires : goal.add_row-requires
add_row-requires c =
    let a = c.args in
    let i = c.loop-i.i in
    (omega arith, c.requires.3.here _ (c.requires.2 i (omega arith)) ∙ ap (tight_of a.given.now.mates.now a.given.now.z) (sym c.cell-row.ensures))

pub loop-i-preserved : goal.loop-i-preserved
loop-i-preserved c =
    let a = c.args in
    rows-turn _ _ _ _ _ _ _ _ _ _ _ (c.cell-row.ensures ∙ sym (get_or-drop a.first a.rows.now c.loop-i.i 0)) (c.cell-old.ensures ∙ sym (get_or-drop a.first a.given.now.former.now c.loop-i.i 0))
    c.loop-i.invariant c.add_row.ensures
