-- `holders::room` meets its contract: a node with room joins the set of those before it. Assumes nothing.
use mathlib.Core.Path.{refl, ap, ◌∙◌}
use native.Mathlib.Omega.{arith}
use lib.ListN.{get_or}
use borrow.Author.Tests.{lt-ltb, le-ltb}
use Rattle.sums.specs.TermsSums.{one_if}
use Rattle.exchange.specs.ModelRow.{copies}
use Rattle.sets.specs.ModelBits.{bits_at, mask_of}
use Rattle.sets.proofs.Masks.{mask_here, mask_not_here}
use Rattle.holders.proofs.room.Invariants.{free_at}
use Rattle.holders.proofs.room.Goals as goal
use Rattle.holders.proofs.room.Goals.{then-count-cell, else-count-cell}

pub loop-u-init : goal.loop-u-init
unfolding mask_of
loop-u-init c = refl

pub loop-u-preserved : goal.loop-u-preserved
unfolding one_if
loop-u-preserved c =
    let a = c.args in
    let L = c.loop-u in
    let f = free_at a.rows.now a.partitions a.caps.now in
    let n = copies a.partitions (bits_at a.rows.now) L.u in
    let m = get_or a.caps.now L.u 0 in
    elim c.if-count-cell.branch [
      | then-count-cell w ↦
          w.free-is ∙ (w.with-free.ensures
          ∙ mask_here f L.u L.free L.invariant (omega arith) (omega (arith, ap one_if (lt-ltb n m (omega (arith, c.count.ensures, c.cell.ensures, w.if-count-cell.true))))))
      | else-count-cell w ↦ w.free-is ∙ mask_not_here f L.u L.free L.invariant (ap one_if (le-ltb n m (omega (arith, c.count.ensures, c.cell.ensures, w.if-count-cell.false))))
    ]
