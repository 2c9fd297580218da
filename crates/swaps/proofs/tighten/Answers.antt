-- `swaps::tighten` meets its contract. The cells of the rows before p are written. Assumes nothing.
use mathlib.Core.Path.{ap, ◌∙◌}
use native.Mathlib.Omega.{arith}
use Rattle.swaps.specs.ModelSwaps.{tight_of}
use Rattle.swaps.proofs.Tightening.{tight-none, tight-more}
use Rattle.swaps.proofs.tighten.Goals as goal

pub loop-p-init : goal.loop-p-init
loop-p-init c = let a = c.args in tight-none a.mates.now a.z a.rows.now a.tight.now

pub loop-p-preserved : goal.loop-p-preserved
loop-p-preserved c =
    let a = c.args in
    tight-more a.mates.now a.z a.rows.now c.loop-p.p c.loop-p.tight c.tight.result c.loop-p.invariant (omega arith)
    (c.tight.ensures ∙ ap (tight_of a.mates.now a.z) c.cell.ensures)
