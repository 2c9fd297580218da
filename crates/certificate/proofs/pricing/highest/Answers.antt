-- `certificate::pricing::highest` meets its contract. The highest of the levels passed. Assumes nothing.
use native.Mathlib.Omega.{arith}
use mathlib.Core.Path.{refl}
use lib.ListN.{get_or, length-take}
use lib.Seq.{get_or-take}
use Rattle.sums.specs.ModelSums.{max_to}
use Rattle.certificate.proofs.Making.{max_next, max_passed}
use Rattle.certificate.proofs.pricing.highest.Goals as goal

pub loop-level-init : goal.loop-level-init
unfolding max_to
loop-level-init c = refl

pub loop-level-preserved : goal.loop-level-preserved
loop-level-preserved c =
    let a = c.args in
    let i = c.loop-level.level-index in
    max_next (λ i. get_or a.levels.now i 0) i c.loop-level.most _ c.max-most.result c.loop-level.invariant
    (get_or-take a.n a.levels.now i 0 (omega (arith, length-take a.n a.levels.now))) (grind arith)

pub returns : goal.returns
returns c =
    max_passed (λ i. get_or c.args.levels.now i 0) c.loop-level.level-index c.args.n c.loop-level.most c.loop-level.invariant (omega (arith, length-take c.args.n c.args.levels.now))
