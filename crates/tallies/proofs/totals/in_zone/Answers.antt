-- `tallies::totals::in_zone` meets its contract. The loop's invariant: the sum so far.
use borrow.Author.Rules.{rules}
use native.Mathlib.Omega.{arith}
use mathlib.Core.Path.{◌≡◌, refl, ap, ◌∙◌}
use Rattle.sums.specs.TermsSums.{sum_to}
use Rattle.dealing.specs.ModelDeal.{in_zone}
use Rattle.incidence.specs.ModelIncidence.{cell}
use Rattle.tallies.proofs.Adding.{zone_here, zone_not_here}
use Rattle.tallies.proofs.totals.in_zone.Goals as goal
use Rattle.tallies.proofs.totals.in_zone.Goals.{then-zones-b, else-zones-b}

pub loop-b-init : goal.loop-b-init
unfolding in_zone sum_to
loop-b-init c = (search rules, refl)

pub overflow_add-sum : goal.overflow_add-sum
overflow_add-sum c =
    omega (arith, c.requires.1 c.loop-b.b (omega arith))

pub loop-b-preserved : goal.loop-b-preserved
loop-b-preserved c =
    let a = c.args in
    let f = cell a.numbers.now in
    let zone = cell a.zones.now in (
      elim c.if-zones-b.branch [ then-zones-b w ↦ omega (arith, c.requires.1 c.loop-b.b (omega arith)) | else-zones-b w ↦ omega arith ],
      elim c.if-zones-b.branch [
        | then-zones-b w ↦ w.sum-is ∙ zone_here zone f c.loop-b.b a.z c.loop-b.sum (f c.loop-b.b) w.if-zones-b.true c.loop-b.invariant.1 refl
        | else-zones-b w ↦ w.sum-is ∙ zone_not_here zone f c.loop-b.b a.z c.loop-b.sum w.if-zones-b.false c.loop-b.invariant.1
      ],
    )

pub returns : goal.returns
returns c =
    let a = c.args in
    let e : c.loop-b.b ≡ a.n = omega arith in
    c.loop-b.invariant.1 ∙ ap (in_zone (cell a.zones.now) (cell a.numbers.now) a.z) e
