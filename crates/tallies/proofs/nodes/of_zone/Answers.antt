-- `tallies::nodes::of_zone` meets its contract. The loop's invariant: the mask of the nodes passed.
use native.Mathlib.Omega.{arith}
use mathlib.Core.Path.{◌≡◌, refl, ap, ◌∙◌}
use Rattle.sums.specs.ModelSums.{is}
use Rattle.sums.proofs.Sum.{is_eq, is_ne}
use Rattle.sets.specs.ModelBits.{mask_of}
use Rattle.incidence.specs.ModelIncidence.{cell}
use Rattle.sets.proofs.Masks.{mask_here, mask_not_here}
use Rattle.tallies.proofs.nodes.of_zone.Goals as goal
use Rattle.tallies.proofs.nodes.of_zone.Goals.{then-zones-b, else-zones-b}

pub loop-b-init : goal.loop-b-init
unfolding mask_of
loop-b-init c = refl

pub loop-b-preserved : goal.loop-b-preserved
loop-b-preserved c =
    let a = c.args in
    elim c.if-zones-b.branch [
      | then-zones-b w ↦ w.mask-is ∙ (w.with-mask.ensures ∙ mask_here (λ i. is (cell a.zones.now i) a.z) c.loop-b.b c.loop-b.mask c.loop-b.invariant (omega arith) (omega (arith, is_eq w.if-zones-b.true)))
      | else-zones-b w ↦ w.mask-is ∙ mask_not_here (λ i. is (cell a.zones.now i) a.z) c.loop-b.b c.loop-b.mask c.loop-b.invariant (is_ne w.if-zones-b.false)
    ]

pub returns : goal.returns
returns c =
    let e : c.loop-b.b ≡ c.args.n = omega arith in
    c.loop-b.invariant ∙ ap (mask_of _) e
