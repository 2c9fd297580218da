-- `loss::given::set_of` meets its contract.
use Prim.Native.Nat.{ℕ}
use mathlib.Core.Path.{◌≡◌, refl, sym, ap, ◌∙◌}
use native.Mathlib.Omega.{arith}
use lib.ListN.{length, take, get_or, length-take}
use Rattle.sums.specs.TermsSums.{one_if}
use Rattle.sets.specs.ModelBits.{mask_of}
use Rattle.sets.proofs.Masks.{mask_here, mask_not_here}
use Rattle.cluster.specs.Terms.{no_node, topology, mem}
use Rattle.incidence.specs.ModelIncidence.{bits_of}
use Rattle.masks.proofs.Where.{ids-many, id-cell, ids_used}
use Rattle.loss.proofs.given.set_of.Goals.{then-contains, else-contains}
use Rattle.loss.proofs.Among.{among}
use Rattle.loss.proofs.given.set_of.Goals as goal

pub loop-b-init : goal.loop-b-init
unfolding mask_of
loop-b-init c = λ ns e. refl

pub loop-b-preserved : goal.loop-b-preserved
unfolding one_if
loop-b-preserved c =
    let given = c.args.given.now in
    let ids = take c.used-n.result c.ids_of-all.result in
    let found = c.contains in
    λ ns e.
    let f = bits_of ns given in
    let inv = c.loop-b.invariant ns e in
    let told : found.result ≡ mem (get_or ns c.loop-b.b no_node).id given =
    found.ensures.value ∙ (among given (get_or ids c.loop-b.b 0) ∙ ap (λ (i : ℕ). mem i given) (id-cell ns ids c.loop-b.b e)) in
    elim c.if-contains.branch [
      | then-contains w ↦ w.set-is ∙ (w.with-set.ensures ∙ mask_here f c.loop-b.b c.loop-b.set inv (omega (arith, length-take c.used-n.result c.ids_of-all.result)) (omega (arith, ap one_if (sym told ∙ w.if-contains.true))))
      | else-contains w ↦ w.set-is ∙ mask_not_here f c.loop-b.b c.loop-b.set inv (ap one_if (sym told ∙ w.if-contains.false))
    ]

pub returns : goal.returns
returns c =
    let a = c.args in
    let ns = (topology a.c).nodes in
    let used = ids_used ns c.ids_of-all.result c.used-n.result c.used-n.ensures.1 c.used-n.ensures.0 c.ids_of-all.ensures in
    let e : c.loop-b.b ≡ length ns = omega (arith, ids-many ns _ used) in
    c.loop-b.invariant ns used ∙ ap (mask_of (bits_of ns a.given.now)) e
