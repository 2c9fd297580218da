-- `line::light` meets its contract. The loop's invariant: the sum so far.
use borrow.Author.Rules.{rules}
use native.Mathlib.Omega.{arith}
use Prim.Native.Nat.{ℕ, ◌<◌}
use lib.ListN.{length-take, get_or, take}
use lib.Seq.{get_or-take}
use mathlib.Core.Path.{sym, ◌≡◌, refl, ap, ◌∙◌}
use Rattle.dealing.proofs.Line.{light_zone, heavy_zone}
use Rattle.dealing.specs.ModelDeal.{light}
use Rattle.sums.specs.TermsSums.{sum_to}
use Rattle.incidence.specs.ModelIncidence.{cell}
use Rattle.sums.proofs.Sum.{sum-next}
use Rattle.line.proofs.light.Goals as goal
use Rattle.line.proofs.light.Goals.{then-copies-partitions, else-copies-partitions}

pub loop-copies-init : goal.loop-copies-init
unfolding sum_to
loop-copies-init c = (search rules, refl)

pub overflow_add-sum : goal.overflow_add-sum
overflow_add-sum c =
    let a = c.args in
    let i = c.loop-copies.copies-index in
    let l : i < a.n = omega (arith, length-take a.n a.sums.now) in
    omega (arith, get_or-take a.n a.sums.now i 0 l, c.requires.1 i (omega arith))

pub loop-copies-preserved : goal.loop-copies-preserved
loop-copies-preserved c =
    let a = c.args in
    let f = cell a.sums.now in
    let i = c.loop-copies.copies-index in
    let s = c.loop-copies.sum in
    let l : i < a.n = omega (arith, length-take a.n a.sums.now) in
    let e : get_or (take a.n a.sums.now) i 0 ≡ f i = get_or-take a.n a.sums.now i 0 l in (
      elim c.if-copies-partitions.branch [
        | then-copies-partitions w ↦ omega (arith, c.requires.1 i (omega arith))
        | else-copies-partitions w ↦ omega arith
      ],
      elim c.if-copies-partitions.branch [
        | then-copies-partitions w ↦ w.sum-is ∙ sum-next (light a.partitions f) i s _ c.loop-copies.invariant.1 (e ∙ sym (light_zone a.partitions a.n f i (omega arith)).lights)
        | else-copies-partitions w ↦ w.sum-is ∙ omega (arith, sum-next (light a.partitions f) i s 0 c.loop-copies.invariant.1 (sym (heavy_zone a.partitions a.n f i (omega arith)).lights))
      ],
    )

pub returns : goal.returns
returns c =
    let a = c.args in
    let e : c.loop-copies.copies-index ≡ a.n = omega (arith, length-take a.n a.sums.now) in
    c.loop-copies.invariant.1 ∙ ap (λ (m : ℕ). sum_to m (light a.partitions (cell a.sums.now))) e
