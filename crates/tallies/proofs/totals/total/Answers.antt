-- `tallies::totals::total` meets its contract. The loop's invariant: the sum so far.
use borrow.Author.Rules.{rules}
use native.Mathlib.Omega.{arith}
use lib.ListN.{length-take}
use lib.Seq.{get_or-take}
use Prim.Native.Nat.{ℕ, min}
use mathlib.Core.Path.{◌≡◌, refl, ap, ◌∙◌}
use Rattle.sums.specs.TermsSums.{sum_to}
use Rattle.incidence.specs.ModelIncidence.{cell}
use Rattle.sums.proofs.Sum.{sum-next}
use Rattle.tallies.proofs.totals.total.Goals as goal

pub loop-number-init : goal.loop-number-init
unfolding sum_to
loop-number-init c = (search rules, refl)

pub loop-number-preserved : goal.loop-number-preserved
loop-number-preserved c =
    let a = c.args in
    let k = c.loop-number in
    let here = get_or-take a.n a.numbers.now k.number-index 0 (omega (arith, length-take a.n a.numbers.now)) in
    (search rules, sum-next (λ i. min a.most (cell a.numbers.now i)) k.number-index k.sum _ k.invariant.1 (c.min-sum.ensures ∙ ap (λ (x : ℕ). min a.most x) here))

pub returns : goal.returns
returns c =
    let a = c.args in
    let k = c.loop-number in
    let e : k.number-index ≡ a.n = omega (arith, length-take a.n a.numbers.now) in
    k.invariant.1 ∙ ap (λ (m : ℕ). sum_to m (λ i. min a.most (cell a.numbers.now i))) e
