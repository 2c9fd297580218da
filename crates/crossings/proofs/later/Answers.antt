-- `crossings::later` meets its contract. No arc that the loop passed can be crossed with i. Assumes nothing.
use native.Mathlib.Omega.{arith}
use Rattle.sums.proofs.First.{first_hit, first_miss, first_end}
use Rattle.walks.specs.ModelWalks.{ok_of}
use Rattle.exchange.specs.ModelUncross.{crosses, partner}
use Rattle.sums.specs.ModelSums.{first_from}
use lib.ListN.{get_or}
use native.Mathlib.Numerals.{add-one}
use mathlib.Core.Bool.{Bool}
use mathlib.Core.Path.{◌≡◌, sym, ap, ◌∙◌}
use Prim.Native.Nat.{ℕ, ◌+◌, ◌-◌, max}
use Rattle.crossings.proofs.later.Goals as goal

pub loop-j-init : goal.loop-j-init
unfolding partner
loop-j-init c = let a = c.args in
    let test : ℕ → Bool =
    crosses a.given.now.partitions (ok_of a.rows.now a.given.now.mates.now a.all a.given.now.z) (λ t. get_or a.y.now t 0) (λ t. get_or a.q.now t 0) a.i in
    (omega arith, ap (λ (k : ℕ). first_from test (a.m - k) k) (sym (add-one a.i)))

pub returns-then-crossed : goal.returns-then-crossed
returns-then-crossed c = let a = c.args in
    let test : ℕ → Bool =
    crosses a.given.now.partitions (ok_of a.rows.now a.given.now.mates.now a.all a.given.now.z) (λ t. get_or a.y.now t 0) (λ t. get_or a.q.now t 0) a.i in
    (sym (c.loop-j.invariant.1 ∙ first_hit test a.m c.loop-j.j (omega arith) (sym c.crossed.ensures ∙ c.if-crossed.true)), omega arith)

pub loop-j-preserved : goal.loop-j-preserved
loop-j-preserved c = let a = c.args in
    let test : ℕ → Bool =
    crosses a.given.now.partitions (ok_of a.rows.now a.given.now.mates.now a.all a.given.now.z) (λ t. get_or a.y.now t 0) (λ t. get_or a.q.now t 0) a.i in
    (omega arith, c.loop-j.invariant.1 ∙ first_miss test a.m c.loop-j.j (omega arith) (sym c.crossed.ensures ∙ c.if-crossed.false))

pub returns : goal.returns
returns c = let a = c.args in
    let test : ℕ → Bool =
    crosses a.given.now.partitions (ok_of a.rows.now a.given.now.mates.now a.all a.given.now.z) (λ t. get_or a.y.now t 0) (λ t. get_or a.q.now t 0) a.i in
    let e : max (a.i + 1) a.m ≡ c.loop-j.j = omega arith in
    (e ∙ sym (c.loop-j.invariant.1 ∙ first_end test a.m c.loop-j.j (omega arith)), tt)
