-- `crossings::earlier` meets its contract. No arc that the loop passed can be crossed with a later one. Assumes nothing.
use native.Mathlib.Omega.{arith}
use Rattle.sums.proofs.First.{first_hit, first_miss, first_end}
use Rattle.walks.specs.ModelWalks.{ok_of, walk_in}
use Rattle.exchange.specs.ModelUncross.{partner, first_crossed}
use Rattle.sums.specs.ModelSums.{first_from}
use Rattle.crossings.proofs.Steps.{found_below}
use lib.Dec.{ltb}
use native.Mathlib.Nat.{sub-zero}
use mathlib.Core.Bool.{Bool}
use mathlib.Core.Path.{◌≡◌, sym, ap, ◌∙◌}
use Prim.Native.Nat.{ℕ, ◌+◌, max}
use Rattle.crossings.proofs.earlier.Goals as goal

pub loop-i-init : goal.loop-i-init
unfolding first_crossed
loop-i-init c = let a = c.args in
    let test : ℕ → Bool =
    λ n. ltb (partner a.given.now.partitions (ok_of a.rows.now a.given.now.mates.now a.all a.given.now.z) (walk_in a.m a.y.now a.q.now) n) a.m in
    ap (λ (n : ℕ). first_from test n 0) (sym (sub-zero a.m))

pub returns-then-is_some : goal.returns-then-is_some
returns-then-is_some c = let a = c.args in
    let test : ℕ → Bool =
    λ n. ltb (partner a.given.now.partitions (ok_of a.rows.now a.given.now.mates.now a.all a.given.now.z) (walk_in a.m a.y.now a.q.now) n) a.m in
    let f = found_below c.later.result (max (c.loop-i.i + 1) a.m) a.m (omega arith) c.later.ensures.1 in (
      sym
          (c.loop-i.invariant
          ∙ first_hit test a.m c.loop-i.i (omega arith) (ap (λ (n : ℕ). ltb n a.m) (sym c.later.ensures.0) ∙ sym f ∙ sym c.is_some.ensures ∙ c.if-is_some.true)),
      omega arith,
    )

pub loop-i-preserved : goal.loop-i-preserved
loop-i-preserved c = let a = c.args in
    let test : ℕ → Bool =
    λ n. ltb (partner a.given.now.partitions (ok_of a.rows.now a.given.now.mates.now a.all a.given.now.z) (walk_in a.m a.y.now a.q.now) n) a.m in
    let f = found_below c.later.result (max (c.loop-i.i + 1) a.m) a.m (omega arith) c.later.ensures.1 in
    c.loop-i.invariant
    ∙ first_miss test a.m c.loop-i.i (omega arith) (ap (λ (n : ℕ). ltb n a.m) (sym c.later.ensures.0) ∙ sym f ∙ sym c.is_some.ensures ∙ c.if-is_some.false)

pub returns : goal.returns
returns c = let a = c.args in
    let test : ℕ → Bool =
    λ n. ltb (partner a.given.now.partitions (ok_of a.rows.now a.given.now.mates.now a.all a.given.now.z) (walk_in a.m a.y.now a.q.now) n) a.m in
    let e : a.m ≡ c.loop-i.i = omega arith in
    (e ∙ sym (c.loop-i.invariant ∙ first_end test a.m c.loop-i.i (omega arith)), tt)
