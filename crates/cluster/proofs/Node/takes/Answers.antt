-- `cluster::Node::takes` meets its contract.
-- Assumes nothing.
use borrow.Author.Rules.{rules}
use borrow.Author.Tests.{le-leb, lt-leb}
use native.Mathlib.Omega.{arith}
use Prim.Native.Nat.{◌-◌, ◌*◌, ◌^◌, ◌≤◌}
use mathlib.Core.Path.{sym, ap, ◌∙◌}
use mathlib.Core.Bool.{Bool, ◌&&◌}
use lib.Dec.{leb}
use native.Mathlib.Nat.{mul-le-mul}
use Rattle.cluster.specs.Terms.{usable, takes}
use Rattle.cluster.proofs.Node.takes.Goals as goal

pub returns-then-self-copies : goal.returns-then-self-copies
unfolding takes
returns-then-self-copies c = let a = c.args in simp (lt-leb a.copies a.self.ceiling (search rules))

pub overflow_mul-result : goal.overflow_mul-result
overflow_mul-result c =
    let a = c.args in
    let few : a.copies ≤ 2 ^ 32 - 1 = omega arith in
    let small : a.size ≤ 2 ^ 32 - 1 = omega arith in
    omega (arith, mul-le-mul few small)

pub returns : goal.returns
unfolding takes
returns c =
    let a = c.args in
    ap (leb (a.copies * a.size)) c.usable-usable.ensures.0
    ∙ sym (ap (λ (b : Bool). b && leb (a.copies * a.size) (usable a.self)) (le-leb a.copies a.self.ceiling (search rules)))
