-- `levels::settle` meets its contract. The cells of the members that are not left hold what they shall.
use mathlib.Core.Path.{◌≡◌, refl}
use native.Mathlib.Omega.{arith}
use borrow.Author.Rules.{rules}
use Rattle.sets.proofs.Scan.{left_all}
use Rattle.levels.proofs.Visits.{visit_rest, settled-start, settled-more, settled_end}
use Rattle.levels.proofs.settle.Goals as goal

pub loop-v-init : goal.loop-v-init
loop-v-init c =
    let a = c.args in
    let e : c.into_iter-v-iterator.result.left ≡ a.s = cc in
    rw e (left_all a.s (search rules), settled-start a.s (λ _. a.c) a.next.now, settled-start a.s (λ _. a.u) a.row.now)

pub bounds-next-i : goal.bounds-next-i
bounds-next-i c = omega (arith, c.in-Some.ensures.steps.below)

pub bounds-row-i : goal.bounds-row-i
bounds-row-i c = omega (arith, c.in-Some.ensures.steps.below)

pub loop-v-preserved : goal.loop-v-preserved
loop-v-preserved c =
    let i = c.loop-v.invariant in
    let m = c.in-Some.ensures.steps in
    (visit_rest i.0 m, settled-more i.0 m _ _ _ _ (omega arith) refl i.1, settled-more i.0 m _ _ _ _ (omega arith) refl i.2)

pub returns : goal.returns
returns c =
    let z = c.in-None.ensures.steps.0 in
    (settled_end _ _ _ _ _ z c.loop-v.invariant.1, settled_end _ _ _ _ _ z c.loop-v.invariant.2)
