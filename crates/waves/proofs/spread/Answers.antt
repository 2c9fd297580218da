-- `waves::spread` meets its contract. Assumes nothing.
use Prim.Native.Nat.{ℕ}
use mathlib.Core.Path.{◌≡◌, sym, ap, ◌∙◌}
use native.Mathlib.Omega.{arith}
use borrow.Author.Rules.{rules}
use Rattle.sets.specs.ModelBits.{union_of, without_of}
use Rattle.waves.specs.ModelWaves.{spread_of}
use Rattle.waves.proofs.Waving.{spread-start, spread-turn, spread_end}
use Rattle.waves.proofs.spread.Goals as goal

pub loop-u-init : goal.loop-u-init
loop-u-init c =
    let a = c.args in
    let e : c.into_iter-u-iterator.result.left ≡ a.set = cc in
    (omega arith, search rules, rw e (spread-start a.leads.now a.set))

pub bounds-leads-u : goal.bounds-leads-u
bounds-leads-u c = omega (arith, c.in-Some.ensures.steps.below)

pub loop-u-preserved : goal.loop-u-preserved
loop-u-preserved c =
    let i = c.loop-u.invariant in
    let m = c.in-Some.ensures.steps in
    let rest-is : c.next.new.self.left ≡ without_of c.loop-u.u-iterator.left c.in-Some.u = m.rest ∙ ap (without_of c.loop-u.u-iterator.left) (sym m.least) in
    (i.0, c.union-to.type_inv, spread-turn c.args.leads.now c.loop-u.to _ _ _ _ m.word m.some m.least c.union-to.ensures rest-is ∙ i.2)

pub returns : goal.returns
returns c =
    let a = c.args in
    let i = c.loop-u.invariant in
    sym (spread_end a.leads.now c.loop-u.to i.1) ∙ (ap (λ (x : ℕ). union_of c.loop-u.to (spread_of a.leads.now x)) (sym c.in-None.ensures.steps.0) ∙ i.2)
