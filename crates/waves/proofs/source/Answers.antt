-- `waves::source` meets its contract: what is left of the set has the source that the whole of it has.
use Prim.Native.Nat.{ℕ}
use mathlib.Core.Path.{◌≡◌, sym, ap, ◌∙◌}
use native.Mathlib.Omega.{arith}
use Rattle.waves.specs.ModelWaves.{source_of}
use Rattle.waves.proofs.Sources.{source_here, source-on, source-none}
use Rattle.waves.proofs.source.Goals as goal

pub loop-u-init : goal.loop-u-init
loop-u-init c =
    let a = c.args in
    let e : c.into_iter-u-iterator.result.left ≡ a.set = cc in
    (omega arith, ap (λ (s : ℕ). source_of a.leads.now s a.v) e)

pub bounds-leads-u : goal.bounds-leads-u
bounds-leads-u c = omega (arith, c.in-Some.ensures.steps.below)

pub returns-then-member : goal.returns-then-member
returns-then-member c =
    let a = c.args in
    (source_here a.leads.now a.v _ _ _ c.in-Some.ensures.steps (sym c.member.ensures ∙ c.if-member.true) ∙ c.loop-u.invariant.1, c.in-Some.ensures.steps.below)

pub loop-u-preserved : goal.loop-u-preserved
loop-u-preserved c =
    let a = c.args in
    (c.loop-u.invariant.0, source-on a.leads.now a.v _ _ _ c.in-Some.ensures.steps (sym c.member.ensures ∙ c.if-member.false) ∙ c.loop-u.invariant.1)

pub returns : goal.returns
returns c =
    let a = c.args in
    (source-none a.leads.now a.v c.loop-u.u-iterator.left c.in-None.ensures.steps.0 ∙ c.loop-u.invariant.1, tt)
