-- `ways::trace` meets its contract. The loop has traced the way back from the goal, up to arc i. Assumes nothing.
use borrow.Author.Rules.{rules}
use native.Mathlib.Omega.{arith}
use Prim.Native.Nat.{ℕ}
use mathlib.Core.Path.{◌≡◌, sym, ap, ◌∙◌, subst}
use lib.ListN.{length-set}
use Rattle.std.specs.Prelude.{unwrap_or}
use Rattle.sets.specs.ModelBits.{mask_bits, least_of}
use Rattle.ways.specs.ModelWays.{arc_for}
use Rattle.ways.proofs.Tracing.{Tracing, some_below, tracing_starts, tracing_source, tracing_stops, tracing_on, tracing_ends}
use Rattle.ways.proofs.trace.Goals as goal

pub loop-i-init : goal.loop-i-init
loop-i-init c = let a = c.args in
    let g = c.requires in
    tracing_starts g.0 g.1 g.9 a.y.now (c.least.ensures ∙ ap least_of c.meet.ensures) (omega (arith, g.7))

pub unwrap-u-requires : goal.unwrap-u-requires
unwrap-u-requires c =
    let g = c.requires in
    some_below c.source.result mask_bits (tracing_source g.0 g.1 g.9 c.loop-i.invariant (omega arith) c.source.ensures.0).0

pub arc-requires : goal.arc-requires
arc-requires c =
    let g = c.requires in
    let e = sym (ap (λ o. unwrap_or o mask_bits) c.unwrap-u.ensures) ∙ c.source.ensures.0 in
    ((tracing_source g.0 g.1 g.9 c.loop-i.invariant (omega arith) e).0, g.2, g.3, g.6, g.10, g.11)

pub returns-in_default : goal.returns-in_default
returns-in_default c =
    let g = c.requires in
    let e = sym (ap (λ o. unwrap_or o mask_bits) c.unwrap-u.ensures) ∙ c.source.ensures.0 in (
      search rules,
      search rules,
      tracing_stops g.0 g.1 g.9 c.loop-i.invariant (omega arith) e (omega (arith, length-set {A = ℕ})) c.in_default.ensures.0,
    )

pub loop-i-preserved : goal.loop-i-preserved
loop-i-preserved c =
    let g = c.requires in
    let e = sym (ap (λ o. unwrap_or o mask_bits) c.unwrap-u.ensures) ∙ c.source.ensures.0 in
    tracing_on g.0 g.1 g.9 c.loop-i.invariant (omega arith) e (omega (arith, length-set {A = ℕ})) (omega arith) c.in-Some.ensures.0 c.in-Some.ensures.1

pub returns : goal.returns
returns c =
    let a = c.args in
    let g = c.requires in
    let e : c.loop-i.i ≡ a.k = omega arith in (
      search rules,
      search rules,
      tracing_ends g.0 g.1 g.9 (omega (arith, length-set {A = ℕ})) (omega arith)
          (subst (λ (n : ℕ). Tracing a.leads.now a.b a.goal a.k n
          (arc_for a.rows.now a.given.now.former.now a.given.now.partitions a.given.now.mates.now a.given.now.caps.now a.all a.given.now.z a.even.now a.p a.b)
          a.given.now.partitions c.loop-i.y c.loop-i.q) e c.loop-i.invariant),
    )
