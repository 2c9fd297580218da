-- `layouts::rows::zones_in` meets its contract. The loop's invariant: the zones so far, with those of the nodes that are left, are the zones of all.
-- Assumes nothing.
use native.Mathlib.Omega.{arith}
use Prim.Native.Nat.{ℕ}
use mathlib.Core.Path.{sym, ap, ◌∙◌, subst}
use lib.ListN.{get_or}
use Rattle.sets.specs.ModelBits.{with_of}
use Rattle.layouts.proofs.RowWalks.{CoveredSoFar, zones-none, zones-put, zones-all}
use Rattle.layouts.proofs.rows.zones_in.Goals as goal

pub loop-b-init : goal.loop-b-init
loop-b-init c =
    let a = c.args in
    let all = ap (λ m. m.left) c.into_iter-b-iterator.ensures.into_iter_gives ∙ c.iter-b-items.ensures in
    (omega arith, subst (λ (m : ℕ). CoveredSoFar a.zones a.nodes m 0) (sym all) (zones-none a.zones a.nodes))

pub bounds-zones-b : goal.bounds-zones-b
bounds-zones-b c = c.in-Some.ensures.steps.below

pub loop-b-preserved : goal.loop-b-preserved
loop-b-preserved c =
    let a = c.args in
    let l = c.loop-b in
    let came = c.in-Some.ensures.steps in
    let with = c.with-covered.ensures ∙ ap (λ (b : ℕ). with_of l.covered (get_or a.zones b 0)) came.least in
    (c.with-covered.type_inv, rw (came.rest, with) (zones-put a.zones a.nodes l.b-iterator.left l.covered came.word came.some l.invariant.1))

pub returns : goal.returns
returns c =
    let a = c.args in
    let l = c.loop-b in
    zones-all a.zones a.nodes l.b-iterator.left l.covered c.in-None.ensures.steps.0 l.invariant.0 l.invariant.1
