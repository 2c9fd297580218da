-- `leads::stands` meets its contract. The cells have the first v nodes by their levels. Assumes nothing.
use Prim.Native.Nat.{◌+◌, ◌≤◌}
use mathlib.Core.Path.{refl}
use native.Mathlib.Omega.{arith}
use borrow.Author.Rules.{rules}
use lib.ListN.{get_or, length-set}
use Rattle.cluster.specs.Terms.{most_nodes}
use Rattle.leads.proofs.Standing.{stood_none, stood_more}
use Rattle.leads.proofs.stands.Goals as goal

pub loop-v-init : goal.loop-v-init
loop-v-init c = (search rules, stood_none c.args.levels.now)

pub bounds-at-c : goal.bounds-at-c
bounds-at-c c = omega (arith, c.requires.2 c.loop-v.v c.loop-v-test.true)

pub loop-v-preserved : goal.loop-v-preserved
loop-v-preserved c =
    let l = c.args.levels.now in
    let i = c.loop-v.invariant in
    let low : get_or l c.loop-v.v 0 ≤ most_nodes = c.requires.2 c.loop-v.v c.loop-v-test.true in
    (simp length-set i.0, stood_more l c.loop-v.v (get_or l c.loop-v.v 0 + 1) c.with.result c.loop-v.at refl (omega (arith, low)) i.0 c.with.ensures i.1)
