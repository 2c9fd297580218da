-- `graph::build` meets its contract. The loop's invariant: the leaves of the branches passed, and these branches, are right. Assumes nothing.
use borrow.Author.Rules.{rules}
use borrow.Author.Tests.{lt-ltb}
use native.Mathlib.Omega.{arith}
use Prim.Native.Nat.{◌*◌, ◌/◌, ◌%◌, ◌^◌}
use mathlib.Core.Path.{refl, sym}
use lib.ListN.{length}
use Rattle.levels.specs.ModelGraph.{arc_cells}
use Rattle.graph.specs.ModelArcs.{arcs_of}
use Rattle.unions.specs.ModelUnions.{parts}
use Rattle.graph.proofs.Keeping.{kept-first, kept-last, kept_branch, kept-renewed, arcs-all}
use Rattle.graph.proofs.build.Goals as goal

pub loop-i-init : goal.loop-i-init
loop-i-init c =
    let a = c.args in
    kept-first a.given.now.former.now a.given.now.partitions a.given.now.mates.now a.all a.given.now.z a.rows.now a.kept.now a.stale c.requires.3

pub renew-requires : goal.renew-requires
renew-requires c =
    let a = c.args in
    let L = c.loop-i in
    let o =
    kept_branch a.given.now.former.now a.given.now.partitions a.given.now.mates.now a.all a.given.now.z a.rows.now L.kept a.stale L.i (a.stale / 2 ^ (parts * L.i) % 2 ^ parts) (omega arith) refl L.invariant in
    (c.requires.0, omega arith, omega arith, L.invariant.long, c.requires.1, o.0, o.1)

pub loop-i-preserved : goal.loop-i-preserved
loop-i-preserved c = kept-renewed _ _ _ _ _ _ _ _ c.args.stale c.loop-i.i (omega arith) c.renew.ensures c.loop-i.invariant

pub returns-then-arcs-lt-ARCS : goal.returns-then-arcs-lt-ARCS
unfolding arcs_of
returns-then-arcs-lt-ARCS c =
    let a = c.args in
    (sym (rw (lt-ltb (length a.arcs.now) arc_cells c.if-arcs-lt-ARCS.true)), kept-last _ _ _ _ _ _ _ a.stale c.loop-i.i (omega arith) c.loop-i.invariant)

pub gather-requires : goal.gather-requires
gather-requires c = (search rules, c.loop-i.invariant.long)

pub add_room-requires : goal.add_room-requires
add_room-requires c = omega (arith, c.gather.ensures.long)

pub returns : goal.returns
returns c =
    let a = c.args in
    let K = kept-last a.given.now.former.now a.given.now.partitions a.given.now.mates.now a.all a.given.now.z a.rows.now c.loop-i.kept a.stale c.loop-i.i (omega arith) c.loop-i.invariant in (
      arcs-all a.given.now.former.now a.given.now.partitions a.given.now.mates.now a.all a.given.now.z a.rows.now c.loop-i.kept a.given.now.caps.now a.arcs.now c.gather.new.arcs c.add_room.new.arcs
          a.room c.requires.0 K (omega arith) c.requires.2 c.gather.ensures c.add_room.ensures (λ j. omega (arith, c.type_inv.arcs j)),
      K,
    )
