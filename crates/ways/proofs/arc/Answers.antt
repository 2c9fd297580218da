-- `ways::arc` meets its contract. Assumes nothing.
use native.Mathlib.Omega.{arith}
use Prim.Native.Nat.{◌≤◌}
use mathlib.Core.Path.{◌≡◌}
use mathlib.Core.Bool.{false}
use Rattle.std.specs.Prelude.{unwrap_or}
use Rattle.ways.specs.ModelWays.{free_from}
use Rattle.ways.proofs.Arcs.{free-both, free-second, free-first, arc-none, arc-store, over_store, store-full, store_not, row_is, arc-found}
use Rattle.ways.proofs.arc.Goals.{else-w-eq1-via-then-w-eq1+else-room, else-w-eq1-via-else-w-eq1, then-b-u+then-b-v, else-b-u, else-b-u-via-then-b-u+else-b-v, else-b-u-via-else-b-u}
use Rattle.ways.proofs.arc.Goals as goal

pub returns-in_err-w : goal.returns-in_err-w
returns-in_err-w c = let a = c.args in
    rw c.from_residual.ensures (
      arc-none a.rows.now a.given.now.former.now a.given.now.partitions a.given.now.mates.now a.given.now.caps.now a.all a.given.now.z a.even.now a.p a.b a.u a.v
          3 c.in_err-w.ensures.0 (omega arith),
      tt,
    )

pub returns-then-room : goal.returns-then-room
returns-then-room c = let a = c.args in (
  arc-store a.rows.now a.given.now.former.now a.given.now.partitions a.given.now.mates.now a.given.now.caps.now a.all a.given.now.z a.even.now a.p a.b a.u a.v
      c.in_ok-w.w c.in_ok-w.ensures.0 c.room.result c.room.ensures c.if-w-eq1.true c.if-room.true,
  omega arith,
)

pub first-requires : goal.first-requires
first-requires c =
    -- They begin at a partition, or after the last.
    let start-low : c.if-b-u.start ≤ c.args.given.now.partitions =
    elim c.if-b-u.branch [ then-b-u+then-b-v w ↦ omega arith | else-b-u w ↦ omega arith ] in
    (omega (arith, c.in_ok-w.ensures.1), start-low, c.requires.2, c.requires.4, c.requires.5)

pub returns : goal.returns
returns c =
    let a = c.args in
    let w = c.in_ok-w.w in
    let e = c.in_ok-w.ensures.0 in
    -- The rows begin after p, or at p where both nodes come after b.
    let start_is : c.if-b-u.start ≡ free_from a.p a.b a.u a.v =
    elim c.if-b-u.branch [
      | then-b-u+then-b-v w ↦ free-both a.p a.b a.u a.v c.if-b-u.start w.if-b-u.true w.if-b-v.true w.start-is
      | else-b-u w ↦ elim w.else-b-u.branch [
        | else-b-u-via-then-b-u+else-b-v x ↦ free-second a.p a.b a.u a.v c.if-b-u.start x.if-b-u.true x.if-b-v.false w.start-is
        | else-b-u-via-else-b-u x ↦ free-first a.p a.b a.u a.v c.if-b-u.start x.if-b-u.false w.start-is
      ]
    ] in
    -- The arc is no step over the store.
    let no_store : over_store a.rows.now a.given.now.partitions a.given.now.caps.now a.even.now a.u a.v ≡ false =
    elim c.else-w-eq1.branch [
      | else-w-eq1-via-then-w-eq1+else-room b ↦ store-full a.rows.now a.given.now.former.now a.given.now.partitions a.given.now.mates.now a.given.now.caps.now a.all a.given.now.z a.even.now a.p a.b a.u a.v
          w e b.room.result b.room.ensures b.if-w-eq1.true b.if-room.false
      | else-w-eq1-via-else-w-eq1 b ↦ store_not a.rows.now a.given.now.former.now a.given.now.partitions a.given.now.mates.now a.given.now.caps.now a.all a.given.now.z a.even.now a.p a.b a.u a.v
          w e b.if-w-eq1.false
    ] in
    arc-found a.rows.now a.given.now.former.now a.given.now.partitions a.given.now.mates.now a.given.now.caps.now a.all a.given.now.z a.even.now a.p a.b a.u a.v
    w e (omega (arith, c.in_ok-w.ensures.1)) no_store c.first.result
    (row_is a.rows.now a.given.now.former.now a.given.now.partitions a.given.now.mates.now a.given.now.caps.now a.all a.given.now.z a.even.now a.p a.b a.u a.v
    w e c.if-b-u.start (unwrap_or c.first.result a.given.now.partitions) start_is c.first.ensures.0) c.first.ensures.1
