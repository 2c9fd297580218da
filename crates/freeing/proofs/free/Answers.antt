-- `freeing::free` meets its contract. What is freed of crossed pairs from here, with the splits that are left, is what is freed from the beginning. Assumes nothing.
use native.Mathlib.Nat.{sub-zero}
use native.Mathlib.Omega.{arith}
use Rattle.std.specs.Prelude.{unwrap_or}
use Rattle.freeing.proofs.Freeing.{pair_in, pair_some, free_stop, free-go, free_end}
use Rattle.sets.specs.ModelBits.{bits_at}
use Rattle.walks.specs.ModelWalks.{ok_of, walk_in}
use Rattle.exchange.proofs.Walk.{same_refl}
use Rattle.exchange.specs.ModelUncross.{uncross}
use mathlib.Core.Path.{sym, ap, ◌∙◌}
use Prim.Native.Nat.{◌+◌, ◌-◌, ◌<◌, max}
use Rattle.freeing.proofs.free.Goals as goal

pub loop-split-init : goal.loop-split-init
loop-split-init c = (omega arith, rw (sub-zero c.args.m) (same_refl _))

pub returns-in_default : goal.returns-in_default
returns-in_default c = let a = c.args in
    let g = bits_at a.given.now.former.now in
    let ok = ok_of a.rows.now a.given.now.mates.now a.all a.given.now.z in
    let w = walk_in c.loop-split.len c.loop-split.y c.loop-split.q in
    let v = uncross a.m a.given.now.partitions 1 g ok (walk_in a.m a.y.now a.q.now) in (
      omega arith,
      omega arith,
      omega arith,
      free_stop a.given.now.partitions g ok v (a.m - c.loop-split._split) w c.loop-split.invariant.1
          (omega (arith, c.in_default.ensures.0)),
    )

-- The arc after i that was found is its partner.
pub unwrap-j-requires : goal.unwrap-j-requires
unwrap-j-requires c = let a = c.args in
    let g = bits_at a.given.now.former.now in
    let ok = ok_of a.rows.now a.given.now.mates.now a.all a.given.now.z in
    let w = walk_in c.loop-split.len c.loop-split.y c.loop-split.q in
    let v = uncross a.m a.given.now.partitions 1 g ok (walk_in a.m a.y.now a.q.now) in
    pair_some a.given.now.partitions g ok v w c.in-Some.i c.later.result c.in-Some.ensures.0 c.later.ensures.0 c.in-Some.ensures.1

pub divide-len-requires : goal.divide-len-requires
divide-len-requires c = let a = c.args in
    let g = bits_at a.given.now.former.now in
    let ok = ok_of a.rows.now a.given.now.mates.now a.all a.given.now.z in
    let w = walk_in c.loop-split.len c.loop-split.y c.loop-split.q in
    let v = uncross a.m a.given.now.partitions 1 g ok (walk_in a.m a.y.now a.q.now) in
    let f = sym (ap (λ o. unwrap_or o (max (c.in-Some.i + 1) c.loop-split.len)) c.unwrap-j.ensures) ∙ c.later.ensures.0 in
    let p : (c.in-Some.i < c.unwrap-j.result) × (c.unwrap-j.result < c.loop-split.len) =
    pair_in a.given.now.partitions g ok v w c.in-Some.i c.unwrap-j.result c.in-Some.ensures.0 f c.in-Some.ensures.1 in
    omega (arith, c.requires.0, c.requires.1, c.requires.2)

pub loop-split-preserved : goal.loop-split-preserved
loop-split-preserved c = let a = c.args in
    let g = bits_at a.given.now.former.now in
    let ok = ok_of a.rows.now a.given.now.mates.now a.all a.given.now.z in
    let w = walk_in c.loop-split.len c.loop-split.y c.loop-split.q in
    let v = uncross a.m a.given.now.partitions 1 g ok (walk_in a.m a.y.now a.q.now) in
    let f = sym (ap (λ o. unwrap_or o (max (c.in-Some.i + 1) c.loop-split.len)) c.unwrap-j.ensures) ∙ c.later.ensures.0 in (
      omega arith,
      free-go a.given.now.partitions g ok v (a.m - c.loop-split._split) (a.m - (c.loop-split._split + 1)) w (walk_in c.divide-len.result c.divide-len.new.y c.divide-len.new.q) c.in-Some.i
          c.unwrap-j.result (omega arith) c.loop-split.invariant.1 c.in-Some.ensures.0 f c.in-Some.ensures.1 c.divide-len.ensures.3,
    )

pub returns : goal.returns
returns c = let a = c.args in
    let g = bits_at a.given.now.former.now in
    let ok = ok_of a.rows.now a.given.now.mates.now a.all a.given.now.z in
    let w = walk_in c.loop-split.len c.loop-split.y c.loop-split.q in
    let v = uncross a.m a.given.now.partitions 1 g ok (walk_in a.m a.y.now a.q.now) in (
      omega arith,
      omega arith,
      omega arith,
      free_end a.given.now.partitions g ok v (a.m - c.loop-split._split) w (omega arith) c.loop-split.invariant.1,
    )
