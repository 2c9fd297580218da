-- `levels::sweep` meets its contract: the distances below c have been taken.
use Prim.Native.Nat.{ℕ, ◌-◌, ◌<◌}
use mathlib.Core.Path.{ap, ◌∙◌}
use native.Mathlib.Omega.{arith}
use borrow.Author.Rules.{rules}
use Rattle.cluster.specs.Terms.{most_nodes}
use Rattle.sets.specs.ModelBits.{union_of, difference_of}
use Rattle.levels.proofs.Sweeps.{Turned, frees, sweep-start, sweep-more, sweep_end, sweep-stand}
use Rattle.levels.proofs.sweep.Goals as goal

pub loop-c-init : goal.loop-c-init
loop-c-init c =
    let a = c.args in (
      c.below-all.ensures,
      sweep-start a.arcs.now a.n a.k a.mask (a.n - a.k - 1) c.stand-here.result a.dist.now a.next.now a.row.now a.atmost.now
          c.requires.4 (omega (arith, c.requires.4.level)) c.stand-here.ensures,
    )

pub overflow_cast-atmost : goal.overflow_cast-atmost
overflow_cast-atmost c =
    let small : c.loop-c.c < most_nodes = omega (arith, c.requires.4.small) in
    search rules

pub offset_bounds-atmost-c : goal.offset_bounds-atmost-c
offset_bounds-atmost-c c =
    let small : c.loop-c.c < most_nodes = omega (arith, c.requires.4.small) in
    search rules

pub bounds-atmost-c : goal.bounds-atmost-c
bounds-atmost-c c = omega (arith, c.requires.4.small, c.requires.3)

pub loop-c-preserved : goal.loop-c-preserved
loop-c-preserved c =
    let turned : let a = c.args in
    Turned a.arcs.now a.n a.mask c.loop-c.c c.loop-c.here c.loop-c.even c.loop-c.up c.loop-c.fell c.loop-c.next c.loop-c.row c.loop-c.atmost
    c.stand-above.result c.difference-down.result c.union-near.result c.difference-free.result
    c.fall-still.result c.fall-still.new.next c.fall-still.new.row = (record {
      inside = c.loop-c-test.true;
      at_above = c.stand-above.ensures;
      at_down = c.difference-down.ensures ∙ ap (λ (x : ℕ). difference_of x c.loop-c.here) c.meet.ensures;
      at-near = c.union-near.ensures ∙ ap (union_of c.difference-down.result) c.union.ensures;
      at-free = frees c.difference-free.result c.below-all.result c.union-in-loop-c.result c.args.n c.loop-c.here c.loop-c.fell
          c.difference-free.ensures c.loop-c.invariant.0 c.union-in-loop-c.ensures;
      taken = c.fall-still.ensures;
    }) in
    let i = c.loop-c.invariant in (
      i.0,
      sweep-more c.requires.4 i.1 turned (omega (arith, c.requires.4.small, c.requires.3))
          (c.union-fell.ensures ∙ ap (union_of c.loop-c.fell) c.difference.ensures) c.union-in-loop-c-2.ensures,
    )

pub returns : goal.returns
returns c =
    let r = c.requires.4 in
    let i = c.loop-c.invariant.1 in
    record { swept = (sweep_end r i c.loop-c-test.false, i.falling.nodes); stand = sweep-stand r i c.loop-c-test.false }
