-- `steps::step` meets its contract. Assumes nothing.
use native.Mathlib.Omega.{arith}
use Rattle.sets.specs.ModelBits.{below_of}
use Rattle.graph.proofs.Keeping.{kept-changed}
use Rattle.walks.specs.ModelWalks.{walk_in}
use Rattle.steps.proofs.Steps.{step-made, step_kept}
use borrow.Author.Rules.{rules}
use Rattle.steps.proofs.step.Goals as goal

pub seek-next-requires : goal.seek-next-requires
seek-next-requires c = let p = c.requires in (p.0, p.1, p.2, p.3, p.5, p.6, p.7)

pub returns-then-not-allowed : goal.returns-then-not-allowed
returns-then-not-allowed c = let k = c.seek-next in
    let a = c.args in
    let w = walk_in k.result.len k.new.y k.new.q in
    let s = step_kept a.given.now.former.now a.given.now.partitions a.given.now.mates.now a.given.now.caps.now a.nodes a.given.now.z a.rows.now (walk_in a.last.len a.y.now a.q.now) w w k.ensures.3 a.allowed (c.if-not-allowed.true) in (
      k.ensures.0,
      search rules,
      search rules,
      s.0,
      s.1,
      k.ensures.4,
      c.requires.6,
    )

pub turn-turned-requires : goal.turn-turned-requires
turn-turned-requires c =
    let p = c.requires in
    (c.seek-next.ensures.0, omega (arith, c.seek-next.ensures.0, c.seek-next.ensures.1, p.1), omega (arith, c.seek-next.ensures.0, c.seek-next.ensures.2, p.2), p.4, p.3, p.6)

pub returns : goal.returns
returns c =
    let a = c.args in
    let s =
    step-made a.given.now.former.now a.given.now.partitions a.given.now.mates.now a.given.now.caps.now a.nodes a.given.now.z a.rows.now (walk_in a.last.len a.y.now a.q.now)
    (walk_in c.seek-next.result.len c.seek-next.new.y c.seek-next.new.q) (walk_in c.turn-turned.result.len c.turn-turned.new.y c.turn-turned.new.q) c.seek-next.ensures.3 a.allowed
    (c.if-not-allowed.false) c.below-all.result c.below-all.ensures _ c.turn-turned.ensures.3 c.turn-turned.ensures.4 in (
      omega (arith, c.turn-turned.ensures.0, c.seek-next.ensures.0),
      search rules,
      search rules,
      s.0,
      s.1,
      kept-changed a.given.now.former.now a.given.now.partitions a.given.now.mates.now (below_of a.nodes) a.given.now.z a.rows.now c.turn-turned.new.rows c.seek-next.new.kept c.seek-next.result.stale
          c.turn-turned.result.changed c.seek-next.ensures.4 c.turn-turned.ensures.5,
      c.turn-turned.ensures.6,
    )
