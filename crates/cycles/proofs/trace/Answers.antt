-- `cycles::trace` meets its contract. Assumes nothing.
use mathlib.Core.Path.{◌∙◌}
use native.Mathlib.Omega.{arith}
use Rattle.cells.proofs.Cells.{put-none, put_next}
use Rattle.cycles.specs.ModelTrails.{trail}
use Rattle.cycles.proofs.Parts.{trail-start, trail-next, length-start, length_miss, length_end, trace-found}
use Rattle.cycles.proofs.trace.Goals as goal

pub loop-t-init : goal.loop-t-init
loop-t-init c =
    let a = c.args in
    (trail-start a.table.now a.k a.v, put-none _ _ _, length-start a.table.now a.k a.v)

pub overflow_add-x : goal.overflow_add-x
overflow_add-x c = omega (arith, c.requires.4 c.loop-t.t c.loop-t-test.true)

pub overflow_cast-x : goal.overflow_cast-x
overflow_cast-x c = omega (arith, c.requires.4 c.loop-t.t c.loop-t-test.true)

pub bounds-table-k : goal.bounds-table-k
bounds-table-k c = omega (arith, c.requires.4 c.loop-t.t c.loop-t-test.true)

pub returns-then-x-v : goal.returns-then-x-v
returns-then-x-v c =
    let a = c.args in
    let i = c.loop-t.invariant in
    trace-found a.table.now a.k a.v c.loop-t.t c.loop-t.x _ a.walk.now c.loop-t.walk c.loop-t-test.true i.0
    (trail-next a.table.now a.k a.v c.loop-t.t c.loop-t.x i.0) c.if-x-v.true i.1 i.2

pub loop-t-preserved : goal.loop-t-preserved
loop-t-preserved c =
    let a = c.args in
    let i = c.loop-t.invariant in
    let n = trail-next a.table.now a.k a.v c.loop-t.t c.loop-t.x i.0 in (
      n,
      put_next (trail a.table.now a.k a.v) c.loop-t.t c.loop-t.x a.walk.now c.loop-t.walk i.1 i.0,
      i.2 ∙ length_miss a.table.now a.k a.v c.loop-t.t c.loop-t-test.true (λ e. c.if-x-v.false (n ∙ e)),
    )

pub returns : goal.returns
returns c =
    let a = c.args in
    absurd (omega (arith, length_end a.table.now a.k a.v c.loop-t.t c.loop-t-test.false, c.loop-t.invariant.2))
