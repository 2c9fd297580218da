-- `crossings::gains` meets its contract. The loop has added the costs of the arcs that it passed to that of the closing arc. Assumes nothing.
use native.Mathlib.Omega.{arith}
use Rattle.crossings.proofs.Steps.{entry_cost, costs_after, cost-at, gains-begin, gains-none, gains-more, gains-all}
use Rattle.sets.specs.ModelBits.{bits_at}
use Rattle.walks.specs.ModelWalks.{walk_in}
use lib.Dec.{ltb}
use mathlib.Core.Path.{◌≡◌, ap, ◌∙◌}
use Prim.Native.Nat.{ℕ, ◌+◌, ◌-◌}
use Rattle.crossings.proofs.gains.Goals as goal

pub returns-then-j-i : goal.returns-then-j-i
returns-then-j-i c = let a = c.args in
    gains-none a.given.now.partitions (bits_at a.given.now.former.now) (walk_in (a.j + 1) a.y.now a.q.now) a.i a.j c.if-j-i.true

pub loop-t-init : goal.loop-t-init
loop-t-init c = let a = c.args in
    let g = bits_at a.given.now.former.now in (
      omega (arith, c.arc_cost-sum.ensures.1),
      gains-begin a.given.now.partitions g a.y.now a.q.now a.i (entry_cost a.given.now.partitions g a.y.now a.q.now (a.i + 1) a.j) c.arc_cost-sum.result
          (cost-at a.given.now.partitions g a.y.now a.q.now (a.i + 1) a.j c.cell.result c.cell-2.result c.cell-3.result
          c.arc_cost-sum.result c.arc_cost-sum.ensures.0 c.cell.ensures c.cell-2.ensures c.cell-3.ensures),
    )

pub loop-t-preserved : goal.loop-t-preserved
loop-t-preserved c = let a = c.args in
    let g = bits_at a.given.now.former.now in
    let v =
    cost-at a.given.now.partitions g a.y.now a.q.now (c.loop-t.t + 1) c.loop-t.t c.cell-in-loop-t.result c.cell-in-loop-t-2.result c.cell-in-loop-t-3.result
    c.arc_cost-sum-in-loop-t.result c.arc_cost-sum-in-loop-t.ensures.0 c.cell-in-loop-t.ensures c.cell-in-loop-t-2.ensures c.cell-in-loop-t-3.ensures in (
      omega (arith, c.arc_cost-sum-in-loop-t.ensures.1),
      gains-more a.given.now.partitions g a.y.now a.q.now a.i c.loop-t.t (entry_cost a.given.now.partitions g a.y.now a.q.now (a.i + 1) a.j)
          c.loop-t.sum c.arc_cost-sum-in-loop-t.result (omega arith) c.loop-t.invariant.1 v,
    )

pub returns : goal.returns
returns c = let a = c.args in
    let g = bits_at a.given.now.former.now in
    let e : c.loop-t.t ≡ a.j = omega arith in
    ap (λ (s : ℕ). ltb s (a.j - a.i))
    (c.loop-t.invariant.1
    ∙ (ap (λ (t : ℕ). entry_cost a.given.now.partitions g a.y.now a.q.now (a.i + 1) a.j + costs_after a.given.now.partitions g a.y.now a.q.now a.i (t - (a.i + 1))) e
    ∙ gains-all a.given.now.partitions g a.y.now a.q.now a.i a.j (omega arith)))
