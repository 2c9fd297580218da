-- `circuits::load` meets its contract. The loop has written the nodes and the witnesses of the arcs that it passed. Assumes nothing.
use borrow.Author.Rules.{rules}
use native.Mathlib.Omega.{arith}
use Rattle.circuits.specs.ModelCircuits.{witness_in}
use Rattle.cells.proofs.Cells.{put-none, put_next}
use Rattle.cells.specs.ModelCells.{put}
use lib.ListN.{get_or, set}
use Rattle.circuits.proofs.Steps.{loaded}
use mathlib.Core.Path.{◌≡◌, refl, ap, ◌∙◌}
use Prim.Native.Nat.{ℕ}
use Rattle.circuits.proofs.load.Goals as goal

pub loop-t-init : goal.loop-t-init
loop-t-init c = let a = c.args in
    let n : ℕ → ℕ = λ s. get_or a.walk.now s 0 in
    let w : ℕ → ℕ =
    witness_in a.walk.now a.rows.now a.given.now.former.now a.given.now.partitions a.given.now.mates.now a.arcs.now a.all a.given.now.z in
    (put-none 0 n a.y.now, put-none 0 w a.q.now)

pub loop-t-preserved : goal.loop-t-preserved
loop-t-preserved c = let a = c.args in
    let n : ℕ → ℕ = λ s. get_or a.walk.now s 0 in
    let w : ℕ → ℕ =
    witness_in a.walk.now a.rows.now a.given.now.former.now a.given.now.partitions a.given.now.mates.now a.arcs.now a.all a.given.now.z in (
      put_next n c.loop-t.t (n c.loop-t.t) a.y.now c.loop-t.y c.loop-t.invariant.0 refl,
      put_next w c.loop-t.t c.witness.result a.q.now c.loop-t.q c.loop-t.invariant.1 c.witness.ensures.0,
    )

pub returns : goal.returns
returns c = let a = c.args in
    let n : ℕ → ℕ = λ s. get_or a.walk.now s 0 in
    let w : ℕ → ℕ =
    witness_in a.walk.now a.rows.now a.given.now.former.now a.given.now.partitions a.given.now.mates.now a.arcs.now a.all a.given.now.z in
    let e : c.loop-t.t ≡ a.m = omega arith in (
      search rules,
      omega arith,
      loaded a.rows.now a.given.now.former.now a.given.now.partitions a.given.now.mates.now a.arcs.now a.all a.given.now.z a.walk.now a.m
          (set c.loop-t.y a.m (n a.m)) c.loop-t.q a.y.now a.q.now
          (put_next n a.m (n a.m) a.y.now c.loop-t.y (c.loop-t.invariant.0 ∙ ap (λ (t : ℕ). put 0 n t a.y.now) e) refl) (omega arith)
          (c.loop-t.invariant.1 ∙ ap (λ (t : ℕ). put 0 w t a.q.now) e) (omega arith),
    )
