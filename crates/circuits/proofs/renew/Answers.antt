-- `circuits::renew` meets its contract. The arcs that the loop passed stand, at their new partitions. Assumes nothing.
use native.Mathlib.Omega.{arith}
use Prim.Native.Nat.{ℕ}
use mathlib.Core.Bool.{true, false, false≢true}
use mathlib.Core.Path.{◌≡◌, sym, ap, ◌∙◌}
use Rattle.sums.specs.TermsSums.{every_to}
use Rattle.sums.proofs.Tests.{every-none, every_more}
use Rattle.cells.specs.ModelCells.{put}
use Rattle.cells.proofs.Cells.{put-none, put_next}
use Rattle.circuits.proofs.Steps.{renewed_in, stands_in, stands_at_lem, renewed-at, renew_fails, renew-stands, renew-made}
use Rattle.circuits.proofs.renew.Goals as goal

pub loop-t-init : goal.loop-t-init
loop-t-init c = (put-none 0 _ _, every-none _)

pub returns-in_default : goal.returns-in_default
returns-in_default c = let a = c.args in (
  omega arith,
  renew_fails a.rows.now a.given.now.former.now a.given.now.partitions a.given.now.mates.now a.all a.given.now.z a.given.now.caps.now a.y.now a.q.now a.m c.loop-t.t (omega arith)
      (stands_at_lem a.rows.now a.given.now.former.now a.given.now.partitions a.given.now.mates.now a.all a.given.now.z a.given.now.caps.now a.y.now a.q.now c.loop-t.q c.loop-t.t c.loop-t.invariant.0 false c.in_default.ensures.0),
  λ e. absurd (false≢true e),
)

pub overflow_cast-q : goal.overflow_cast-q
overflow_cast-q c = omega (arith, c.in-Some.ensures.2)

pub loop-t-preserved : goal.loop-t-preserved
loop-t-preserved c = let a = c.args in (
  put_next (renewed_in a.rows.now a.given.now.former.now a.given.now.partitions a.given.now.mates.now a.all a.given.now.z a.given.now.caps.now a.y.now a.q.now) c.loop-t.t c.in-Some.p a.q.now c.loop-t.q c.loop-t.invariant.0
      (renewed-at a.rows.now a.given.now.former.now a.given.now.partitions a.given.now.mates.now a.all a.given.now.z a.given.now.caps.now a.y.now a.q.now c.loop-t.q c.loop-t.t c.loop-t.invariant.0 c.in-Some.p c.in-Some.ensures.1),
  every_more c.loop-t.t (stands_in a.rows.now a.given.now.former.now a.given.now.partitions a.given.now.mates.now a.all a.given.now.z a.given.now.caps.now a.y.now a.q.now) c.loop-t.invariant.1
      (stands_at_lem a.rows.now a.given.now.former.now a.given.now.partitions a.given.now.mates.now a.all a.given.now.z a.given.now.caps.now a.y.now a.q.now c.loop-t.q c.loop-t.t c.loop-t.invariant.0 true c.in-Some.ensures.0),
)

pub returns : goal.returns
returns c = let a = c.args in
    let e : c.loop-t.t ≡ a.m = omega arith in (
      omega arith,
      renew-stands a.rows.now a.given.now.former.now a.given.now.partitions a.given.now.mates.now a.all a.given.now.z a.given.now.caps.now a.y.now a.q.now a.m
          (ap (λ (n : ℕ). every_to n (stands_in a.rows.now a.given.now.former.now a.given.now.partitions a.given.now.mates.now a.all a.given.now.z a.given.now.caps.now a.y.now a.q.now)) (sym e) ∙ c.loop-t.invariant.1),
      λ h.
          renew-made a.rows.now a.given.now.former.now a.given.now.partitions a.given.now.mates.now a.all a.given.now.z a.given.now.caps.now a.y.now a.q.now a.m c.loop-t.q
          (c.loop-t.invariant.0 ∙ ap (λ (n : ℕ). put 0 (renewed_in a.rows.now a.given.now.former.now a.given.now.partitions a.given.now.mates.now a.all a.given.now.z a.given.now.caps.now a.y.now a.q.now) n a.q.now) e)
          (omega arith),
    )
