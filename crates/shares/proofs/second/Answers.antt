-- `shares::second` meets its contract. The loop's invariant: the first b numbers are written, and the room that is left.
use borrow.Author.Rules.{rules}
use native.Mathlib.Omega.{arith}
use Prim.Native.Nat.{ℕ, ◌+◌, ◌-◌}
use mathlib.Core.Path.{ap}
use Rattle.sums.specs.TermsSums.{sum_to}
use Rattle.dealing.specs.ModelDeal.{pour}
use Rattle.incidence.specs.ModelIncidence.{cell}
use Rattle.incidence.proofs.Columns.{column-none, column-next, column_end}
use Rattle.shares.proofs.Pouring.{pour_here, pour_left}
use Rattle.shares.proofs.second.Goals as goal

pub loop-b-init : goal.loop-b-init
unfolding sum_to
loop-b-init c = (search rules, column-none _)

pub overflow_add-copies : goal.overflow_add-copies
overflow_add-copies c =
    let p = c.requires in
    omega (arith, p.1 c.loop-b.b (omega arith), p.2 c.loop-b.b (omega arith), c.min-more.ensures, c.saturating_sub.ensures)

pub loop-b-preserved : goal.loop-b-preserved
loop-b-preserved c =
    let a = c.args in
    let z = c.saturating_sub in
    let x = c.min-more in
    let f : ℕ → ℕ = λ i. cell a.caps.now i - cell a.first.now i in
    let v = pour_here f a.room c.loop-b.b c.loop-b.left z.result x.result c.loop-b.invariant.0 z.ensures x.ensures in (
      pour_left f a.room c.loop-b.b c.loop-b.left z.result x.result c.loop-b.invariant.0 z.ensures x.ensures,
      column-next (λ i. cell a.first.now i + pour a.room f i) c.loop-b.copies c.loop-b.b _ c.loop-b.invariant.1
          (ap (λ (y : ℕ). cell a.first.now c.loop-b.b + y) v),
    )

pub returns : goal.returns
returns c =
    let a = c.args in
    column_end (λ i. cell a.first.now i + pour a.room (λ x. cell a.caps.now x - cell a.first.now x) i) c.loop-b.copies c.loop-b.b a.n c.loop-b.invariant.1 (omega arith)
