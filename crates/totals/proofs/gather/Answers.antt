use borrow.Author.Rules.{rules}
use native.Mathlib.Omega.{arith}
use Prim.Native.Nat.{ℕ, ◌*◌}
use mathlib.Core.Path.{◌≡◌, subst}
use lib.ListN.{take}
use Rattle.cluster.specs.Terms.{row_cells}
use Rattle.totals.specs.ModelTotals.{SameIds}
use Rattle.totals.proofs.Meeting.{met_none, met_before, met_now}
use Rattle.totals.proofs.gather.Goals as goal

-- src/lib.rt:104:5
pub loop-i-init : goal.loop-i-init
loop-i-init c = (search rules, search rules, search rules, met_none c.args.cells.now c.args.ids.now 1025)

-- src/lib.rt:104:5
pub loop-i-preserved-then-met-slot : goal.loop-i-preserved-then-met-slot
loop-i-preserved-then-met-slot c =
    let l = c.loop-i in
    let a = c.args in
    (search rules, search rules, search rules, met_before a.cells.now l.i (omega arith) l.invariant.3 c.slot_of-slot.result (omega arith) c.if-met-slot.true)

-- src/lib.rt:104:5
pub loop-i-preserved : goal.loop-i-preserved
loop-i-preserved c =
    let l = c.loop-i in
    let a = c.args in
    (search rules, search rules, search rules, met_now a.cells.now l.i (omega arith) l.invariant.3 c.slot_of-slot.result (omega arith) c.with_id-count.result c.with_id-count.new.ids c.with_id-count.ensures.2)

-- src/lib.rt:95:1
pub returns : goal.returns
returns c =
    let l = c.loop-i in
    let a = c.args in
    let e : l.i ≡ a.partitions * row_cells = omega arith in
    (search rules, search rules, subst (λ (k : ℕ). SameIds (take l.count l.ids) (take k a.cells.now)) e l.invariant.3.same)
