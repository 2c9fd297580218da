-- `layout_head::table::in_range` meets its contract. The loop's invariant: the numbers are in range where those from here on are.
use native.Mathlib.Omega.{arith}
use Prim.Native.Nat.{◌+◌}
use mathlib.Core.Path.{◌≡◌, refl, sym, ap, ◌∙◌}
use mathlib.Core.Bool.{Bool, ◌&&◌}
use lib.ListN.{length, drop}
use Rattle.layout_head.specs.RecordHead.{head_table, all_hold}
use Rattle.layout_head.proofs.NumberFields.{range-step, range_end}
use Rattle.layout_head.proofs.table.in_range.Goals as goal

pub loop-i-init : goal.loop-i-init
loop-i-init c = refl

pub returns-then-not-holds : goal.returns-then-not-holds
returns-then-not-holds c =
    -- The test of the number at hand, and of those after it.
    let step : let values = c.numbers_in-values.result in
    all_hold head_table values ≡ c.holds.result && all_hold (drop (c.loop-i.i + 1) head_table) (drop (c.loop-i.i + 1) values) = (let e = c.at in
    let n = c.numbers_in-values in
    c.loop-i.invariant
    ∙ (range-step c.loop-i.i (omega arith) e.result e.ensures n.result (ap length n.ensures)
    ∙ ap (λ (b : Bool). b && all_hold (drop (c.loop-i.i + 1) head_table) (drop (c.loop-i.i + 1) n.result)) (sym c.holds.ensures))) in
    let n = c.numbers_in-values in
    sym (ap (all_hold head_table) (sym n.ensures) ∙ (step
    ∙ ap (λ (b : Bool). b && all_hold (drop (c.loop-i.i + 1) head_table) (drop (c.loop-i.i + 1) n.result)) (c.if-not-holds.true)))

pub loop-i-preserved : goal.loop-i-preserved
loop-i-preserved c =
    let step : let values = c.numbers_in-values.result in
    all_hold head_table values ≡ c.holds.result && all_hold (drop (c.loop-i.i + 1) head_table) (drop (c.loop-i.i + 1) values) = (let e = c.at in
    let n = c.numbers_in-values in
    c.loop-i.invariant
    ∙ (range-step c.loop-i.i (omega arith) e.result e.ensures n.result (ap length n.ensures)
    ∙ ap (λ (b : Bool). b && all_hold (drop (c.loop-i.i + 1) head_table) (drop (c.loop-i.i + 1) n.result)) (sym c.holds.ensures))) in
    let n = c.numbers_in-values in
    step
    ∙ ap (λ (b : Bool). b && all_hold (drop (c.loop-i.i + 1) head_table) (drop (c.loop-i.i + 1) n.result)) (c.if-not-holds.false)

pub returns : goal.returns
returns c =
    let n = c.numbers_in-values in
    sym (ap (all_hold head_table) (sym n.ensures) ∙ (c.loop-i.invariant ∙ range_end c.loop-i.i (omega arith) n.result (ap length n.ensures)))
