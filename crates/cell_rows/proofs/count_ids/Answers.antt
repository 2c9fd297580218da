-- `cell_rows::count_ids` meets its contract. The loop's invariant: the row's answer is that of the scan of the cells that are left.
use borrow.Author.Rules.{rules}
use native.Mathlib.Omega.{arith}
use Prim.Native.Nat.{ℕ, ◌≤◌, ◌+◌, ◌-◌}
use mathlib.Core.Path.{◌≡◌, sym, ap₂, ◌∙◌}
use mathlib.Core.List.{List}
use lib.ListN.{take, drop}
use Rattle.cells.proofs.Cells.{rest-none}
use Rattle.cell_rows.proofs.RowScans.{onward, onward_start, onward_end, onward_zero, onward_falls, onward_rises}
use Rattle.cell_rows.proofs.count_ids.Goals as goal
use Rattle.cell_rows.proofs.count_ids.Goals.{then-id-eq0, else-id-eq0+else-id-last}

pub loop-i-init : goal.loop-i-init
loop-i-init c = (search rules, onward_start _)

pub returns-then-id-last : goal.returns-then-id-last
returns-then-id-last c =
    let a = c.args in
    let e = c.from-id.ensures in (
      sym
          (c.loop-i.invariant.1
          ∙ onward_falls a.cells.now a.to c.loop-i.i (omega arith) (omega arith) c.loop-i.last c.loop-i.count
          (λ z. c.if-id-eq0.false (e ∙ z)) (omega arith)),
      search rules,
    )

pub loop-i-preserved : goal.loop-i-preserved
loop-i-preserved c =
    let a = c.args in
    let e = c.from-id.ensures in
    let rest : List ℕ = take (a.to - (c.loop-i.i + 1)) (drop (c.loop-i.i + 1) a.cells.now) in
    let turn : (c.if-id-eq0.count ≤ c.loop-i.count + 1)
    × (onward c.loop-i.last c.loop-i.count (take (a.to - c.loop-i.i) (drop c.loop-i.i a.cells.now)) ≡ onward c.if-id-eq0.last c.if-id-eq0.count rest) =
    elim c.if-id-eq0.branch [
      | then-id-eq0 v ↦ (
        omega (arith, v.count-is),
        onward_zero a.cells.now a.to c.loop-i.i (omega arith) (omega arith) c.loop-i.last c.loop-i.count (sym e ∙ v.if-id-eq0.true)
            ∙ sym (ap₂ (λ (x y : ℕ). onward x y rest) v.last-is v.count-is),
      )
      | else-id-eq0+else-id-last v ↦ (
        omega (arith, v.count-is),
        onward_rises a.cells.now a.to c.loop-i.i (omega arith) (omega arith) c.loop-i.last c.loop-i.count (λ z. v.if-id-eq0.false (e ∙ z))
            (omega (arith, v.if-id-last.false)) (omega arith)
            ∙ sym (ap₂ (λ (x y : ℕ). onward x y rest) (v.last-is ∙ e) v.count-is),
      )
    ] in
    (omega (arith, turn.0), c.loop-i.invariant.1 ∙ turn.1)

pub returns : goal.returns
returns c =
    let a = c.args in
    (sym (c.loop-i.invariant.1 ∙ onward_end c.loop-i.last c.loop-i.count _ (rest-none a.cells.now a.to c.loop-i.i (omega arith))), omega arith)
