use borrow.Author.Rules.{rules}
use native.Mathlib.Omega.{arith}
use Prim.Native.Nat.{ℕ, ◌+◌, ◌-◌, ◌*◌}
use mathlib.Core.Path.{◌≡◌, sym, ap, ◌∙◌}
use lib.ListN.{length, take, drop}
use lib.Seq.{get_or-take, length-take-le}
use Rattle.cluster.specs.Terms.{row_cells}
use Rattle.totals.specs.ModelTotals.{count_in}
use Rattle.totals.proofs.Walks.{count-start, count_here, count_other, count_end}
use Rattle.totals.proofs.copies_of.Goals as goal
use Rattle.totals.proofs.copies_of.Goals.{then-cell-id, else-cell-id}

pub loop-cell-init : goal.loop-cell-init
loop-cell-init c = let a = c.args in (search rules, count-start a.cells.now (a.partitions * row_cells) (search rules) a.id)

pub loop-cell-preserved : goal.loop-cell-preserved
loop-cell-preserved c =
    let l = c.loop-cell in
    let a = c.args in
    let whole : length (take (a.partitions * row_cells) a.cells.now) ≡ a.partitions * row_cells = length-take-le (a.partitions * row_cells) a.cells.now (search rules) in
    let here = get_or-take (a.partitions * row_cells) a.cells.now l.cell-index 0 (omega arith) in (
      elim c.if-cell-id.branch [ then-cell-id w ↦ omega (arith, w.copies-is) | else-cell-id w ↦ omega (arith, w.copies-is) ],
      elim c.if-cell-id.branch [
        | then-cell-id w ↦ l.invariant.1 ∙ (count_here a.cells.now (a.partitions * row_cells) (search rules) a.id l.copies l.cell-index (omega arith) (sym here ∙ w.if-cell-id.true)
            ∙ ap (λ (x : ℕ). x + count_in a.id (take (a.partitions * row_cells - (l.cell-index + 1)) (drop (l.cell-index + 1) a.cells.now))) (sym w.copies-is))
        | else-cell-id w ↦ l.invariant.1 ∙ (count_other a.cells.now (a.partitions * row_cells) (search rules) a.id l.copies l.cell-index (omega arith) (λ e. w.if-cell-id.false (here ∙ e))
            ∙ ap (λ (x : ℕ). x + count_in a.id (take (a.partitions * row_cells - (l.cell-index + 1)) (drop (l.cell-index + 1) a.cells.now))) (sym w.copies-is))
      ],
    )

pub returns : goal.returns
returns c =
    let l = c.loop-cell in
    let a = c.args in
    let whole : length (take (a.partitions * row_cells) a.cells.now) ≡ a.partitions * row_cells = length-take-le (a.partitions * row_cells) a.cells.now (search rules) in
    sym (l.invariant.1 ∙ count_end a.cells.now (a.partitions * row_cells) (search rules) a.id l.copies l.cell-index (omega arith))
