-- `cell_rows::row_is_blank` meets its contract.
-- Assumes nothing.
use borrow.Author.Rules.{rules}
use native.Mathlib.Omega.{arith}
use Prim.Native.Nat.{ℕ, ◌+◌, ◌-◌, ◌*◌}
use mathlib.Core.Path.{◌≡◌, sym, ap, ap₂, ◌∙◌}
use mathlib.Core.Bool.{Bool, ◌&&◌}
use lib.ListN.{take, drop}
use Rattle.cluster.specs.Terms.{row_cells, row_at, blank}
use Rattle.cell_rows.specs.ModelRows.{row_is_blank}
use Rattle.cell_rows.proofs.RowScans.{row_out, row_short, row_whole}
use Rattle.cell_rows.proofs.row_is_blank.Goals as goal

pub returns-then-partition-ge-PARTITIONS : goal.returns-then-partition-ge-PARTITIONS
unfolding row_is_blank
returns-then-partition-ge-PARTITIONS c =
    let a = c.args in
    sym (ap (λ (t : Bool). t && blank (row_at a.cells.now a.partition)) (row_out a.cells.now a.partition (search rules)))

pub returns-then-cells-to : goal.returns-then-cells-to
unfolding row_is_blank
returns-then-cells-to c =
    let a = c.args in
    sym (ap (λ (t : Bool). t && blank (row_at a.cells.now a.partition)) (row_short a.cells.now a.partition (search rules)))

pub returns : goal.returns
unfolding row_is_blank
returns c =
    let a = c.args in
    let e : a.partition * row_cells + row_cells - a.partition * row_cells ≡ row_cells = omega arith in
    sym
    (ap₂ ◌&&◌ (row_whole a.cells.now a.partition (search rules) (search rules))
    (sym (c.zeros.ensures ∙ ap (λ (n : ℕ). blank (take n (drop (a.partition * row_cells) a.cells.now))) e)))
