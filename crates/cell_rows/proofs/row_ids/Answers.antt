-- `cell_rows::row_ids` meets its contract.
-- Assumes nothing.
use borrow.Author.Rules.{rules}
use native.Mathlib.Omega.{arith}
use Prim.Native.Nat.{ℕ, ◌+◌, ◌-◌, ◌*◌}
use mathlib.Core.Path.{◌≡◌, sym, ap, ap₂, ◌∙◌}
use mathlib.Core.Bool.{Bool, cond}
use lib.ListN.{take, drop}
use Rattle.cluster.specs.Terms.{row_cells, row_at}
use Rattle.cell_rows.specs.ModelRows.{ill_formed, id_count, row_ids}
use Rattle.cell_rows.proofs.RowScans.{row_out, row_short, row_whole}
use Rattle.cell_rows.proofs.row_ids.Goals as goal

pub returns-then-partition-ge-PARTITIONS : goal.returns-then-partition-ge-PARTITIONS
unfolding row_ids
returns-then-partition-ge-PARTITIONS c =
    let a = c.args in
    (sym (ap (λ (t : Bool). cond t (id_count (row_at a.cells.now a.partition)) ill_formed) (row_out a.cells.now a.partition (search rules))), search rules)

pub returns-then-cells-to : goal.returns-then-cells-to
unfolding row_ids
returns-then-cells-to c =
    let a = c.args in
    (sym (ap (λ (t : Bool). cond t (id_count (row_at a.cells.now a.partition)) ill_formed) (row_short a.cells.now a.partition (search rules))), search rules)

pub returns : goal.returns
unfolding row_ids
returns c =
    let a = c.args in
    let e : a.partition * row_cells + row_cells - a.partition * row_cells ≡ row_cells = omega arith in (
      sym
          (ap₂ (λ (t : Bool) (n : ℕ). cond t n ill_formed) (row_whole a.cells.now a.partition (search rules) (search rules))
          (sym (c.count_ids.ensures.0 ∙ ap (λ (n : ℕ). id_count (take n (drop (a.partition * row_cells) a.cells.now))) e))),
      c.count_ids.ensures.1,
    )
