-- `cell_rows::wide_row_is_formed` meets its contract.
-- Assumes nothing.
use native.Mathlib.Omega.{arith}
use Prim.Native.Nat.{ℕ, ◌+◌, ◌-◌, ◌*◌}
use mathlib.Core.Path.{◌≡◌, ap, ◌∙◌}
use lib.ListN.{take, drop, length-take}
use Rattle.cluster.specs.Terms.{wide_row_cells, row_of}
use Rattle.cell_rows.specs.ModelRows.{id_count}
use Rattle.cell_rows.proofs.RowScans.{some-told, count-formed}
use Rattle.cell_rows.proofs.wide_row_is_formed.Goals as goal

pub returns : goal.returns
returns c =
    let a = c.args in
    let from = a.partition * wide_row_cells in
    let e : from + wide_row_cells - from ≡ wide_row_cells = omega arith in
    c.is_some.ensures
    ∙ some-told _ _ (c.count_ids.ensures.0 ∙ ap (λ (n : ℕ). id_count (take n (drop from a.cells.now))) e) c.count_ids.ensures.1
    ∙ count-formed (row_of wide_row_cells a.cells.now a.partition) (omega (arith, length-take wide_row_cells (drop from a.cells.now)))
