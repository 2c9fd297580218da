-- `masks::mask_of` meets its contract.
-- Assumes nothing.
use borrow.Author.Rules.{rules}
use native.Mathlib.Omega.{arith}
use Prim.Native.Nat.{ℕ, ◌+◌, ◌-◌, ◌*◌}
use mathlib.Core.Path.{◌≡◌, sym, ap, ap₂, ◌∙◌}
use mathlib.Core.Bool.{Bool, cond}
use lib.ListN.{take, drop}
use Rattle.cluster.specs.Terms.{row_cells, row_at, ids_in}
use Rattle.cell_rows.proofs.RowScans.{row_out, row_short, row_whole}
use Rattle.masks.specs.ModelMasks.{named, row_mask}
use Rattle.masks.proofs.mask_of.Goals as goal

pub returns-then-partition-ge-PARTITIONS : goal.returns-then-partition-ge-PARTITIONS
unfolding row_mask
returns-then-partition-ge-PARTITIONS c =
    let a = c.args in
    λ ns e. sym
    (ap (λ (t : Bool). cond t (named ns (ids_in (row_at a.cells.now a.partition))) 0)
    (row_out a.cells.now a.partition (search rules)))

pub returns-then-cells-to : goal.returns-then-cells-to
unfolding row_mask
returns-then-cells-to c =
    let a = c.args in
    λ ns e. sym
    (ap (λ (t : Bool). cond t (named ns (ids_in (row_at a.cells.now a.partition))) 0)
    (row_short a.cells.now a.partition (search rules)))

pub returns : goal.returns
unfolding row_mask
returns c =
    let a = c.args in
    let d : a.partition * row_cells + row_cells - a.partition * row_cells ≡ row_cells = omega arith in
    λ ns e. sym
    (ap₂ (λ (t : Bool) (n : ℕ). cond t n 0) (row_whole a.cells.now a.partition (search rules) (search rules))
    (sym (c.walk_row.ensures ns e ∙ ap (λ (n : ℕ). named ns (ids_in (take n (drop (a.partition * row_cells) a.cells.now)))) d)))
