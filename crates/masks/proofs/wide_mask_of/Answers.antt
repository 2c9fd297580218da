-- `masks::wide_mask_of` meets its contract.
-- Assumes nothing.
use native.Mathlib.Omega.{arith}
use Prim.Native.Nat.{ℕ, ◌+◌, ◌-◌, ◌*◌}
use mathlib.Core.Path.{◌≡◌, ap, ◌∙◌}
use lib.ListN.{take, drop}
use Rattle.cluster.specs.Terms.{wide_row_cells, ids_in}
use Rattle.masks.specs.ModelMasks.{named}
use Rattle.masks.proofs.wide_mask_of.Goals as goal

pub returns : goal.returns
returns c =
    let a = c.args in
    let from = a.partition * wide_row_cells in
    let d : from + wide_row_cells - from ≡ wide_row_cells = omega arith in
    λ ns e. c.walk_row.ensures ns e ∙ ap (λ (n : ℕ). named ns (ids_in (take n (drop from a.cells.now)))) d
