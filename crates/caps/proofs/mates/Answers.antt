-- `caps::mates` meets its contract. The loop's invariant: the first b sets are written.
use native.Mathlib.Omega.{arith}
use Prim.Native.Nat.{ℕ}
use mathlib.Core.Path.{ap, ◌∙◌}
use Rattle.sums.specs.ModelSums.{is}
use Rattle.sets.specs.ModelBits.{mask_of}
use Rattle.incidence.specs.ModelIncidence.{cell, column}
use Rattle.caps.specs.ModelCaps.{mate_cells}
use Rattle.incidence.proofs.Columns.{column-none, column-next, column_end}
use Rattle.caps.proofs.mates.Goals as goal

pub loop-b-init : goal.loop-b-init
loop-b-init c = column-none _

pub loop-b-preserved : goal.loop-b-preserved
loop-b-preserved c =
    let z = c.args.zones in
    let m = c.min-m.result in
    column-next (λ i. mask_of (λ x. is (cell z x) (cell z i)) m) c.loop-b.mates c.loop-b.b c.of_zone.result c.loop-b.invariant c.of_zone.ensures

pub returns : goal.returns
unfolding mate_cells
returns c =
    let z = c.args.zones in
    let m = c.min-m in
    column_end (λ i. mask_of (λ x. is (cell z x) (cell z i)) m.result) c.loop-b.mates c.loop-b.b m.result c.loop-b.invariant (omega arith)
    ∙ ap (λ (n : ℕ). column (λ i. mask_of (λ x. is (cell z x) (cell z i)) n) n) m.ensures
