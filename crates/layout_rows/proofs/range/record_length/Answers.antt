-- `layout_rows::range::record_length` meets its contract.
-- Assumes nothing.
use native.Mathlib.Omega.{arith}
use Prim.Native.Nat.{ℕ, ◌+◌, ◌*◌, ◌≤◌}
use mathlib.Core.Path.{◌∙◌, ap}
use Rattle.layout_rows.specs.RecordLayout.{record_length}
use Rattle.cluster.proofs.Accepting.{partitions_in_range}
use Rattle.layout_rows.proofs.RowFaults.{few_bytes}
use Rattle.layout_rows.proofs.range.record_length.Goals as goal

pub overflow_mul-result-2 : goal.overflow_mul-result-2
overflow_mul-result-2 c =
    -- The rows take at most 9,472 bytes.
    let bytes : c.partitions.result * (5 + 4 * c.args.replication) ≤ 9472 = (let a = c.args in
    few_bytes c.partitions.result (5 + 4 * a.replication) c.partitions.ensures.1 (omega arith)) in
    omega (arith, bytes)

pub overflow_add-result-2 : goal.overflow_add-result-2
overflow_add-result-2 c =
    let bytes : c.partitions.result * (5 + 4 * c.args.replication) ≤ 9472 = (let a = c.args in
    few_bytes c.partitions.result (5 + 4 * a.replication) c.partitions.ensures.1 (omega arith)) in
    omega (arith, bytes)

pub returns : goal.returns
unfolding record_length
returns c = let a = c.args in ap (λ (k : ℕ). 29 + k * (5 + 4 * a.replication)) (c.partitions.ensures.0 ∙ partitions_in_range a.bits (omega arith))
