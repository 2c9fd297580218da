-- `layout_rows::row_fault` meets its contract: the tests stand in the order of the faults.
-- Assumes nothing.
use native.Mathlib.Omega.{arith}
use Prim.Native.Nat.{◌+◌}
use mathlib.Core.Path.{sym, ◌∙◌}
use Rattle.fields.specs.RecordField.{number_at, ids_at}
use Rattle.layout_rows.proofs.RowFaults.{fault-partition, fault_zero, fault-next, fault_falls, fault-none}
use Rattle.layout_rows.proofs.row_fault.Goals as goal

pub returns-then-partitions-partition : goal.returns-then-partitions-partition
returns-then-partitions-partition c =
    let a = c.args in
    sym (fault-partition a.partitions a.next (number_at a.bytes.now a.start 2) (ids_at a.bytes.now (a.start + 2) a.count) (omega (arith, c.pair_at-partition.ensures.0)))

pub returns-then-has_zero : goal.returns-then-has_zero
returns-then-has_zero c =
    let a = c.args in
    sym (fault_zero a.partitions a.next (number_at a.bytes.now a.start 2) (ids_at a.bytes.now (a.start + 2) a.count) (sym c.has_zero.ensures ∙ c.if-has_zero.true))

pub returns-then-partition-next : goal.returns-then-partition-next
returns-then-partition-next c =
    let a = c.args in
    let e = c.pair_at-partition.ensures.0 in
    sym (fault-next a.partitions a.next (number_at a.bytes.now a.start 2) (ids_at a.bytes.now (a.start + 2) a.count) (omega (arith, e))
    (sym c.has_zero.ensures ∙ c.if-has_zero.false) (λ q. c.if-partition-next.true (e ∙ q)))

pub returns-then-ids_rise : goal.returns-then-ids_rise
returns-then-ids_rise c =
    let a = c.args in
    let e = c.pair_at-partition.ensures.0 in
    sym (fault-none a.partitions a.next (number_at a.bytes.now a.start 2) (ids_at a.bytes.now (a.start + 2) a.count) (omega (arith, e))
    (sym c.has_zero.ensures ∙ c.if-has_zero.false) (sym e ∙ c.if-partition-next.false) (sym c.ids_rise.ensures ∙ c.if-ids_rise.true))

pub returns-else-ids_rise : goal.returns-else-ids_rise
returns-else-ids_rise c =
    let a = c.args in
    let e = c.pair_at-partition.ensures.0 in
    sym (fault_falls a.partitions a.next (number_at a.bytes.now a.start 2) (ids_at a.bytes.now (a.start + 2) a.count) (omega (arith, e))
    (sym c.has_zero.ensures ∙ c.if-has_zero.false) (sym e ∙ c.if-partition-next.false) (sym c.ids_rise.ensures ∙ c.if-ids_rise.false))
