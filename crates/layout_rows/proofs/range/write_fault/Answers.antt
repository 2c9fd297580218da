-- `layout_rows::range::write_fault` meets its contract: the tests stand in the order of the faults.
-- Assumes nothing.
use native.Mathlib.Omega.{arith}
use Prim.Native.Nat.{ℕ, ◌^◌, ◌≤◌}
use mathlib.Core.Path.{◌≡◌, sym, ap, ◌∙◌}
use mathlib.Core.Bool.{true}
use Rattle.cluster.proofs.Accepting.{partitions_in_range}
use Rattle.cluster.specs.Terms.{most_copies}
use Rattle.layout_head.specs.RecordHead.{in_range}
use Rattle.layout_rows.specs.RecordLayoutFaults.{rows_fit}
use Rattle.layout_rows.proofs.RowFaults.{write-cells, write-numbers, write-rows, write-room, write-none}
use Rattle.layout_head.proofs.NumberFields.{few_bits, few_copies}
use Rattle.layout_rows.proofs.range.write_fault.Goals as goal

pub returns-then-cells-lt-CELLS : goal.returns-then-cells-lt-CELLS
returns-then-cells-lt-CELLS c = let a = c.args in sym (write-cells a.numbers a.cells.now a.room c.if-cells-lt-CELLS.true)

pub returns-then-not-in_range : goal.returns-then-not-in_range
returns-then-not-in_range c =
    let a = c.args in
    sym (write-numbers a.numbers a.cells.now a.room (omega arith) (sym c.in_range.ensures ∙ c.if-not-in_range.true))

pub rows_fit-requires : goal.rows_fit-requires
rows_fit-requires c =
    -- What the tests leave: the numbers are in range, the rows fit.
    let fit : in_range c.args.numbers ≡ true = let r = c.in_range in sym r.ensures ∙ c.if-not-in_range.false in
    let copies : let n = c.args.numbers in (1 ≤ n.replication) × (n.replication ≤ most_copies) = few_copies c.args.numbers fit in
    (omega arith, copies.1)

pub returns-then-not-rows_fit : goal.returns-then-not-rows_fit
returns-then-not-rows_fit c =
    let fit : in_range c.args.numbers ≡ true = let r = c.in_range in sym r.ensures ∙ c.if-not-in_range.false in
    let rows : c.partitions.result ≡ 2 ^ c.args.numbers.bits = (let n = c.args.numbers in
    c.partitions.ensures.0 ∙ partitions_in_range n.bits (few_bits n fit)) in
    let a = c.args in
    let r = c.rows_fit in
    sym (write-rows a.numbers a.cells.now a.room (omega arith) fit
    (ap (λ (k : ℕ). rows_fit a.cells.now k a.numbers.replication) (sym rows) ∙ (sym r.ensures ∙ c.if-not-rows_fit.true)))

pub record_length-requires : goal.record_length-requires
record_length-requires c =
    let fit : in_range c.args.numbers ≡ true = let r = c.in_range in sym r.ensures ∙ c.if-not-in_range.false in
    let copies : let n = c.args.numbers in (1 ≤ n.replication) × (n.replication ≤ most_copies) = few_copies c.args.numbers fit in
    (few_bits c.args.numbers fit, copies.1)

pub returns-then-room-record_length : goal.returns-then-room-record_length
returns-then-room-record_length c =
    let fit : in_range c.args.numbers ≡ true = let r = c.in_range in sym r.ensures ∙ c.if-not-in_range.false in
    let rows : c.partitions.result ≡ 2 ^ c.args.numbers.bits = (let n = c.args.numbers in
    c.partitions.ensures.0 ∙ partitions_in_range n.bits (few_bits n fit)) in
    let right : let a = c.args in rows_fit a.cells.now (2 ^ a.numbers.bits) a.numbers.replication ≡ true = (let a = c.args in
    let r = c.rows_fit in
    ap (λ (k : ℕ). rows_fit a.cells.now k a.numbers.replication) (sym rows) ∙ (sym r.ensures ∙ c.if-not-rows_fit.false)) in
    let a = c.args in
    sym (write-room a.numbers a.cells.now a.room (omega arith) fit right (omega (arith, c.record_length.ensures)))

pub returns : goal.returns
returns c =
    let fit : in_range c.args.numbers ≡ true = let r = c.in_range in sym r.ensures ∙ c.if-not-in_range.false in
    let rows : c.partitions.result ≡ 2 ^ c.args.numbers.bits = (let n = c.args.numbers in
    c.partitions.ensures.0 ∙ partitions_in_range n.bits (few_bits n fit)) in
    let right : let a = c.args in rows_fit a.cells.now (2 ^ a.numbers.bits) a.numbers.replication ≡ true = (let a = c.args in
    let r = c.rows_fit in
    ap (λ (k : ℕ). rows_fit a.cells.now k a.numbers.replication) (sym rows) ∙ (sym r.ensures ∙ c.if-not-rows_fit.false)) in
    let a = c.args in
    sym (write-none a.numbers a.cells.now a.room (omega arith) fit right (omega (arith, c.record_length.ensures)))
