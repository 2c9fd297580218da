-- `layout_record::write::put_record` meets its contract: the numbers, and then the rows.
-- Assumes nothing.
use native.Mathlib.Omega.{arith}
use Prim.Native.Nat.{◌^◌, ℕ}
use mathlib.Core.Path.{◌≡◌, ap, ◌∙◌}
use lib.ListN.{length}
use Rattle.cluster.specs.Terms.{rows_in}
use Rattle.fields.specs.RecordField.{over}
use Rattle.numbers.proofs.Written.{length-written}
use Rattle.layout_head.specs.RecordHead.{head_fields}
use Rattle.layout_rows.specs.RecordLayout.{layout_record}
use Rattle.layout_rows.specs.RecordLayoutFaults.{rows_fit}
use Rattle.cluster.proofs.Accepting.{partitions_in_range}
use Rattle.layout_rows.proofs.RowFaults.{Writable, no_fault}
use Rattle.layout_head.proofs.NumberFields.{few_bits, few_copies}
use Rattle.layout_record.proofs.PutRows.{head_room, rows-room, whole_room, put_whole}
use Rattle.layout_record.proofs.write.put_record.Goals as goal

pub put_numbers-requires : goal.put_numbers-requires
put_numbers-requires c =
    -- The record can be written.
    let can : Writable c.args.numbers c.args.cells.now (length c.args.out.now) = no_fault c.args.numbers c.args.cells.now (length c.args.out.now) c.requires in
    omega (arith, head_room c.args.numbers c.args.cells.now (length c.args.out.now) can)

pub put_rows-requires : goal.put_rows-requires
put_rows-requires c =
    let can : Writable c.args.numbers c.args.cells.now (length c.args.out.now) = no_fault c.args.numbers c.args.cells.now (length c.args.out.now) c.requires in
    -- The number of partitions of bits in range.
    let rows : c.partitions.result ≡ 2 ^ c.args.numbers.bits = c.partitions.ensures.0 ∙ partitions_in_range c.args.numbers.bits (few_bits c.args.numbers can.fit) in
    let a = c.args in
    let e = rows in (
      omega (arith, rows-room a.numbers a.cells.now (length a.out.now) _ e can, ap length c.put_numbers.ensures ∙ length-written a.out.now 0 (head_fields a.numbers)),
      omega (arith, can.whole),
      c.partitions.ensures.1,
      (few_copies a.numbers can.fit).1,
      ap (λ (p : ℕ). rows_fit a.cells.now p a.numbers.replication) e ∙ can.rows,
    )

pub returns : goal.returns
returns c =
    let can : Writable c.args.numbers c.args.cells.now (length c.args.out.now) = no_fault c.args.numbers c.args.cells.now (length c.args.out.now) c.requires in
    let rows : c.partitions.result ≡ 2 ^ c.args.numbers.bits = c.partitions.ensures.0 ∙ partitions_in_range c.args.numbers.bits (few_bits c.args.numbers can.fit) in
    let e = rows in
    let a = c.args in
    put_whole a.out.now _ _ a.numbers (rows_in _ a.cells.now) c.put_numbers.ensures c.put_rows.ensures (whole_room a.numbers a.cells.now (length a.out.now) _ e can)
    ∙ ap (λ (p : ℕ). over (layout_record a.numbers (rows_in p a.cells.now)) a.out.now) e
