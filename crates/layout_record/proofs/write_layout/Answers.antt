-- `layout_record::write_layout` meets its contract.
-- Assumes nothing.
use Prim.Native.Nat.{ℕ}
use mathlib.Core.Path.{sym, ap, ◌∙◌}
use lib.ListN.{length}
use native.Mathlib.Omega.{arith}
use Rattle.std.proofs.lemmas.Result.{err_from_is_err_and}
use Rattle.fields.proofs.RecordField.{refusal-some}
use Rattle.layout_rows.proofs.RowFaults.{no_fault}
use Rattle.layout_head.proofs.NumberFields.{few_bits, few_copies}
use Rattle.layout_record.proofs.RowSteps.{write-refused, write_accepted}
use Rattle.layout_record.proofs.write_layout.Goals as goal

pub returns-in_err-write_fault : goal.returns-in_err-write_fault
returns-in_err-write_fault c =
    let a = c.args in
    let p = err_from_is_err_and c.from_residual.result c.from_residual.ensures.1 in
    let e = c.in_err-write_fault.ensures in
    let w = write-refused a.numbers a.assignment.now a.out.now (λ z. absurd (omega (arith, refusal-some c.in_err-write_fault.field-0.0, e, z))) in
    rw (p.1, p.2) (ap (λ (k : ℕ). record { refusal = k; length = 0 }) e ∙ sym w.0, sym w.1)

pub record_length-requires : goal.record_length-requires
record_length-requires c =
    let a = c.args in
    let r = (no_fault a.numbers a.assignment.now (length a.out.now) (sym c.in_ok-write_fault.ensures)).fit in
    (few_bits a.numbers r, (few_copies a.numbers r).1)

pub returns : goal.returns
returns c =
    let a = c.args in
    let w = write_accepted a.numbers a.assignment.now a.out.now (sym c.in_ok-write_fault.ensures) in
    (ap (λ (k : ℕ). record { refusal = 0; length = k }) c.record_length.ensures ∙ sym w.0, c.put_record.ensures ∙ sym w.1)
