-- `layout_record::read_layout` meets its contract.
-- Assumes nothing.
use native.Mathlib.Omega.{arith}
use Prim.Native.Nat.{ℕ}
use mathlib.Core.Path.{refl, sym, ap, ◌∙◌}
use mathlib.Core.List.{List, ◌++◌}
use lib.ListN.{length, drop}
use Rattle.cluster.specs.Terms.{cells_of}
use Rattle.cell_rows.proofs.CellLayouts.{length-cells_of}
use Rattle.std.proofs.lemmas.Result.{err_from_is_err_and}
use Rattle.fields.proofs.RecordField.{refusal-some}
use Rattle.layout_rows.specs.RecordLayoutFaults.{read_layout}
use Rattle.layout_record.specs.RecordLayoutAnswer.{ReadLayout, layout_answer}
use Rattle.layout_record.proofs.RowSteps.{read_short, short_kept, read_long, long_set, long_kept}
use Rattle.layout_record.proofs.read_layout.Goals as goal

pub returns-then-assignment-lt-CELLS : goal.returns-then-assignment-lt-CELLS
unfolding layout_answer
returns-then-assignment-lt-CELLS c =
    let a = c.args in
    (sym (read_short a.bytes.now a.assignment.now (omega arith)), sym (short_kept a.bytes.now a.assignment.now (omega arith)))

pub returns-in_err-numbers : goal.returns-in_err-numbers
unfolding layout_answer
returns-in_err-numbers c =
    let a = c.args in
    let p = err_from_is_err_and c.from_residual.result c.from_residual.ensures.1 in
    let e = c.in_err-numbers.ensures.0 in
    rw (p.1, p.2) (
      e ∙ sym (read_long a.bytes.now a.assignment.now (omega arith)),
      sym (long_kept a.bytes.now a.assignment.now (omega arith)
          (λ z. absurd (omega (arith, refusal-some c.in_err-numbers.field-0.0.refusal, ap (λ (r : ReadLayout). r.refusal) e, z)))),
    )

pub returns : goal.returns
unfolding layout_answer
returns c =
    let a = c.args in
    let e = c.in_ok-numbers.ensures.0 in (
      e ∙ sym (read_long a.bytes.now a.assignment.now (omega arith)),
      c.copy.ensures
          ∙ (ap (λ (l : List ℕ). l ++ drop (length l) a.assignment.now) (c.in_ok-numbers.ensures.1 refl)
          ∙ (ap (λ (n : ℕ). cells_of (read_layout a.bytes.now).layout ++ drop n a.assignment.now) (length-cells_of (read_layout a.bytes.now).layout)
          ∙ sym (long_set a.bytes.now a.assignment.now (omega arith) (sym (ap (λ (r : ReadLayout). r.refusal) e))))),
    )
