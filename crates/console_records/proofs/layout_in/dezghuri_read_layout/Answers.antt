-- `console_records::layout_in::dezghuri_read_layout` meets its contract.
-- Assumes nothing.
use Prim.Native.Nat.{ℕ}
use mathlib.Core.Path.{◌≡◌, ap, ◌∙◌}
use mathlib.Core.List.{◌++◌}
use lib.ListN.{drop}
use Rattle.layout_head.specs.declared.Numbers.{Numbers}
use Rattle.layout_record.specs.RecordLayoutAnswer.{ReadLayout, read_layout_of}
use Rattle.console_records.specs.TermsConsoleRecords.{layout_numbers}
use Rattle.answers.proofs.Answered.{short, long}
use Rattle.console_records.proofs.layout_in.dezghuri_read_layout.Goals as goal
use Rattle.console_records.proofs.layout_in.dezghuri_read_layout.Goals.{in-Ok, in-Err}

pub returns-then-answer-lt-ANSWER : goal.returns-then-answer-lt-ANSWER
returns-then-answer-lt-ANSWER c =
    let lent = c.args.answer.now in
    let h = c.if-answer-lt-ANSWER.true in
    (c.into.ensures ∙ short _ 8 lent h, short _ 8 lent h, short _ 8 lent h)

-- What is told of a reading.
told : ℕ × ℕ × Numbers → ReadLayout
told r = record { refusal = r.0; byte = r.1; numbers = r.2 }

pub returns : goal.returns
unfolding told
returns c =
    let a = c.args in
    let lent = a.answer.now in
    let h = c.if-answer-lt-ANSWER.false in
    let read : told c.match-read_layout.refusal ≡ read_layout_of a.bytes.now a.assignment.now =
    elim c.match-read_layout.branch [
      | in-Ok w ↦ ap told w.refusal-is ∙ w.in-Ok.ensures.0
      | in-Err w ↦ ap told w.refusal-is
          ∙ ((λ i. told (w.into-in-Err.ensures i, w.in-Err.refused.at, w.none.ensures i)) ∙ w.in-Err.ensures.0)
    ] in (
      long _ 8 lent h (ap (λ (x : ReadLayout). x.refusal) read),
      long _ 8 lent h c.read_layout.ensures.1,
      long _ 8 lent h (c.put_after.ensures ∙ ap (λ (x : ReadLayout). layout_numbers x ++ drop 8 lent) read),
    )
