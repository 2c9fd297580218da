-- `console_records::layout_out::dezghuri_write_layout` meets its contract.
-- Assumes nothing.
use mathlib.Core.Path.{◌≡◌, ap, ◌∙◌}
use Prim.Native.Nat.{ℕ, ◌/◌, ◌%◌, ◌^◌}
use mathlib.Core.List.{◌∷◌}
use lib.ListN.{drop}
use Rattle.layout_head.specs.RecordHead.{numbers_of}
use Rattle.layout_record.specs.RecordLayoutAnswer.{Written, write_answer}
use Rattle.answers.proofs.Answered.{short, long}
use Rattle.console_records.proofs.layout_out.dezghuri_write_layout.Goals as goal
use Rattle.console_records.proofs.layout_out.dezghuri_write_layout.Goals.{in-Ok, in-Err}

pub returns-then-answer-lt-ANSWER : goal.returns-then-answer-lt-ANSWER
returns-then-answer-lt-ANSWER c =
    let lent = c.args.answer.now in
    let h = c.if-answer-lt-ANSWER.true in
    (c.into.ensures ∙ short _ 2 lent h, short _ 2 lent h, short _ 2 lent h)

-- The two numbers that are told of a writing.
told : ℕ × ℕ → Written
told n = record { refusal = n.0; length = n.1 }

pub returns : goal.returns
unfolding told
returns c =
    let a = c.args in
    let lent = a.answer.now in
    let h = c.if-answer-lt-ANSWER.false in
    let written : told c.match-write_layout.refusal ≡ write_answer (numbers_of a.bits a.replication a.size a.sent a.verdict a.improvements) a.assignment.now a.out.now =
    elim c.match-write_layout.branch [
      | in-Ok w ↦ ap told w.refusal-is ∙ w.in-Ok.ensures.0
      | in-Err w ↦ ap told w.refusal-is ∙ (ap (λ (n : ℕ). told (n, 0)) w.into-in-Err.ensures ∙ w.in-Err.ensures.0)
    ] in
    let high = c.high.ensures ∙ ap (λ (x : Written). x.length / 2 ^ 32) written in
    let low = c.low.ensures ∙ ap (λ (x : Written). x.length % 2 ^ 32) written in (
      long _ 2 lent h (ap (λ (x : Written). x.refusal) written),
      long _ 2 lent h c.write_layout.ensures.1,
      long _ 2 lent h (c.put.ensures ∙ (λ i. high i ∷ low i ∷ drop 2 lent)),
    )
