-- `console_changes::dezghuri_change` meets its contract.
-- Assumes nothing.
use borrow.Author.Tests.{ne_eqb}
use native.Mathlib.Omega.{arith}
use mathlib.Core.Path.{◌≡◌, ap, ◌∙◌}
use mathlib.Core.List.{List, ◌++◌}
use Prim.Native.Nat.{ℕ}
use lib.ListN.{drop}
use Rattle.change_fields.specs.RecordChange.{longest_change, reverse_bytes}
use Rattle.changes.specs.TermsChanges.{Made, Outcome}
use Rattle.console_changes.specs.TermsConsoleChanges.{change_cells, reverse_after, change_numbers}
use Rattle.answers.proofs.Answered.{short, long}
use Rattle.changes.proofs.Cases.{number-some}
use Rattle.console_changes.proofs.dezghuri_change.Goals as goal

pub returns-then-answer-lt-ANSWER : goal.returns-then-answer-lt-ANSWER
returns-then-answer-lt-ANSWER c =
    let lent = c.args.answer.now in
    let h = c.if-answer-lt-ANSWER.true in
    (c.into.ensures ∙ short _ change_cells lent h, short _ change_cells lent h, short _ change_cells lent h, λ e wide ample. absurd (omega arith))

pub returns-then-reverse-lt-LONGEST : goal.returns-then-reverse-lt-LONGEST
returns-then-reverse-lt-LONGEST c =
    let a = c.args in
    let out = a.reverse.now in
    let lent = a.answer.now in
    let h = c.if-answer-lt-ANSWER.false in
    let g = c.if-reverse-lt-LONGEST.true in
    (c.into-then-reverse-lt-LONGEST.ensures ∙ long _ change_cells lent h (short _ longest_change out g), long _ change_cells lent h (short _ longest_change out g), long _ change_cells lent h (short _ longest_change out g), λ e wide ample. absurd (omega arith))

pub returns-in-Ok : goal.returns-in-Ok
unfolding reverse_after
returns-in-Ok c =
    let a = c.args in
    let h = c.if-answer-lt-ANSWER.false in
    let g = c.if-reverse-lt-LONGEST.false in
    let out = a.reverse.now in
    let lent = a.answer.now in
    let made = c.in-Ok.ensures.0 in
    let byte = c.in-Ok.ensures.1 in (
      long _ change_cells lent h (long _ longest_change out g (ap (λ (x : Made). x.answer.refusal) made)),
      long _ change_cells lent h
          (long _ longest_change out g (ap (λ (l : List ℕ). l ++ drop longest_change out) c.copy_from_slice.ensures.after ∙ ap (λ (x : Made). reverse_after out x.answer) made)),
      long _ change_cells lent h (long _ longest_change out g (c.put_made.ensures ∙ (λ i. change_numbers (byte i) (made i) ++ drop change_cells lent))),
      λ z wide ample. c.in-Ok.ensures.4 z,
    )

-- A refused change keeps the bytes of the reverse.
kept : (out : List ℕ) (o : Outcome) → (o.refusal ≡ 0 → ⊥) → out ≡ reverse_after out o
unfolding reverse_after
kept out o h = simp (ne_eqb o.refusal 0 h)

pub returns-in-Err : goal.returns-in-Err
unfolding reverse_bytes
returns-in-Err c =
    let a = c.args in
    let h = c.if-answer-lt-ANSWER.false in
    let g = c.if-reverse-lt-LONGEST.false in
    let out = a.reverse.now in
    let lent = a.answer.now in
    let made = c.in-Err.ensures.0 in
    let byte = c.in-Err.ensures.1 in
    let refused = ap (λ (x : Made). x.answer.refusal) made in (
      long _ change_cells lent h (long _ longest_change out g (c.into-in-Err.ensures ∙ refused)),
      long _ change_cells lent h (long _ longest_change out g (kept out _ (λ z. number-some c.in-Err.refused.refusal (refused ∙ z)))),
      long _ change_cells lent h (long _ longest_change out g (c.put_made-in-Err.ensures ∙ (λ i. change_numbers (byte i) (made i) ++ drop change_cells lent))),
      λ z wide ample. c.in-Err.ensures.4 z,
    )
