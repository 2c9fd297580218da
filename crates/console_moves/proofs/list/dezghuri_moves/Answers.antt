-- `console_moves::list::dezghuri_moves` meets its contract.
-- Assumes nothing.
use native.Mathlib.Omega.{arith}
use mathlib.Core.Path.{◌≡◌, sym, ap, ◌∙◌}
use mathlib.Core.List.{[], ◌∷◌, ◌++◌}
use lib.ListN.{drop}
use Rattle.move_list.specs.TermsMoveList.{Listed, listed}
use Rattle.answers.specs.declared.stopped.Told.{Told}
use Rattle.answers.specs.TermsAnswers.{halves, reading}
use Rattle.console_moves.specs.TermsConsoleMoves.{moves_cells, listed_of}
use Rattle.answers.proofs.Answered.{short, long, owed}
use Rattle.console_moves.proofs.MovesTold.{told}
use Rattle.console_moves.proofs.list.dezghuri_moves.Goals as goal

pub returns-then-answer-lt-ANSWER : goal.returns-then-answer-lt-ANSWER
returns-then-answer-lt-ANSWER c =
    let lent = c.args.answer.now in
    let h = c.if-answer-lt-ANSWER.true in
    (c.into.ensures ∙ short _ moves_cells lent h, short _ moves_cells lent h, short _ moves_cells lent h, λ z. absurd (omega (arith, c.into.ensures, z)))

pub returns : goal.returns
returns c =
    let a = c.args in
    let h = c.if-answer-lt-ANSWER.false in
    let lent = a.answer.now in
    let x = c.list_of_record-found.result in
    let t = c.of-told.ensures in
    let found : listed c.of-told.result.refusal c.of-told.result.place c.unwrap_or-steps.result ≡ listed_of (reading a.bytes.now) a.former.now a.assignment.now a.moves.now =
    (λ i. listed (t i).refusal (t i).place (c.unwrap_or-steps.ensures i)) ∙ (told x ∙ c.list_of_record-found.ensures.0) in
    let byte : c.of-told.result.byte ≡ (reading a.bytes.now).byte = (λ i. (t i).byte) ∙ c.list_of_record-found.ensures.1 in (
      long _ moves_cells lent h (ap (λ (x : Listed). x.refusal) found),
      long _ moves_cells lent h c.list_of_record-found.ensures.2,
      long _ moves_cells lent h (c.put_after.ensures ∙ (λ i. halves (byte i) ++ ((found i).place ∷ (found i).steps ∷ []) ++ drop moves_cells lent)),
      λ z. owed x c.list_of_record-found.ensures.3 (ap (λ (t : Told). t.refusal) (sym t) ∙ z),
    )
