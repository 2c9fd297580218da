-- `console_layouts::check::dezghuri_check` meets its contract.
-- Assumes nothing.
use mathlib.Core.Path.{◌≡◌, refl, ap, ◌∙◌}
use mathlib.Core.List.{[], ◌∷◌, ◌++◌}
use lib.ListN.{drop}
use Rattle.std.proofs.Common.{Result, Ok, Err}
use Rattle.layouts.specs.TermsCheck.{Checked, fault, checked_as}
use Rattle.answers.specs.declared.stopped.Stopped.{Stopped}
use Rattle.answers.specs.TermsAnswers.{reading, halves}
use Rattle.answers.specs.TermsStopped.{told_of, fault_in}
use Rattle.console_layouts.specs.TermsConsoleLayouts.{checked}
use Rattle.answers.proofs.Answered.{short, long}
use Rattle.console_layouts.proofs.check.dezghuri_check.Goals as goal

pub returns-then-answer-lt-ANSWER : goal.returns-then-answer-lt-ANSWER
returns-then-answer-lt-ANSWER c =
    let lent = c.args.answer.now in
    let h = c.if-answer-lt-ANSWER.true in
    (c.into.ensures ∙ short _ 3 lent h, short _ 3 lent h)

-- What is told is the refusal and the place of the answer.
told : (x : Result Unit Stopped) → fault (told_of x).refusal (told_of x).place ≡ checked_as (fault_in x)
told (Ok _) = refl
told (Err _) = refl

pub returns : goal.returns
returns c =
    let a = c.args in
    let h = c.if-answer-lt-ANSWER.false in
    let lent = a.answer.now in
    let t = c.of-told.ensures in
    let found : fault c.of-told.result.refusal c.of-told.result.place ≡ checked (reading a.bytes.now) a.assignment.now a.size =
    (λ i. fault (t i).refusal (t i).place) ∙ (told c.check_record-found.result ∙ c.check_record-found.ensures.0) in
    let byte : c.of-told.result.byte ≡ (reading a.bytes.now).byte = (λ i. (t i).byte) ∙ c.check_record-found.ensures.1 in (
      long _ 3 lent h (ap (λ (x : Checked). x.refusal) found),
      long _ 3 lent h (c.put_after.ensures ∙ (λ i. halves (byte i) ++ ((found i).place ∷ []) ++ drop 3 lent)),
    )
