-- `console_layouts::given::dezghuri_loss` meets its contract.
-- Assumes nothing.
use mathlib.Core.Path.{◌≡◌, refl, ap, ◌∙◌}
use mathlib.Core.List.{[], ◌∷◌, ◌++◌}
use Prim.Native.Nat.{ℕ}
use lib.ListN.{drop}
use Rattle.std.proofs.Common.{Result, Ok, Err}
use Rattle.std.specs.Result.{result_unwrap_or}
use Rattle.loss.specs.TermsLossAnswer.{Lost, lost_with, lost_as}
use Rattle.answers.specs.declared.stopped.Stopped.{Stopped}
use Rattle.answers.specs.TermsAnswers.{reading, halves}
use Rattle.answers.specs.TermsStopped.{told_of, fault_in}
use Rattle.console_layouts.specs.TermsConsoleLosses.{given_found}
use Rattle.answers.proofs.Answered.{short, long}
use Rattle.console_layouts.proofs.given.dezghuri_loss.Goals as goal

pub returns-then-answer-lt-ANSWER : goal.returns-then-answer-lt-ANSWER
returns-then-answer-lt-ANSWER c =
    let lent = c.args.answer.now in
    let h = c.if-answer-lt-ANSWER.true in
    (c.into.ensures ∙ short _ 4 lent h, short _ 4 lent h)

-- What is told is the refusal and the place of the answer, with its number.
told : (x : Result ℕ Stopped) → lost_with (told_of x).refusal (told_of x).place (result_unwrap_or x 0) ≡ lost_as (fault_in x)
told (Ok _) = refl
told (Err _) = refl

pub returns : goal.returns
returns c =
    let a = c.args in
    let h = c.if-answer-lt-ANSWER.false in
    let lent = a.answer.now in
    let t = c.of-told.ensures in
    let found : lost_with c.of-told.result.refusal c.of-told.result.place c.unwrap_or-lost.result ≡ given_found (reading a.bytes.now) a.assignment.now a.nodes.now =
    (λ i. lost_with (t i).refusal (t i).place (c.unwrap_or-lost.ensures i)) ∙ (told c.loss_of_record-found.result ∙ c.loss_of_record-found.ensures.0) in
    let byte : c.of-told.result.byte ≡ (reading a.bytes.now).byte = (λ i. (t i).byte) ∙ c.loss_of_record-found.ensures.1 in (
      long _ 4 lent h (ap (λ (x : Lost). x.refusal) found),
      long _ 4 lent h (c.put_after.ensures ∙ (λ i. halves (byte i) ++ ((found i).place ∷ (found i).lost ∷ []) ++ drop 4 lent)),
    )
