-- `console_layouts::figure::dezghuri_figures` meets its contract.
-- Assumes nothing.
use mathlib.Core.Path.{◌≡◌, refl, ap, ◌∙◌}
use Prim.Native.Nat.{ℕ, ◌/◌, ◌%◌, ◌^◌}
use mathlib.Core.List.{[], ◌∷◌, ◌++◌}
use lib.ListN.{drop}
use Rattle.std.proofs.Common.{Result, Ok, Err}
use Rattle.std.specs.Result.{result_unwrap_or}
use Rattle.figures.specs.TermsFigures.{Figured, figured_as}
use Rattle.answers.specs.declared.stopped.Stopped.{Stopped}
use Rattle.answers.specs.TermsAnswers.{halves, reading}
use Rattle.answers.specs.TermsStopped.{told_of, fault_in}
use Rattle.console_layouts.specs.TermsConsoleLayouts.{figured}
use Rattle.answers.proofs.Answered.{short, long}
use Rattle.console_layouts.proofs.figure.dezghuri_figures.Goals as goal

pub returns-then-answer-lt-ANSWER : goal.returns-then-answer-lt-ANSWER
returns-then-answer-lt-ANSWER c =
    let lent = c.args.answer.now in
    let h = c.if-answer-lt-ANSWER.true in
    (c.into.ensures ∙ short _ 5 lent h, short _ 5 lent h, short _ 5 lent h)

abbrev with : ℕ → ℕ → ℕ → Figured
with refusal place hope = record { refusal = refusal; place = place; hope = hope }

-- What is told is the refusal and the place of the answer, with its size to hope for.
told : (x : Result ℕ Stopped) → with (told_of x).refusal (told_of x).place (result_unwrap_or x 0) ≡ figured_as (fault_in x)
told (Ok _) = refl
told (Err _) = refl

pub returns : goal.returns
returns c =
    let a = c.args in
    let h = c.if-answer-lt-ANSWER.false in
    let lent = a.answer.now in
    let t = c.of-told.ensures in
    let found : with c.of-told.result.refusal c.of-told.result.place c.unwrap_or-hope.result ≡ figured (reading a.bytes.now) a.assignment.now a.size a.figures.now =
    (λ i. with (t i).refusal (t i).place (c.unwrap_or-hope.ensures i)) ∙ (told c.figures_of_record-found.result ∙ c.figures_of_record-found.ensures.0) in
    let byte : c.of-told.result.byte ≡ (reading a.bytes.now).byte = (λ i. (t i).byte) ∙ c.figures_of_record-found.ensures.1 in
    let high = c.high.ensures ∙ ap (λ (x : Figured). x.hope / 2 ^ 32) found in
    let low = c.low.ensures ∙ ap (λ (x : Figured). x.hope % 2 ^ 32) found in (
      long _ 5 lent h (ap (λ (x : Figured). x.refusal) found),
      long _ 5 lent h c.figures_of_record-found.ensures.2,
      long _ 5 lent h (c.put_after.ensures ∙ (λ i. halves (byte i) ++ ((found i).place ∷ high i ∷ low i ∷ []) ++ drop 5 lent)),
    )
