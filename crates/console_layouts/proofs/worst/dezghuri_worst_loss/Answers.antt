-- `console_layouts::worst::dezghuri_worst_loss` meets its contract.
-- Assumes nothing.
use native.Mathlib.Omega.{arith}
use mathlib.Core.Path.{◌≡◌, refl, sym, ap, ◌∙◌, subst}
use mathlib.Core.List.{[], ◌∷◌, ◌++◌}
use lib.ListN.{drop, get_or}
use Rattle.std.proofs.Common.{Result, Ok, Err}
use Rattle.std.specs.Result.{result_unwrap_or}
use Rattle.loss.specs.declared.worst.Worst.{Worst}
use Rattle.loss.specs.TermsLossAnswer.{Loss, worst_as, LossOwed}
use Rattle.answers.specs.declared.stopped.Stopped.{Stopped}
use Rattle.answers.specs.declared.stopped.Told.{Told}
use Rattle.answers.specs.TermsAnswers.{reading, halves}
use Rattle.answers.specs.TermsStopped.{told_of, fault_in}
use Rattle.answers.proofs.Answered.{short, long}
use Rattle.console_layouts.specs.TermsConsoleLosses.{worst_cells, worst_found}
use Rattle.console_layouts.proofs.worst.dezghuri_worst_loss.Goals as goal

pub returns-then-answer-lt-ANSWER : goal.returns-then-answer-lt-ANSWER
returns-then-answer-lt-ANSWER c =
    let lent = c.args.answer.now in
    let h = c.if-answer-lt-ANSWER.true in
    (c.into.ensures ∙ short _ worst_cells lent h, short _ worst_cells lent h, λ z. absurd (omega (arith, c.into.ensures, z)))

-- What is told and what is lost, as an answer.
abbrev with : Told → Worst → Loss
with t w = record { refusal = t.refusal; place = t.place; lost = w.lost; nodes = w.nodes }

-- What is told is the refusal and the place of the answer, with its numbers.
told : (x : Result Worst Stopped) → with (told_of x) (result_unwrap_or x (record { lost = 0; nodes = 0 ∷ 0 ∷ 0 ∷ 0 ∷ [] })) ≡ worst_as (fault_in x)
told (Ok _) = refl
told (Err _) = refl

pub returns : goal.returns
returns c =
    let a = c.args in
    let h = c.if-answer-lt-ANSWER.false in
    let lent = a.answer.now in
    let read = reading a.bytes.now in
    let t = c.of-told.ensures in
    let w = told c.worst_of_record-found.result in
    let answer : with c.of-told.result c.unwrap_or-lost.result ≡ worst_as (fault_in c.worst_of_record-found.result) =
    (λ i. with (t i) (c.unwrap_or-lost.ensures i)) ∙ w in
    let found : with c.of-told.result c.unwrap_or-lost.result ≡ worst_found read a.assignment.now a.number = answer ∙ c.worst_of_record-found.ensures.0 in
    let byte : c.of-told.result.byte ≡ read.byte = (λ i. (t i).byte) ∙ c.worst_of_record-found.ensures.1 in (
      long _ worst_cells lent h (ap (λ (x : Loss). x.refusal) found),
      long _ worst_cells lent h (c.put_after.ensures
          ∙ (λ i. halves (byte i) ++ ((found i).place ∷ (found i).lost ∷ get_or (found i).nodes 0 0 ∷ get_or (found i).nodes 1 0 ∷ get_or (found i).nodes 2 0 ∷ get_or (found i).nodes 3 0 ∷ []) ++ drop worst_cells lent)),
      λ z. subst (λ (x : Loss). LossOwed read.cluster a.assignment.now a.number x) c.worst_of_record-found.ensures.0
          (c.worst_of_record-found.ensures.2 (ap (λ (x : Loss). x.refusal) (sym answer) ∙ z)),
    )
