-- `console_plan::dezghuri_plan` meets its contract.
-- Assumes nothing.
use native.Mathlib.Omega.{arith}
use mathlib.Core.Path.{◌≡◌, refl, sym, ap, ◌∙◌, subst}
use mathlib.Core.Bool.{false}
use mathlib.Core.List.{[], ◌∷◌, ◌++◌}
use Prim.Native.Nat.{ℕ}
use lib.ListN.{length, drop}
use Rattle.std.proofs.Common.{Result, Ok, Err}
use Rattle.std.specs.Result.{result_unwrap_or}
use Rattle.sums.specs.TermsSums.{one_if}
use Rattle.planner.specs.declared.settle.Plan.{Plan}
use Rattle.planner.specs.TermsPlan.{Planned, planned_as}
use Rattle.answers.specs.declared.stopped.Stopped.{Stopped}
use Rattle.answers.specs.declared.stopped.Told.{Told}
use Rattle.answers.specs.TermsAnswers.{halves, reading}
use Rattle.answers.specs.TermsStopped.{told_of}
use Rattle.console_plan.specs.TermsConsolePlan.{former_in, refusal_in, planned}
use Rattle.answers.proofs.Answered.{short, long}
use Rattle.console_plan.proofs.PlanAnswers.{Owes, record_owed}
use Rattle.console_plan.proofs.dezghuri_plan.Goals as goal

pub returns-then-answer-lt-ANSWER : goal.returns-then-answer-lt-ANSWER
returns-then-answer-lt-ANSWER c =
    let lent = c.args.answer.now in
    let h = c.if-answer-lt-ANSWER.true in
    (c.into.ensures ∙ short _ 6 lent h, short _ 6 lent h, short _ 6 lent h, short _ 6 lent h, λ e long ample enough. absurd (omega arith))

-- What is told and a plan, as an answer.
abbrev with : Told → Plan → Planned
with t p = record { refusal = t.refusal; size = p.size; sent = p.sent; finished = p.finished; improvements = p.improvements }

-- What is told is the refusal of the answer, with its numbers.
told : (x : Result Plan Stopped) → with (told_of x) (result_unwrap_or x (record { size = 0; sent = 0; finished = false; improvements = 0 })) ≡ planned_as (refusal_in x)
told (Ok _) = refl
told (Err _) = refl

pub returns : goal.returns
unfolding one_if
returns c =
    let a = c.args in
    let h = c.if-answer-lt-ANSWER.false in
    let s = a.bytes.now in
    let cells = a.assignment.now in
    let rest = a.scratch.now in
    let lent = a.answer.now in
    let t = c.of-told.ensures in
    let w = told c.plan_of_record-found.result in
    let e = c.plan_of_record-found.ensures in
    let answer : with c.of-told.result c.unwrap_or-plan.result ≡ planned_as (refusal_in c.plan_of_record-found.result) =
    (λ i. with (t i) (c.unwrap_or-plan.ensures i)) ∙ w in
    let made : with c.of-told.result c.unwrap_or-plan.result ≡ planned (reading s) (former_in s) a.allowance (length cells) (length rest) = answer ∙ e.0 in
    let byte : c.of-told.result.byte ≡ (reading s).byte = (λ i. (t i).byte) ∙ e.1 in
    let refusal = ap (λ (x : Planned). x.refusal) (sym answer) in (
      long _ 6 lent h (ap (λ (x : Planned). x.refusal) made),
      long _ 6 lent h e.2,
      long _ 6 lent h e.3,
      long _ 6 lent h
          (c.put_after.ensures
          ∙ (λ i. halves (byte i) ++ ((made i).size ∷ (made i).sent ∷ one_if (made i).finished ∷ (made i).improvements ∷ []) ++ drop 6 lent)),
      record_owed s (length cells) (length rest) (length lent) c.of-told.result.refusal
          (subst (λ (n : ℕ). Owes s (length cells) (length rest) n) refusal e.4),
    )
