-- `console_plan::certify::dezghuri_certify` meets its contract.
-- Assumes nothing.
use borrow.Author.Rules.{rules}
use native.Mathlib.Omega.{arith}
use mathlib.Core.Path.{◌≡◌, refl, ap, ◌∙◌}
use mathlib.Core.List.{List, [], ◌∷◌, ◌++◌}
use Prim.Native.Nat.{ℕ}
use lib.ListN.{length, drop, replicate}
use Rattle.std.proofs.Common.{Result, Ok, Err}
use Rattle.std.specs.Result.{result_unwrap_or}
use Rattle.cluster.specs.Terms.{most_nodes}
use Rattle.certificate.specs.TermsCertify.{Certified, certified_as}
use Rattle.answers.specs.declared.stopped.Stopped.{Stopped}
use Rattle.answers.specs.declared.stopped.Told.{Told}
use Rattle.answers.specs.TermsAnswers.{halves, reading}
use Rattle.answers.specs.TermsStopped.{told_of, fault_in}
use Rattle.console_plan.specs.TermsConsolePlan.{former_in}
use Rattle.console_plan.specs.TermsConsoleCertify.{certified_read}
use Rattle.answers.proofs.Answered.{short, long}
use Rattle.console_plan.proofs.CertifyAnswers.{certify_owed, numbers-written}
use Rattle.console_plan.proofs.certify.dezghuri_certify.Goals as goal

pub returns-then-answer-lt-ANSWER : goal.returns-then-answer-lt-ANSWER
returns-then-answer-lt-ANSWER c =
    let lent = c.args.answer.now in
    let h = c.if-answer-lt-ANSWER.true in
    (c.into.ensures ∙ short _ 35 lent h, short _ 35 lent h, λ e passed enough. absurd (omega arith))

pub put-requires : goal.put-requires
put-requires c =
    let e : length c.unwrap_or-prices.result ≡ 32 = search rules in
    omega (arith, e)

-- What is told and the prices, as an answer.
abbrev with : Told → List ℕ → Certified
with t prices = record { refusal = t.refusal; place = t.place; prices = prices }

-- What is told is the refusal and the place of the answer, with its prices.
told : (x : Result (List ℕ) Stopped) → with (told_of x) (result_unwrap_or x (replicate most_nodes 0)) ≡ certified_as (fault_in x)
told (Ok _) = refl
told (Err _) = refl

pub returns : goal.returns
returns c =
    -- There is a price for each slot.
    let priced : length c.unwrap_or-prices.result ≡ most_nodes = search rules in
    let a = c.args in
    let h = c.if-answer-lt-ANSWER.false in
    let s = a.bytes.now in
    let cells = a.assignment.now in
    let lent = a.answer.now in
    let t = c.of-told.ensures in
    let w = told c.certify_record-found.result in
    let e = c.certify_record-found.ensures in
    let made : with c.of-told.result c.unwrap_or-prices.result ≡ certified_read (reading s) (former_in s) cells a.size =
    (λ i. with (t i) (c.unwrap_or-prices.ensures i)) ∙ (w ∙ e.0) in
    let byte : c.of-told.result.byte ≡ (reading s).byte = (λ i. (t i).byte) ∙ e.1 in (
      long _ 35 lent h (ap (λ (x : Certified). x.refusal) made),
      long _ 35 lent h
          (c.put.ensures
          ∙ (numbers-written lent c.of-told.result.byte (with c.of-told.result c.unwrap_or-prices.result) _ priced c.put_after.ensures
          ∙ (λ i. (halves (byte i) ++ ((made i).place ∷ []) ++ (made i).prices) ++ drop 35 lent))),
      certify_owed s cells a.size (certified_as (fault_in c.certify_record-found.result)) e.0 e.2 (length lent),
    )
