-- `console_layouts::worst::worst_of_record` meets its contract.
-- Assumes nothing.
use mathlib.Core.Path.{◌≡◌, refl}
use Rattle.std.proofs.Common.{Ok, Err}
use Rattle.std.proofs.lemmas.Result.{err_from_is_err_and}
use Rattle.layouts.proofs.FaultScan.{number-some}
use Rattle.cluster_record.specs.RecordClusterAnswer.{read_as}
use Rattle.answers.specs.TermsAnswers.{reading}
use Rattle.answers.proofs.Answered.{unread}
use Rattle.console_layouts.specs.TermsConsoleLosses.{worst_found}
use Rattle.console_layouts.proofs.worst.worst_of_record.Goals as goal

pub returns-in_err-c : goal.returns-in_err-c
unfolding worst_found
returns-in_err-c c =
    let p = err_from_is_err_and c.from_residual.result c.from_residual.ensures.1 in
    let r : read_as (Err c.in_err-c.field-0.0) ≡ reading c.args.bytes.now = c.in_err-c.ensures in
    rw (p.1, p.2, ← r) (unread _ c.in_err-c.field-0.0, refl, λ z. absurd (number-some c.in_err-c.field-0.0.refusal z))

pub returns-in_err-worst : goal.returns-in_err-worst
unfolding worst_found
returns-in_err-worst c =
    let p = err_from_is_err_and c.from_residual-in_err-worst.result c.from_residual-in_err-worst.ensures.1 in
    let r : read_as (Ok c.in_ok-c.c) ≡ reading c.args.bytes.now = c.in_ok-c.ensures in
    rw (p.1, p.2, ← r) (c.in_err-worst.ensures.0, refl, λ _. c.in_err-worst.ensures.1)

pub returns : goal.returns
unfolding worst_found
returns c =
    let r : read_as (Ok c.in_ok-c.c) ≡ reading c.args.bytes.now = c.in_ok-c.ensures in
    rw (← r) (c.in_ok-worst.ensures.0, refl, λ _. c.in_ok-worst.ensures.1)
