-- `console_plan::certify::certify_record` meets its contract.
-- Assumes nothing.
use mathlib.Core.Path.{◌≡◌, refl}
use Rattle.std.proofs.Common.{Ok, Err}
use Rattle.std.proofs.lemmas.Result.{err_from_is_err_and}
use Rattle.layouts.proofs.FaultScan.{number-some}
use Rattle.cluster_record.specs.RecordClusterAnswer.{read_as}
use Rattle.answers.specs.TermsAnswers.{reading}
use Rattle.answers.proofs.Answered.{unread}
use Rattle.console_plan.specs.TermsConsolePlan.{former_in}
use Rattle.console_plan.specs.TermsConsoleCertify.{certified_read}
use Rattle.console_plan.proofs.certify.certify_record.Goals as goal

pub returns-in_err-c : goal.returns-in_err-c
unfolding reading certified_read
returns-in_err-c c =
    let p = err_from_is_err_and c.from_residual.result c.from_residual.ensures.1 in
    let e = c.in_err-c.field-0.0 in
    let r : read_as (Err e) ≡ reading c.args.bytes.now = c.in_err-c.ensures.0 in
    rw (p.1, p.2, ← r) (unread _ e, refl, λ z. absurd (number-some e.refusal z))

pub returns-in_err-prices : goal.returns-in_err-prices
unfolding reading former_in certified_read
returns-in_err-prices c =
    let p = err_from_is_err_and c.from_residual-in_err-prices.result c.from_residual-in_err-prices.ensures.1 in
    let r : read_as (Ok c.in_ok-c.c) ≡ reading c.args.bytes.now = c.in_ok-c.ensures.0 in
    let f : c.read_cluster.new.former ≡ former_in c.args.bytes.now = c.read_cluster.ensures.1 in
    rw (p.1, p.2, ← r, ← f) (c.in_err-prices.ensures.0, refl, λ z. c.in_err-prices.ensures.1)

pub returns : goal.returns
unfolding reading former_in certified_read
returns c =
    let r : read_as (Ok c.in_ok-c.c) ≡ reading c.args.bytes.now = c.in_ok-c.ensures.0 in
    let f : c.read_cluster.new.former ≡ former_in c.args.bytes.now = c.read_cluster.ensures.1 in
    rw (← r, ← f) (c.in_ok-prices.ensures.0, refl, λ z. c.in_ok-prices.ensures.1)
