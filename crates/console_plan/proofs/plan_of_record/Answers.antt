-- `console_plan::plan_of_record` meets its contract.
-- Assumes nothing.
use mathlib.Core.Path.{◌≡◌, refl}
use Rattle.std.proofs.Common.{Ok, Err}
use Rattle.std.proofs.lemmas.Result.{err_from_is_err_and}
use Rattle.layouts.proofs.FaultScan.{number-some}
use Rattle.cluster_record.specs.RecordClusterAnswer.{read_as}
use Rattle.answers.specs.TermsAnswers.{reading}
use Rattle.answers.proofs.Answered.{unread}
use Rattle.console_plan.specs.TermsConsolePlan.{former_in, planned, planned_assignment, planned_scratch}
use Rattle.console_plan.proofs.plan_of_record.Goals as goal

pub returns-in_err-c : goal.returns-in_err-c
unfolding reading planned planned_assignment planned_scratch
returns-in_err-c c =
    let p = err_from_is_err_and c.from_residual.result c.from_residual.ensures.1 in
    let e = c.in_err-c.field-0.0 in
    let r : read_as (Err e) ≡ reading c.args.bytes.now = c.in_err-c.ensures.0 in
    rw (p.1, p.2, ← r) (unread _ e, refl, unread _ e, unread _ e, λ z. absurd (number-some e.refusal z))

pub returns-in-Ok : goal.returns-in-Ok
unfolding reading former_in planned planned_assignment planned_scratch
returns-in-Ok c =
    let r : read_as (Ok c.in_ok-c.c) ≡ reading c.args.bytes.now = c.in_ok-c.ensures.0 in
    let f : c.read_cluster.new.former ≡ former_in c.args.bytes.now = c.read_cluster.ensures.1 in
    let e = c.in-Ok.ensures in
    rw (← r, ← f) (e.0, refl, e.1, e.2, λ z. e.3)

pub returns-in-Err : goal.returns-in-Err
unfolding reading former_in planned planned_assignment planned_scratch
returns-in-Err c =
    let r : read_as (Ok c.in_ok-c.c) ≡ reading c.args.bytes.now = c.in_ok-c.ensures.0 in
    let f : c.read_cluster.new.former ≡ former_in c.args.bytes.now = c.read_cluster.ensures.1 in
    let e = c.in-Err.ensures in
    rw (← r, ← f) (e.0, refl, e.1, e.2, λ z. e.3)
