-- `console_changes::change_read` meets its contract.
-- Assumes nothing.
use borrow.Author.Rules.{rules}
use Prim.Native.Nat.{◌≤◌}
use mathlib.Core.Path.{◌≡◌, ap, sym, ◌∙◌, subst}
use lib.ListN.{length}
use Rattle.std.proofs.lemmas.Result.{err_from_is_err_and}
use Rattle.cluster_record.specs.RecordClusterAnswer.{ReadCluster}
use Rattle.cluster.proofs.Accepting.{few_nodes}
use Rattle.change_fields.specs.RecordChange.{longest_change}
use Rattle.changes.specs.TermsChanges.{Outcome, Made}
use Rattle.changes.specs.TermsUndo.{Owed, Accepts}
use Rattle.changes.proofs.Cases.{number-some}
use Rattle.console_changes.proofs.ChangeAnswers.{reverse-fits, read-fits, unread, made}
use Rattle.console_changes.proofs.change_read.Goals as goal

pub returns-in_err-c : goal.returns-in_err-c
returns-in_err-c c =
    let a = c.args in
    let p = err_from_is_err_and c.from_residual.result c.from_residual.ensures.1 in
    let f = c.in_err-c.field-0.0 in
    let read = c.in_err-c.ensures in
    rw (p.1, p.2) (
      unread a.c.now f _ a.changes.now a.at c.requires read,
      ap (λ (x : ReadCluster). x.byte) read,
      rw c.requires (search rules),
      tt,
      λ z. absurd (number-some f.refusal (ap (λ (x : ReadCluster). x.refusal) read ∙ z)),
    )

pub returns-in-Ok : goal.returns-in-Ok
returns-in-Ok c =
    let a = c.args in
    let s = a.changes.now in
    let d = c.in_ok-c.field-0 in
    let read = c.in_ok-c.ensures in
    let e = c.in-Ok.ensures in
    let bytes : length c.in-Ok.done.reverse.bytes ≡ longest_change = search rules in
    let accepts = sym (ap (λ (o : Outcome). o.refusal) e.0) in (
      made d _ _ _ s a.at read e.0 e.1,
      ap (λ (x : ReadCluster). x.byte) read,
      rw e.1 (few_nodes _ (e.2.accepted accepts).sound),
      subst (λ (o : Outcome). length o.reverse.bytes ≡ longest_change → o.reverse.len ≤ longest_change) (sym e.0) (reverse-fits d s a.at) bytes,
      λ z. subst (λ (x : ReadCluster). Owed x.cluster s a.at) read e.2,
    )

pub returns-in-Err : goal.returns-in-Err
returns-in-Err c =
    let a = c.args in
    let s = a.changes.now in
    let d = c.in_ok-c.field-0 in
    let read = c.in_ok-c.ensures in
    let e = c.in-Err.ensures in
    let refuses = λ (z : Accepts d s a.at). number-some c.in-Err.refusal (ap (λ (o : Outcome). o.refusal) e.0 ∙ z) in
    let kept = e.1 ∙ ap (λ (m : Made). m.cluster) (e.2.refused refuses) in (
      made d _ _ _ s a.at read e.0 e.1,
      ap (λ (x : ReadCluster). x.byte) read,
      rw kept (read-fits a.bytes.now d read),
      tt,
      λ z. subst (λ (x : ReadCluster). Owed x.cluster s a.at) read e.2,
    )
