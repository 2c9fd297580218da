-- `move_list::count` meets its contract.
-- Assumes nothing.
use mathlib.Core.Path.{◌≡◌, sym, ap, ◌∙◌}
use Rattle.std.proofs.lemmas.Result.{err_from_is_err_and}
use Rattle.layouts.proofs.FaultScan.{number-some}
use Rattle.cluster.specs.TermsRefusal.{number_of}
use Rattle.layouts.specs.TermsCheck.{Checked, fault}
use Rattle.move_list.specs.TermsMoveList.{moves_fault, listed}
use Rattle.move_list.proofs.MovesOrder.{count-refused, count-made}
use Rattle.move_list.proofs.Owed.{owed}
use Rattle.move_list.proofs.count.Goals as goal

pub returns-in_err-fault : goal.returns-in_err-fault
returns-in_err-fault c =
    let a = c.args in
    let p = err_from_is_err_and c.from_residual.result c.from_residual.ensures.1 in
    let r = c.in_err-fault.field-0.0 in
    let e : fault (number_of r.refusal) r.place ≡ moves_fault a.c a.former.now a.assignment.now = c.in_err-fault.ensures in
    rw (p.1, p.2) (
      ap (λ (x : Checked). listed x.refusal x.place 0) e
          ∙ sym (count-refused a.c a.former.now a.assignment.now (λ z. number-some r.refusal (ap (λ (x : Checked). x.refusal) e ∙ z))),
      tt,
    )

pub count_steps-requires : goal.count_steps-requires
count_steps-requires c = sym (ap (λ (x : Checked). x.refusal) c.in_ok-fault.ensures)

pub returns : goal.returns
returns c =
    let a = c.args in
    -- Past the test there is no fault.
    let none : (moves_fault a.c a.former.now a.assignment.now).refusal ≡ 0 = sym (ap (λ (x : Checked). x.refusal) c.in_ok-fault.ensures) in
    (ap (listed 0 0) c.count_steps.ensures ∙ sym (count-made a.c a.former.now a.assignment.now none), owed a.c a.former.now a.assignment.now none)
