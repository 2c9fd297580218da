-- `loss::given::loss_of` meets its contract.
-- Assumes nothing.
use mathlib.Core.Path.{◌≡◌, sym, ap, ◌∙◌}
use Rattle.std.proofs.lemmas.Result.{err_from_is_err_and}
use Rattle.layouts.proofs.FaultScan.{number-some}
use Rattle.cluster.specs.TermsRefusal.{number_of}
use Rattle.layouts.specs.TermsCheck.{Checked, fault, check_of}
use Rattle.loss.specs.TermsLossAnswer.{lost_with}
use Rattle.loss.proofs.Owed.{given-answered, given-refused}
use Rattle.loss.proofs.given.loss_of.Goals as goal

pub returns-in_err-check : goal.returns-in_err-check
returns-in_err-check c =
    let a = c.args in
    let p = err_from_is_err_and c.from_residual.result c.from_residual.ensures.1 in
    let r = c.in_err-check.field-0.0 in
    let e : fault (number_of r.refusal) r.place ≡ check_of a.c a.assignment.now 1 = c.in_err-check.ensures in
    rw (p.1, p.2)
    (ap (λ (x : Checked). lost_with x.refusal x.place 0) e
    ∙ sym (given-refused a.c a.assignment.now a.given.now (λ z. number-some r.refusal (ap (λ (x : Checked). x.refusal) e ∙ z))))

pub lost_of-requires : goal.lost_of-requires
lost_of-requires c = sym (ap (λ (x : Checked). x.refusal) c.in_ok-check.ensures)

pub returns : goal.returns
returns c =
    let a = c.args in
    given-answered a.c a.assignment.now a.given.now (sym (ap (λ (x : Checked). x.refusal) c.in_ok-check.ensures)) c.lost_of.result c.lost_of.ensures
