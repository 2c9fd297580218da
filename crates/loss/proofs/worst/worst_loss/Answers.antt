-- `loss::worst::worst_loss` meets its contract.
-- Assumes nothing.
use mathlib.Core.Path.{◌≡◌, sym, ap, ◌∙◌, subst}
use mathlib.Core.List.{List, []}
use lib.ListN.{length}
use Rattle.cells.proofs.Cells.{length_of_map}
use Rattle.cluster.specs.Terms.{most_nodes}
use Rattle.std.proofs.lemmas.Result.{err_from_is_err_and}
use Rattle.layouts.proofs.FaultScan.{number-some}
use Rattle.cluster.specs.TermsRefusal.{number_of}
use Rattle.layouts.specs.TermsCheck.{Checked, fault}
use Rattle.loss.specs.TermsLossAnswer.{Loss, loss_fault, loss, worst_loss, LossOwed}
use Rattle.cluster.specs.declared.Cluster.{Cluster}
use Prim.Native.Nat.{ℕ}
use Rattle.loss.proofs.Owed.{refused, fits, loss_owed, nodes-shown}
use Rattle.loss.proofs.worst.worst_loss.Goals as goal

-- What the definition owes is owed by the answer that is equal to it.
owed : (c : Cluster) (cells : List ℕ) (number : ℕ) → length c.nodes ≡ most_nodes → (r : Loss) → r ≡ worst_loss c cells number
    → (r ≡ worst_loss c cells number) × LossOwed c cells number r
owed c cells number long r e = (e, subst (LossOwed c cells number) (sym e) (loss_owed c cells number long))

pub returns-in_err-fault : goal.returns-in_err-fault
returns-in_err-fault c =
    let a = c.args in
    let long : length a.c.nodes ≡ most_nodes = search length_of_map in
    let p = err_from_is_err_and c.from_residual.result c.from_residual.ensures.1 in
    let r = c.in_err-fault.field-0.0 in
    let e : fault (number_of r.refusal) r.place ≡ loss_fault a.c a.assignment.now a.number = c.in_err-fault.ensures in
    rw (p.1, p.2)
    (owed a.c a.assignment.now a.number long _
    (ap (λ (x : Checked). loss x.refusal x.place 0 []) e
    ∙ sym (refused a.c a.assignment.now a.number (λ z. number-some r.refusal (ap (λ (x : Checked). x.refusal) e ∙ z)))))

pub worst_of-found-requires : goal.worst_of-found-requires
worst_of-found-requires c = sym (ap (λ (x : Checked). x.refusal) c.in_ok-fault.ensures)

pub returns : goal.returns
returns c =
    let a = c.args in
    let long : length a.c.nodes ≡ most_nodes = search length_of_map in
    -- Past the test there is no fault.
    let none : (loss_fault a.c a.assignment.now a.number).refusal ≡ 0 = sym (ap (λ (x : Checked). x.refusal) c.in_ok-fault.ensures) in
    let w = c.worst_of-found in
    owed a.c a.assignment.now a.number long _
    (nodes-shown a.c a.assignment.now a.number (fits a.c a.assignment.now a.number long none) none w.result.lost c.ids_of_set-nodes.result
    w.result.set w.ensures.0 c.ids_of_set-nodes.ensures w.ensures.1)
