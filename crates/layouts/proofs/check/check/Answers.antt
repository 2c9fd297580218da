-- `layouts::check::check` meets its contract.
-- Assumes nothing.
use borrow.Author.Rules.{rules}
use Prim.Native.Nat.{ℕ}
use mathlib.Core.Path.{◌≡◌, sym, ap, ◌∙◌}
use Rattle.std.proofs.lemmas.Result.{err_from_is_err_and}
use Rattle.layouts.proofs.FaultScan.{number-some}
use Rattle.cluster.specs.TermsRefusal.{number_of}
use Rattle.layouts.specs.TermsCheck.{Checked, fault, cluster_fault}
use Rattle.layouts.proofs.CheckOrder.{sound, order_short, order-cluster, order-rows, order-nodes}
use Rattle.layouts.proofs.check.check.Goals as goal

pub returns-then-assignment-lt-CELLS : goal.returns-then-assignment-lt-CELLS
returns-then-assignment-lt-CELLS c = let a = c.args in
    rw c.into.ensures (sym (order_short a.c a.assignment.now a.size (search rules)))

pub returns-in_err-cluster_fault : goal.returns-in_err-cluster_fault
returns-in_err-cluster_fault c = let a = c.args in
    let p = err_from_is_err_and c.from_residual.result c.from_residual.ensures.1 in
    let r = c.in_err-cluster_fault.field-0.0 in
    let e : number_of r ≡ cluster_fault a.c a.size = c.in_err-cluster_fault.ensures in
    rw (p.1, p.2)
    (ap (λ (n : ℕ). fault n 0) e ∙ sym (order-cluster a.c a.assignment.now a.size (search rules) (λ z. number-some r (e ∙ z))))

pub rows_fault-requires : goal.rows_fault-requires
rows_fault-requires c = let a = c.args in
    ((sound a.c a.size (sym (c.in_ok-cluster_fault.ensures))).0, search rules)

pub returns-in_err-rows_fault : goal.returns-in_err-rows_fault
returns-in_err-rows_fault c = let a = c.args in
    let p = err_from_is_err_and c.from_residual-in_err-rows_fault.result c.from_residual-in_err-rows_fault.ensures.1 in
    let r = c.in_err-rows_fault.field-0.0 in
    let e = c.in_err-rows_fault.ensures in
    rw (p.1, p.2)
    (e ∙ sym (order-rows a.c a.assignment.now a.size (search rules) (sym (c.in_ok-cluster_fault.ensures)) (λ z. number-some r.refusal (ap (λ (k : Checked). k.refusal) e ∙ z))))

pub nodes_fault-requires : goal.nodes_fault-requires
nodes_fault-requires c = let a = c.args in
    ((sound a.c a.size (sym (c.in_ok-cluster_fault.ensures))).0, search rules, sym (ap (λ (r : Checked). r.refusal) (c.in_ok-rows_fault.ensures)))

pub returns : goal.returns
returns c = let a = c.args in
    c.nodes_fault.ensures
    ∙ sym
    (order-nodes a.c a.assignment.now a.size (search rules) (sym (c.in_ok-cluster_fault.ensures))
    (sym (ap (λ (r : Checked). r.refusal) (c.in_ok-rows_fault.ensures))))
