-- `certificate::fault` meets its contract.
-- Assumes nothing.
use borrow.Author.Rules.{rules}
use native.Mathlib.Omega.{arith}
use mathlib.Core.Path.{◌≡◌, sym, ap, ◌∙◌}
use mathlib.Core.Bool.{Bool, true, false, cond}
use Rattle.cluster.specs.Terms.{most_bits, layout_cells, topology, fault_of}
use Rattle.cluster.proofs.Accepting.{partitions_in_range, accepted}
use Prim.Native.Nat.{ℕ, ◌^◌, ◌≤◌, min}
use mathlib.Core.List.{List}
use lib.ListN.{length}
use Rattle.std.proofs.lemmas.Result.{err_from_is_err_and}
use Rattle.cluster.specs.declared.Cluster.{Cluster}
use Rattle.cluster.specs.TermsRefusal.{number_of}
use Rattle.layouts.proofs.FaultScan.{number-some}
use Rattle.layouts.specs.TermsCheck.{Checked, fault, check_of}
use Rattle.layouts.proofs.CheckMeaning.{passed_valid}
use Rattle.masks.specs.ModelMasks.{rows_formed}
use Rattle.planner.proofs.Refusals.{former_same}
use Rattle.certificate.specs.TermsCertify.{former_fault, certify_fault}
use Rattle.certificate.proofs.Owing.{former_formed, order_short, order-check, order-former}
use Rattle.certificate.proofs.fault.Goals as goal

pub returns-then-former-lt-CELLS : goal.returns-then-former-lt-CELLS
returns-then-former-lt-CELLS c =
    let a = c.args in
    rw c.into.ensures (sym (order_short a.c a.former.now a.assignment.now a.size (search rules)))

pub returns-in_err-check : goal.returns-in_err-check
returns-in_err-check c =
    let a = c.args in
    let p = err_from_is_err_and c.from_residual.result c.from_residual.ensures.1 in
    let r = c.in_err-check.field-0.0 in
    let e : fault (number_of r.refusal) r.place ≡ check_of a.c a.assignment.now a.size = c.in_err-check.ensures in
    rw (p.1, p.2)
    (e ∙ sym (order-check a.c a.former.now a.assignment.now a.size (search rules) (λ z. number-some r.refusal (ap (λ (k : Checked). k.refusal) e ∙ z))))

-- Past the tests: check has passed, and the test was of the first P former rows, so their fault is what is answered.
answered : (c : Cluster) (former assignment : List ℕ) (size : ℕ) → fault 0 0 ≡ check_of c assignment size → layout_cells ≤ length former
    → (n : ℕ) → n ≡ 2 ^ min c.bits most_bits → (b : Bool) → rows_formed former n ≡ b → certify_fault c former assignment size ≡ fault (cond b 0 5) 0
unfolding former_fault
answered c former assignment size e whole n all b test =
    let passed : (check_of c assignment size).refusal ≡ 0 = ap (λ (r : Checked). r.refusal) (sym e) in
    let sound : fault_of c ≡ 0 = (passed_valid c assignment size passed).accepted_cluster in
    let tested : former_formed (topology c) former ≡ b =
    former_same c former whole sound ∙ (ap (rows_formed former) (sym (all ∙ partitions_in_range c.bits (accepted c sound).bits)) ∙ test) in
    order-former c former assignment size whole passed ∙ ap (λ (t : Bool). fault (cond t 0 5) 0) tested

pub returns-then-not-rows_formed : goal.returns-then-not-rows_formed
returns-then-not-rows_formed c =
    let a = c.args in
    rw c.into-then-not-rows_formed.ensures
    (sym (answered a.c a.former.now a.assignment.now a.size c.in_ok-check.ensures (omega arith) c.partitions.result c.partitions.ensures.0 false
    (sym c.rows_formed.ensures ∙ c.if-not-rows_formed.true)))

pub returns : goal.returns
returns c =
    let a = c.args in
    sym (answered a.c a.former.now a.assignment.now a.size c.in_ok-check.ensures (omega arith) c.partitions.result c.partitions.ensures.0 true
    (sym c.rows_formed.ensures ∙ c.if-not-rows_formed.false))
