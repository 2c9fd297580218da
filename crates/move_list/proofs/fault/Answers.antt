-- `move_list::fault` meets its contract.
-- Assumes nothing.
use borrow.Author.Rules.{rules}
use Prim.Native.Nat.{ℕ, ◌^◌, ◌≤◌, min}
use mathlib.Core.Path.{◌≡◌, sym, ap, ◌∙◌}
use mathlib.Core.Bool.{Bool, cond, true, false}
use mathlib.Core.List.{List}
use lib.ListN.{length}
use Rattle.sums.specs.TermsSums.{every_to}
use Rattle.cluster.specs.Terms.{most_bits, wide_row_cells, wide_cells, topology, row_of, formed}
use Rattle.cluster.specs.declared.Cluster.{Cluster}
use Rattle.cluster.proofs.Accepting.{partitions_in_range, accepted}
use Rattle.std.proofs.lemmas.Result.{err_from_is_err_and}
use Rattle.layouts.proofs.FaultScan.{number-some}
use Rattle.cluster.specs.TermsRefusal.{number_of}
use Rattle.layouts.specs.TermsCheck.{Checked, fault, check_of}
use Rattle.layouts.proofs.CheckMeaning.{passed_valid}
use Rattle.move_list.specs.TermsMoveList.{former_fault, moves_fault}
use Rattle.move_list.proofs.MovesOrder.{former_formed, order_short, order-check, order-former}
use Rattle.move_list.proofs.fault.Goals as goal

-- Past the tests: check has passed, and the first P former rows are tested.
module _ (c : Cluster) (former assignment : List ℕ) (passed : (check_of c assignment 1).refusal ≡ 0) (n : ℕ) (all : n ≡ 2 ^ min c.bits most_bits) (formed-rows : Bool)
    (test : formed-rows ≡ every_to n (λ p. formed (row_of wide_row_cells former p))) where
  -- The test was of the first P former rows.
  tested : formed-rows ≡ former_formed (topology c) former
  tested =
      test
      ∙ ap (λ (k : ℕ). every_to k (λ p. formed (row_of wide_row_cells former p)))
      (all ∙ partitions_in_range c.bits (accepted c (passed_valid c assignment 1 passed).accepted_cluster).bits)

  -- So their fault is what is answered.
  answered : (b : Bool) → wide_cells ≤ length former → formed-rows ≡ b → moves_fault c former assignment ≡ fault (cond b 0 5) 0
  unfolding former_fault
  answered b whole e = order-former c former assignment whole passed ∙ ap (λ (t : Bool). fault (cond t 0 5) 0) (sym tested ∙ e)

pub returns-then-former-lt-WIDE_CELLS : goal.returns-then-former-lt-WIDE_CELLS
returns-then-former-lt-WIDE_CELLS c =
    let a = c.args in
    rw c.into.ensures (sym (order_short a.c a.former.now a.assignment.now (search rules)))

pub returns-in_err-check : goal.returns-in_err-check
returns-in_err-check c =
    let a = c.args in
    let p = err_from_is_err_and c.from_residual.result c.from_residual.ensures.1 in
    let r = c.in_err-check.field-0.0 in
    let e : fault (number_of r.refusal) r.place ≡ check_of a.c a.assignment.now 1 = c.in_err-check.ensures in
    rw (p.1, p.2) (e ∙ sym (order-check a.c a.former.now a.assignment.now (search rules) (λ z. number-some r.refusal (ap (λ (k : Checked). k.refusal) e ∙ z))))

-- Check has passed.
none : (c : Cluster) (assignment : List ℕ) → fault 0 0 ≡ check_of c assignment 1 → (check_of c assignment 1).refusal ≡ 0
none c assignment e = ap (λ (r : Checked). r.refusal) (sym e)

pub returns-then-not-rows_formed : goal.returns-then-not-rows_formed
returns-then-not-rows_formed c =
    let a = c.args in
    rw c.into-then-not-rows_formed.ensures
    (sym (answered a.c a.former.now a.assignment.now (none a.c a.assignment.now c.in_ok-check.ensures) c.partitions.result c.partitions.ensures.0 c.rows_formed.result c.rows_formed.ensures false (search rules) c.if-not-rows_formed.true))

pub returns : goal.returns
returns c =
    let a = c.args in
    sym (answered a.c a.former.now a.assignment.now (none a.c a.assignment.now c.in_ok-check.ensures) c.partitions.result c.partitions.ensures.0 c.rows_formed.result c.rows_formed.ensures true (search rules) c.if-not-rows_formed.false)
