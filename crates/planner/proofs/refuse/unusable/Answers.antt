use native.Mathlib.Omega.{arith}
use mathlib.Core.Path.{◌≡◌, sym, ap, ◌∙◌}
use Rattle.cluster.specs.Terms.{topology, partitions, fault_of}
use Rattle.cluster.proofs.Accepting.{partitions_in_range, accepted}
use Rattle.masks.specs.ModelMasks.{rows_formed}
use Rattle.std.proofs.lemmas.Result.{err_from_is_err_and}
use Rattle.cluster.specs.TermsRefusal.{number_of}
use Rattle.sizing.proofs.Reading.{number-some}
use Rattle.planner.proofs.Refusals.{short_former, short_assignment, short_scratch, faulty, usable, ill_formed_lem}
use Rattle.planner.proofs.refuse.unusable.Goals as goal

pub returns-then-former-lt-CELLS : goal.returns-then-former-lt-CELLS
returns-then-former-lt-CELLS c = short_former _ _ _ _ c.if-former-lt-CELLS.true

pub returns-then-assignment-lt-CELLS : goal.returns-then-assignment-lt-CELLS
returns-then-assignment-lt-CELLS c = short_assignment _ _ _ _ (omega arith) c.if-assignment-lt-CELLS.true

pub returns-then-scratch-lt-SCRATCH : goal.returns-then-scratch-lt-SCRATCH
returns-then-scratch-lt-SCRATCH c = short_scratch _ _ _ _ (omega arith) (omega arith) c.if-scratch-lt-SCRATCH.true

pub returns-in_err-accept : goal.returns-in_err-accept
returns-in_err-accept c =
    let p = err_from_is_err_and c.from_residual.result c.from_residual.ensures.1 in
    let r = c.in_err-accept.field-0.0 in
    let e : number_of r ≡ fault_of c.args.c = c.in_err-accept.ensures in
    rw (p.1, p.2) (e ∙ faulty _ _ _ _ (omega arith) (omega arith) (omega arith) (λ q. number-some r (e ∙ q)))

pub returns-then-rows_formed : goal.returns-then-rows_formed
returns-then-rows_formed c =
    -- Past the test the cluster has no fault.
    let faultless : fault_of c.args.c ≡ 0 = sym c.in_ok-accept.ensures in
    -- The test of the rows is the one of the definition.
    let rows_told : c.rows_formed.result ≡ rows_formed c.args.former.now (partitions (topology c.args.c)) = (c.rows_formed.ensures
    ∙ ap (rows_formed _) (c.partitions.ensures.0 ∙ partitions_in_range _ (accepted _ faultless).bits)) in
    usable _ _ _ _ (omega arith) (omega arith) (omega arith) faultless (sym rows_told ∙ c.if-rows_formed.true)

pub returns-else-rows_formed : goal.returns-else-rows_formed
returns-else-rows_formed c =
    let faultless : fault_of c.args.c ≡ 0 = sym c.in_ok-accept.ensures in
    let rows_told : c.rows_formed.result ≡ rows_formed c.args.former.now (partitions (topology c.args.c)) = (c.rows_formed.ensures
    ∙ ap (rows_formed _) (c.partitions.ensures.0 ∙ partitions_in_range _ (accepted _ faultless).bits)) in
    ill_formed_lem _ _ _ _ (omega arith) (omega arith) (omega arith) faultless (sym rows_told ∙ c.if-rows_formed.false)
