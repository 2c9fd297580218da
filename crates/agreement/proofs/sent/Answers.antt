use native.Mathlib.Omega.{arith}
use mathlib.Core.Path.{◌≡◌, ap}
use Prim.Native.Nat.{ℕ, ◌-◌, ◌*◌, ◌≤◌}
use Rattle.agreement.specs.ModelAgreement.{agreement_in}
use Rattle.agreement.proofs.Sums.{copies_few, shared-is}
use Rattle.agreement.proofs.sent.Goals as goal

pub overflow_mul-result : goal.overflow_mul-result
overflow_mul-result c =
    let few : c.args.replication * c.args.partitions ≤ 2048 = copies_few _ _ c.requires.0 c.requires.1 in
    omega (arith, few)

pub overflow_sub-result : goal.overflow_sub-result
overflow_sub-result c =
    -- The pairs that are counted are those of the definition.
    let shared : c.agreement-shared.result ≡ agreement_in c.args.rows.now c.args.before.now c.args.partitions = shared-is _ _ _ _ c.requires.1 c.requires.3 c.requires.2 c.agreement-shared.ensures in
    omega (arith, shared)

pub returns : goal.returns
returns c =
    let shared : c.agreement-shared.result ≡ agreement_in c.args.rows.now c.args.before.now c.args.partitions = shared-is _ _ _ _ c.requires.1 c.requires.3 c.requires.2 c.agreement-shared.ensures in
    let a = c.args in
    ap (λ (y : ℕ). a.replication * a.partitions - y) shared
