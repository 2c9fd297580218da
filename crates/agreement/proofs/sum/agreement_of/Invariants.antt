use Prim.Native.Nat.{◌≤◌, ◌*◌}
use mathlib.Core.Path.{◌≡◌}
use Rattle.sets.specs.ModelBits.{mask_bits}
use Rattle.agreement.specs.ModelAgreement.{agreement_in}
use Rattle.agreement.proofs.sum.agreement_of.Given as goal

abbrev pub invariant-loop-p : goal.invariant-loop-p
invariant-loop-p l = record { sum_is : l.sum ≡ agreement_in l.rows l.former l.p; few : l.sum ≤ mask_bits * l.p }
