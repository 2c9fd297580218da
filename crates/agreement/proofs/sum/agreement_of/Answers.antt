use borrow.Author.Rules.{rules}
use native.Mathlib.Omega.{arith}
use mathlib.Core.Path.{refl}
use Rattle.sums.specs.TermsSums.{sum_to}
use Rattle.agreement.specs.ModelAgreement.{agreement_in}
use Rattle.agreement.proofs.Sums.{agreement-more, few_shared}
use Rattle.agreement.proofs.sum.agreement_of.Goals as goal

pub loop-p-init : goal.loop-p-init
loop-p-init c = record { sum_is = unfold agreement_in sum_to in refl; few = search rules }

pub overflow_add-sum : goal.overflow_add-sum
overflow_add-sum c = omega (arith, few_shared _ _ _ _ c.count-sum.ensures c.meet.ensures)

pub loop-p-preserved : goal.loop-p-preserved
loop-p-preserved c =
    let k = c.loop-p in
    record {
      sum_is = agreement-more _ _ k.p _ _ _ k.invariant.sum_is c.count-sum.ensures c.meet.ensures;
      few = omega (arith, few_shared _ _ _ _ c.count-sum.ensures c.meet.ensures);
    }
