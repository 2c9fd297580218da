-- A cluster that planning does not refuse has its bits in range.
-- Assumes nothing.
use Prim.Native.Nat.{ℕ, ◌≤◌}
use mathlib.Core.Path.{◌≡◌, refl, sym, ap, ◌∙◌}
use mathlib.Core.Bool.{Bool, true, false, cond}
use mathlib.Core.List.{List}
use lib.Dec.{eqb}
use borrow.Author.Tests.{eqb-true}
use Rattle.cluster.specs.declared.Cluster.{Cluster}
use Rattle.cluster.proofs.Accepting.{accepted}
use Rattle.planner.specs.TermsPlan.{Planned, plan_refusal, planned_of}
use Rattle.planner.proofs.Refusals.{usable-has}

-- What is 0, or else stands in another's place, is 0 where that is.
zero_then : {A : Type 0} (f : A → ℕ) (n : ℕ) (x y : A) → (f y ≡ 0 → n ≡ 0) → f (cond (eqb n 0) x y) ≡ 0 → n ≡ 0
zero_then {A} f n x y h = go (eqb n 0) refl
  where
    go : (b : Bool) → eqb n 0 ≡ b → f (cond b x y) ≡ 0 → n ≡ 0
    go true q e = eqb-true n 0 q
    go false q e = h e

pub planned-bits : (c : Cluster) (former : List ℕ) (allowance a s : ℕ) (p : Planned) → p ≡ planned_of c former allowance a s → p.refusal ≡ 0 → c.bits ≤ 8
unfolding planned_of plan_refusal
planned-bits c former allowance a s p e z =
    let r = zero_then (λ (q : Planned). q.refusal) (plan_refusal c former a s) _ _ (λ q. q) (sym (ap (λ (q : Planned). q.refusal) e) ∙ z) in
    (accepted c (usable-has c former a s (zero_then (λ n. n) _ _ _ (λ q. q) r)).faultless).bits
