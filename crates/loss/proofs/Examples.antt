-- The table of worst losses holds.
-- Assumes nothing.
use Prim.Native.Nat.{ℕ, ◌≤◌}
use mathlib.Core.Path.{◌≡◌, refl, subst}
use mathlib.Core.Bool.{true}
use mathlib.Core.List.{List}
use native.Mathlib.Omega.{arith}
use lib.ListN.{length}
use Rattle.sums.specs.TermsSums.{one_if}
use Rattle.cluster.specs.Terms.{Topology, ids_of, mem, rising, rising_from, only_in, Layout}
use Rattle.loss.specs.TermsLoss.{loss_of, IsWorst, sets_of, costlier, costliest, worst_set}
use Rattle.loss.specs.TermsLossExamples.{LossTable}
use Rattle.loss.proofs.Costliest.{worst-is}

-- The set of the definition, which is the worst, with its loss.
shown : (t : Topology) (L : Layout) (n lost : ℕ) (X : List ℕ) → rising (ids_of t.nodes) ≡ true → n ≤ length (ids_of t.nodes)
    → worst_set t L n ≡ X → loss_of L X ≡ lost → IsWorst t L n lost X
shown t L n lost X ids few e q =
    subst (λ (k : ℕ). IsWorst t L n k X) q
    (subst (λ (Y : List ℕ). IsWorst t L n (loss_of L Y) Y) e (worst-is t L n ids few))

pub loss-table : LossTable
unfolding loss_of worst_set costliest costlier sets_of only_in mem ids_of one_if rising_from
loss-table = (
  shown _ _ 0 0 _ refl (omega arith) refl refl,
  (
    shown _ _ 2 0 _ refl (omega arith) refl refl,
    (
      shown _ _ 3 2 _ refl (omega arith) refl refl,
      (
        shown _ _ 1 1 _ refl (omega arith) refl refl,
        (
          shown _ _ 2 2 _ refl (omega arith) refl refl,
          tt,
        ),
      ),
    ),
  ),
)
