-- The order of rows and of layouts: of two at most one comes before the other, so that there is one first layout.
-- Assumes nothing.
use Prim.Native.Nat.{ℕ}
use mathlib.Core.Path.{◌≡◌, sym, subst}
use mathlib.Core.List.{List, [], ◌∷◌}
use mathlib.Core.Logic.{inl, inr, ⊎_elim}
use native.Mathlib.Omega.{arith}
use Rattle.cluster.specs.Terms.{Topology, Layout}
use Rattle.cluster.specs.TermsFirst.{RowBefore, Before, First}

-- Of two rows at most one comes before the other.
pub row-once : (r q : List ℕ) → RowBefore r q → RowBefore q r → ⊥
unfolding RowBefore
row-once [] q h k = h
row-once (x ∷ xs) [] h k = h
row-once (x ∷ xs) (y ∷ ys) (inl h) (inl k) = omega arith
row-once (x ∷ xs) (y ∷ ys) (inl h) (inr k) = omega (arith, k.0)
row-once (x ∷ xs) (y ∷ ys) (inr h) (inl k) = omega (arith, h.0)
row-once (x ∷ xs) (y ∷ ys) (inr h) (inr k) = row-once xs ys h.1 k.1

-- A row does not come before itself.
pub row_other : (r q : List ℕ) → RowBefore r q → r ≡ q → ⊥
row_other r q h e = row-once r q h (subst (λ (x : List ℕ). RowBefore x r) e (subst (λ (x : List ℕ). RowBefore r x) (sym e) h))

-- Of two layouts at most one comes before the other.
pub once : (L M : Layout) → Before L M → Before M L → ⊥
unfolding Before
once [] M h k = h
once (r ∷ rs) [] h k = h
once (r ∷ rs) (q ∷ qs) (inl h) (inl k) = row-once r q h k
once (r ∷ rs) (q ∷ qs) (inl h) (inr k) = row_other r q h (sym k.0)
once (r ∷ rs) (q ∷ qs) (inr h) (inl k) = row_other q r k (sym h.0)
once (r ∷ rs) (q ∷ qs) (inr h) (inr k) = once rs qs h.1 k.1

-- "Always the same layout among equals": there is one first layout.
pub one-first : (t : Topology) (F : Layout) (s : ℕ) (L M : Layout) → First t F s L → First t F s M → L ≡ M
one-first t F s L M f h =
    ⊎_elim (λ e. e)
    (λ u. ⊎_elim (λ e. sym e) (λ v. absurd (once L M u v)) (h.first L f.valid (omega (arith, f.nearest M h.valid, h.nearest L f.valid))))
    (f.first M h.valid (omega (arith, f.nearest M h.valid, h.nearest L f.valid)))
