-- Whether an id is among given ones.
-- Assumes nothing.
use Prim.Native.Nat.{ℕ}
use mathlib.Core.Path.{◌≡◌, refl, sym, ap, ◌∙◌}
use mathlib.Core.Bool.{Bool, ◌||◌}
use mathlib.Core.List.{List}
use mathlib.Core.Logic.{⊎_elim}
use lib.Dec.{eqb}
use borrow.Author.Tests.{eq-eqb, ne_eqb}
use Rattle.sums.proofs.Sum.{eq_or_ne}
use Rattle.std.specs.List.{list_any}
use Rattle.std.proofs.lemmas.List.Recursion.{same_from_clauses}
use Rattle.cluster.specs.Terms.{mem}

either_way : (a b : ℕ) → eqb a b ≡ eqb b a
either_way a b =
    ⊎_elim (λ e. eq-eqb a b e ∙ sym (eq-eqb b a (sym e))) (λ d. ne_eqb a b d ∙ sym (ne_eqb b a (λ e. d (sym e)))) (eq_or_ne a b)

-- What the library's look answers is whether the id is a member.
pub among : (ids : List ℕ) (id : ℕ) → list_any (λ x. eqb x id) ids ≡ mem id ids
unfolding mem
among ids id =
    same_from_clauses (list_any (λ x. eqb x id)) (mem id) (λ x b. eqb x id || b) refl (λ x xs. refl)
    (λ x xs. ap (λ (b : Bool). b || mem id xs) (either_way id x)) ids
