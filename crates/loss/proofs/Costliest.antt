-- The set that is kept costs the most, and is the first that does.
-- Assumes nothing.
use Prim.Native.Nat.{ℕ, ◌≤◌, ◌<◌}
use mathlib.Core.Path.{◌≡◌, refl, sym, ap, ◌∙◌, subst}
use mathlib.Core.Logic.{◌⊎◌, inl, inr, ⊎_elim}
use mathlib.Core.Bool.{true}
use mathlib.Core.List.{List, [], ◌∷◌, ◌++◌}
use native.Mathlib.Omega.{arith}
use lib.ListN.{length, take}
use borrow.Author.Tests.{lt-ltb, le-ltb}
use Rattle.sums.proofs.Sum.{lt_or_ge}
use Rattle.cluster.specs.Terms.{Topology, ids_of, rising, Layout}
use Rattle.cluster.specs.TermsFirst.{RowBefore}
use Rattle.cluster.proofs.Ordering.{row-once}
use Rattle.loss.specs.TermsLoss.{loss_of, Chosen, IsWorst, sets_of, costlier, costliest, worst_set}
use Rattle.loss.proofs.Sets.{In, Ordered, sets-part, part-sets, sets_ordered, sets_first}

module _ (L : Layout) where
  pub more : (X Y : List ℕ) → loss_of L X < loss_of L Y → costlier L X Y ≡ Y
  unfolding costlier
  more X Y h = rw (lt-ltb (loss_of L X) (loss_of L Y) h)

  pub no_more : (X Y : List ℕ) → loss_of L Y ≤ loss_of L X → costlier L X Y ≡ X
  unfolding costlier
  no_more X Y h = rw (le-ltb (loss_of L X) (loss_of L Y) h)

  -- The sets before, then those after.
  pub kept-join : (X : List ℕ) (Ys Zs : List (List ℕ)) → costliest L X (Ys ++ Zs) ≡ costliest L (costliest L X Ys) Zs
  unfolding costliest
  kept-join X [] Zs = refl
  kept-join X (Y ∷ Ys) Zs = kept-join (costlier L X Y) Ys Zs

  kept_more : (X Y : List ℕ) (Ys : List (List ℕ)) → loss_of L X < loss_of L Y → costliest L X (Y ∷ Ys) ≡ costliest L Y Ys
  unfolding costliest
  kept_more X Y Ys h = ap (λ (Z : List ℕ). costliest L Z Ys) (more X Y h)

  kept_on : (X Y : List ℕ) (Ys : List (List ℕ)) → loss_of L Y ≤ loss_of L X → costliest L X (Y ∷ Ys) ≡ costliest L X Ys
  unfolding costliest
  kept_on X Y Ys h = ap (λ (Z : List ℕ). costliest L Z Ys) (no_more X Y h)

  -- The set that is kept is one of them,
  pub kept_in : (X : List ℕ) (Ys : List (List ℕ)) → In (costliest L X Ys) (X ∷ Ys)
  unfolding In costliest
  kept_in X [] = inl refl
  kept_in X (Y ∷ Ys) =
      ⊎_elim
      (λ l. inr (subst (λ (Z : List ℕ). In Z (Y ∷ Ys)) (sym (kept_more X Y Ys l)) (kept_in Y Ys)))
      (λ g. subst (λ (Z : List ℕ). In Z (X ∷ Y ∷ Ys)) (sym (kept_on X Y Ys g)) (⊎_elim (λ e. inl e) (λ m. inr (inr m)) (kept_in X Ys)))
      (lt_or_ge (loss_of L X) (loss_of L Y))

  -- and none costs more.
  pub kept-most : (X : List ℕ) (Ys : List (List ℕ)) (Y : List ℕ) → In Y (X ∷ Ys) → loss_of L Y ≤ loss_of L (costliest L X Ys)
  unfolding In costliest
  kept-most X [] Y (inl e) = omega (arith, ap (loss_of L) e)
  kept-most X [] Y (inr h) = absurd h
  kept-most X (Z ∷ Zs) Y m =
      ⊎_elim
      (λ l. let c = ap (loss_of L) (kept_more X Z Zs l) in
      ⊎_elim (λ e. omega (arith, c, ap (loss_of L) e, kept-most Z Zs Z (inl refl))) (λ h. omega (arith, c, kept-most Z Zs Y h)) m)
      (λ g. let c = ap (loss_of L) (kept_on X Z Zs g) in
      ⊎_elim (λ e. omega (arith, c, ap (loss_of L) e, kept-most X Zs X (inl refl)))
      (λ h. ⊎_elim (λ e. omega (arith, c, ap (loss_of L) e, kept-most X Zs X (inl refl))) (λ k. omega (arith, c, kept-most X Zs Y (inr k))) h) m)
      (lt_or_ge (loss_of L X) (loss_of L Z))

  -- A set is replaced only by one that costs more.
  pub kept_same : (X : List ℕ) (Ys : List (List ℕ)) → loss_of L (costliest L X Ys) ≤ loss_of L X → costliest L X Ys ≡ X
  unfolding In costliest
  kept_same X [] h = refl
  kept_same X (Y ∷ Ys) h =
      ⊎_elim (λ l. absurd (omega (arith, ap (loss_of L) (kept_more X Y Ys l), kept-most Y Ys Y (inl refl))))
      (λ g. kept_on X Y Ys g ∙ kept_same X Ys (omega (arith, ap (loss_of L) (kept_on X Y Ys g))))
      (lt_or_ge (loss_of L X) (loss_of L Y))

  -- Of those that cost as much it is the first.
  pub kept-first : (X : List ℕ) (Ys : List (List ℕ)) (Y : List ℕ) → Ordered (X ∷ Ys) → In Y (X ∷ Ys) → loss_of L Y ≡ loss_of L (costliest L X Ys)
      → (costliest L X Ys ≡ Y) ⊎ RowBefore (costliest L X Ys) Y
  unfolding In Ordered costliest
  kept-first X [] Y o (inl e) s = inl (sym e)
  kept-first X [] Y o (inr h) s = absurd h
  kept-first X (Z ∷ Zs) Y o m s =
      ⊎_elim
      (λ l. let c = kept_more X Z Zs l in
      subst (λ (W : List ℕ). (W ≡ Y) ⊎ RowBefore W Y) (sym c)
      (⊎_elim (λ e. absurd (omega (arith, s, ap (loss_of L) c, ap (loss_of L) e, kept-most Z Zs Z (inl refl))))
      (λ h. kept-first Z Zs Y o.1 h (s ∙ ap (loss_of L) c)) m))
      (λ g. let c = kept_on X Z Zs g in
      let rest : Ordered (X ∷ Zs) = (λ A k. o.0 A (inr k), o.1.1) in
      subst (λ (W : List ℕ). (W ≡ Y) ⊎ RowBefore W Y) (sym c)
      (⊎_elim (λ e. kept-first X Zs Y rest (inl e) (s ∙ ap (loss_of L) c))
      (λ h. ⊎_elim
      (λ e. inr (subst (λ (W : List ℕ). RowBefore W Y)
      (sym (kept_same X Zs (omega (arith, s, ap (loss_of L) c, ap (loss_of L) e)))) (subst (λ (A : List ℕ). RowBefore X A) (sym e) (o.0 Z (inl refl)))))
      (λ k. kept-first X Zs Y rest (inr k) (s ∙ ap (loss_of L) c)) h) m))
      (lt_or_ge (loss_of L X) (loss_of L Z))

module _ (t : Topology) (L : Layout) (n : ℕ) (ids : rising (ids_of t.nodes) ≡ true) (few : n ≤ length (ids_of t.nodes)) where
  chosen_in : (Y : List ℕ) → Chosen t n Y → In Y (sets_of n (ids_of t.nodes))
  chosen_in Y h = part-sets 0 n (ids_of t.nodes) Y ids (record { rises = h.ids; many = h.many; inside = h.known })

  in_chosen : (Y : List ℕ) → In Y (sets_of n (ids_of t.nodes)) → Chosen t n Y
  in_chosen Y h = let p = sets-part 0 n (ids_of t.nodes) Y ids h in record { ids = p.rises; many = p.many; known = p.inside }

  -- The set of the definition is the worst: "the most partitions that can lose every copy, and the first set of boxes by rising ids that costs so many".
  pub worst-is : IsWorst t L n (loss_of L (worst_set t L n)) (worst_set t L n)
  unfolding worst_set
  worst-is =
      let all = sets_of n (ids_of t.nodes) in
      let low = take n (ids_of t.nodes) in
      let w = sets_first n (ids_of t.nodes) few in
      let same : costliest L low all ≡ costliest L low w.0 = ap (costliest L low) w.1 ∙ kept_on L low low w.0 (omega arith) in
      let order : Ordered (low ∷ w.0) = subst Ordered w.1 (sets_ordered 0 n (ids_of t.nodes) ids) in
      let there : (Y : List ℕ) → Chosen t n Y → In Y (low ∷ w.0) = λ Y h. subst (In Y) w.1 (chosen_in Y h) in
      record {
        chosen = in_chosen (costliest L low all)
            (subst (In (costliest L low all)) (sym w.1) (subst (λ (Z : List ℕ). In Z (low ∷ w.0)) (sym same) (kept_in L low w.0)));
        costs = refl;
        most = λ Y h. omega (arith, ap (loss_of L) same, kept-most L low w.0 Y (there Y h));
        first = λ Y h e. subst (λ (W : List ℕ). (W ≡ Y) ⊎ RowBefore W Y) (sym same) (kept-first L low w.0 Y order (there Y h) (e ∙ ap (loss_of L) same));
      }

-- There is one worst loss and one first set: `IsWorst` fixes both.
pub worst-one : (t : Topology) (L : Layout) (n a b : ℕ) (X Y : List ℕ) → IsWorst t L n a X → IsWorst t L n b Y → (a ≡ b) × (X ≡ Y)
worst-one t L n a b X Y h k =
    let same : a ≡ b = omega (arith, k.most X h.chosen, h.costs, h.most Y k.chosen, k.costs) in (
      same,
      ⊎_elim (λ e. e)
          (λ before. ⊎_elim (λ e. sym e) (λ after. absurd (row-once X Y before after)) (k.first X h.chosen (h.costs ∙ same)))
          (h.first Y k.chosen (k.costs ∙ sym same)),
    )
