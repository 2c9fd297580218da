-- The sets of so many of some rising ids: each of them once, in the order of their ids.
-- Assumes nothing.
use Prim.Native.Nat.{ℕ, zero, suc, ◌≤◌}
use mathlib.Core.Path.{◌≡◌, refl, sym, ap, ◌∙◌, subst}
use mathlib.Core.Logic.{◌⊎◌, inl, inr, ⊎_elim}
use mathlib.Core.Bool.{true}
use mathlib.Core.List.{List, [], ◌∷◌, ◌++◌, map}
use native.Mathlib.Omega.{arith}
use lib.ListN.{length, take}
use Rattle.sums.proofs.Sum.{eq_or_ne}
use Rattle.cluster.specs.Terms.{mem, rising_from}
use Rattle.cluster.specs.TermsFirst.{RowBefore}
use Rattle.cluster.proofs.Lists.{mem_head, mem_tail, mem-none, mem_cases, rising_head, rising_tail, rising_none, rising_cons, rising_down, rising_above}
use Rattle.loss.specs.TermsLoss.{sets_of}

-- ---- lists of sets

-- Y stands among some sets.
unfoldable pub In : List ℕ → List (List ℕ) → Type 0
In Y [] = ⊥
In Y (X ∷ Xs) = (Y ≡ X) ⊎ In Y Xs

abbrev pub after : ℕ → List (List ℕ) → List (List ℕ)
after i Xs = map (λ (X : List ℕ). i ∷ X) Xs

in_left : (Y : List ℕ) (Xs Zs : List (List ℕ)) → In Y Xs → In Y (Xs ++ Zs)
unfolding In
in_left Y [] Zs h = absurd h
in_left Y (X ∷ Xs) Zs (inl e) = inl e
in_left Y (X ∷ Xs) Zs (inr h) = inr (in_left Y Xs Zs h)

in_right : (Y : List ℕ) (Xs Zs : List (List ℕ)) → In Y Zs → In Y (Xs ++ Zs)
unfolding In
in_right Y [] Zs h = h
in_right Y (X ∷ Xs) Zs h = inr (in_right Y Xs Zs h)

in_cases : (Y : List ℕ) (Xs Zs : List (List ℕ)) → In Y (Xs ++ Zs) → In Y Xs ⊎ In Y Zs
unfolding In
in_cases Y [] Zs h = inr h
in_cases Y (X ∷ Xs) Zs (inl e) = inl (inl e)
in_cases Y (X ∷ Xs) Zs (inr h) = ⊎_elim (λ l. inl (inr l)) (λ r. inr r) (in_cases Y Xs Zs h)

in_after : (i : ℕ) (Y : List ℕ) (Xs : List (List ℕ)) → In Y Xs → In (i ∷ Y) (after i Xs)
unfolding In
in_after i Y [] h = absurd h
in_after i Y (X ∷ Xs) (inl e) = inl (ap (λ (Z : List ℕ). i ∷ Z) e)
in_after i Y (X ∷ Xs) (inr h) = inr (in_after i Y Xs h)

after_in : (i : ℕ) (Y : List ℕ) (Xs : List (List ℕ)) → In Y (after i Xs) → (Z : List ℕ) × (Y ≡ i ∷ Z) × In Z Xs
unfolding In
after_in i Y [] h = absurd h
after_in i Y (X ∷ Xs) (inl e) = (X, e, inl refl)
after_in i Y (X ∷ Xs) (inr h) = let w = after_in i Y Xs h in (w.0, w.1, inr w.2)

-- ---- which sets

-- What is known of each of the sets.
pub record Part (k n : ℕ) (ids Y : List ℕ) : Type 0 where
  pub rises : rising_from k Y ≡ true
  pub many : length Y ≡ n
  pub inside : (i : ℕ) → mem i Y ≡ true → mem i ids ≡ true

pub sets-part : (k n : ℕ) (ids Y : List ℕ) → rising_from k ids ≡ true → In Y (sets_of n ids) → Part k n ids Y
unfolding In sets_of
sets-part k zero ids Y rise (inl e) = record {
  rises = ap (rising_from k) e ∙ rising_none k;
  many = ap length e;
  inside = λ i m. absurd (mem-none i (sym (ap (mem i) e) ∙ m));
}
sets-part k zero ids Y rise (inr h) = absurd h
sets-part k (suc n) [] Y rise h = absurd h
sets-part k (suc n) (x ∷ ids) Y rise h =
    ⊎_elim
    (λ l. let w = after_in x Y (sets_of n ids) l in
    let p = sets-part x n ids w.0 (rising_tail k x ids rise) w.2 in
    record {
      rises = ap (rising_from k) w.1 ∙ rising_cons k x w.0 (rising_head k x ids rise) p.rises;
      many = ap length w.1 ∙ ap suc p.many;
      inside = λ i m. ⊎_elim (λ e. mem_head i x ids e) (λ t. mem_tail i x ids (p.inside i t))
          (mem_cases i x w.0 (sym (ap (mem i) w.1) ∙ m));
    })
    (λ r. let p = sets-part x (suc n) ids Y (rising_tail k x ids rise) r in
    record {
      rises = rising_down k x Y (omega (arith, rising_head k x ids rise)) p.rises;
      many = p.many;
      inside = λ i m. mem_tail i x ids (p.inside i m);
    })
    (in_cases Y (after x (sets_of n ids)) (sets_of (suc n) ids) h)

-- And each such set is among them.
pub part-sets : (k n : ℕ) (ids Y : List ℕ) → rising_from k ids ≡ true → Part k n ids Y → In Y (sets_of n ids)
unfolding In sets_of
part-sets k zero ids [] rise p = inl refl
part-sets k zero ids (y ∷ ys) rise p = absurd (omega (arith, p.many))
part-sets k (suc n) [] [] rise p = absurd (omega (arith, p.many))
part-sets k (suc n) [] (y ∷ ys) rise p = absurd (mem-none y (p.inside y (mem_head y y ys refl)))
part-sets k (suc n) (x ∷ ids) [] rise p = absurd (omega (arith, p.many))
part-sets k (suc n) (x ∷ ids) (y ∷ ys) rise p =
    let tail = rising_tail k x ids rise in
    let above = rising_tail k y ys p.rises in
    ⊎_elim
    (λ e. in_left (y ∷ ys) (after x (sets_of n ids)) (sets_of (suc n) ids)
    (subst (λ (i : ℕ). In (i ∷ ys) (after x (sets_of n ids))) (sym e)
    (in_after x ys (sets_of n ids)
    (part-sets x n ids ys tail
    (record {
      rises = subst (λ (i : ℕ). rising_from i ys ≡ true) e above;
      many = omega (arith, p.many);
      inside = λ i m. ⊎_elim (λ q. absurd (omega (arith, rising_above y i ys above m))) (λ t. t) (mem_cases i x ids (p.inside i (mem_tail i y ys m)));
    })))))
    (λ d. let there : mem y ids ≡ true = ⊎_elim (λ q. absurd (d q)) (λ t. t) (mem_cases y x ids (p.inside y (mem_head y y ys refl))) in
    let over = rising_above x y ids tail there in
    in_right (y ∷ ys) (after x (sets_of n ids)) (sets_of (suc n) ids)
    (part-sets x (suc n) ids (y ∷ ys) tail
    (record {
      rises = rising_cons x y ys over above;
      many = p.many;
      inside = λ i m. ⊎_elim
          (λ q. absurd (⊎_elim (λ r. omega arith) (λ t. omega (arith, rising_above y i ys above t)) (mem_cases i y ys m))) (λ t. t)
          (mem_cases i x ids (p.inside i m));
    })))
    (eq_or_ne y x)

-- ---- in which order

-- Each set comes before all after it.
unfoldable pub Ordered : List (List ℕ) → Type 0
Ordered [] = Unit
Ordered (X ∷ Xs) = ((Y : List ℕ) → In Y Xs → RowBefore X Y) × Ordered Xs

ordered_join : (Xs Zs : List (List ℕ)) → Ordered Xs → Ordered Zs → ((X Z : List ℕ) → In X Xs → In Z Zs → RowBefore X Z) → Ordered (Xs ++ Zs)
unfolding Ordered In
ordered_join [] Zs a b h = b
ordered_join (X ∷ Xs) Zs a b h =
    (λ Y m. ⊎_elim (λ l. a.0 Y l) (λ r. h X Y (inl refl) r) (in_cases Y Xs Zs m), ordered_join Xs Zs a.1 b (λ A B p q. h A B (inr p) q))

ordered_after : (i : ℕ) (Xs : List (List ℕ)) → Ordered Xs → Ordered (after i Xs)
unfolding Ordered In RowBefore
ordered_after i [] a = a
ordered_after i (X ∷ Xs) a = (
  λ Y m. let w = after_in i Y Xs m in subst (λ (Z : List ℕ). RowBefore (i ∷ X) Z) (sym w.1) (inr (refl, a.0 w.0 w.2)),
  ordered_after i Xs a.1,
)

-- A set that begins with x comes before one of greater ids.
lower : (x : ℕ) (X Z : List ℕ) (n : ℕ) → length Z ≡ suc n → rising_from x Z ≡ true → RowBefore (x ∷ X) Z
unfolding RowBefore
lower x X [] n e h = absurd (omega arith)
lower x X (z ∷ zs) n e h = inl (rising_head x z zs h)

pub sets_ordered : (k n : ℕ) (ids : List ℕ) → rising_from k ids ≡ true → Ordered (sets_of n ids)
unfolding Ordered sets_of In
sets_ordered k zero ids rise = (λ Y m. absurd m, tt)
sets_ordered k (suc n) [] rise = tt
sets_ordered k (suc n) (x ∷ ids) rise =
    let tail = rising_tail k x ids rise in
    ordered_join (after x (sets_of n ids)) (sets_of (suc n) ids) (ordered_after x (sets_of n ids) (sets_ordered x n ids tail)) (sets_ordered x (suc n) ids tail)
    (λ X Z p q. let w = after_in x X (sets_of n ids) p in
    let h = sets-part x (suc n) ids Z tail q in
    subst (λ (U : List ℕ). RowBefore U Z) (sym w.1) (lower x w.0 Z n h.many h.rises))

-- The first of them has the first ids.
pub sets_first : (n : ℕ) (ids : List ℕ) → n ≤ length ids → (Xs : List (List ℕ)) × (sets_of n ids ≡ take n ids ∷ Xs)
unfolding sets_of
sets_first zero ids h = ([], refl)
sets_first (suc n) [] h = absurd (omega arith)
sets_first (suc n) (x ∷ ids) h =
    let w = sets_first n ids (omega arith) in
    (after x w.0 ++ sets_of (suc n) ids, ap (λ (Xs : List (List ℕ)). after x Xs ++ sets_of (suc n) ids) w.1)
