-- The first difference of two layouts, and that a layout all of whose pairs are settled is the first.
-- Assumes nothing.
use Prim.Native.Nat.{ℕ, zero, suc, ◌≤◌, ◌<◌}
use mathlib.Core.Path.{◌≡◌, refl, sym, ap, ◌∙◌}
use mathlib.Core.Bool.{cond, ◌&&◌}
use mathlib.Core.Logic.{◌⊎◌, inl, inr, ⊎_elim}
use native.Mathlib.Omega.{arith}
use lib.Dec.{ltb, leb, eqb}
use borrow.Author.Tests.{lt-ltb, le-ltb, eq-eqb, ne_eqb, le-leb, lt-leb}
use Rattle.sums.proofs.Sum.{lt_or_ge, eq_or_ne}
use Rattle.exchange.specs.ModelRow.{Within, Agree}
use Rattle.exchange.proofs.Agreeing.{SameLayout}
use Rattle.ties.specs.ModelOrder.{from, Precedes, Settled, Foremost}

-- ---- before and after

-- A pair before (p, b) has 0.
pub before_zero : (p b q x : ℕ) → (q < p) ⊎ ((q ≡ p) × (x < b)) → from p b q x ≡ 0
unfolding from
before_zero p b q x (inl l) = rw (le-ltb p q (omega arith), ne_eqb p q (λ e. omega arith))
before_zero p b q x (inr (e, l)) = rw (le-ltb p q (omega arith), eq-eqb p q (sym e), lt-leb b x l)

-- It is so of no other pair.
pub zero_before : (p b q x : ℕ) → from p b q x ≡ 0 → (q < p) ⊎ ((q ≡ p) × (x < b))
unfolding from
zero_before p b q x z =
    ⊎_elim (λ l. inl l)
    (λ g. ⊎_elim (λ l. absurd (later l))
    (λ k. let e : q ≡ p = omega arith in inr (e, ⊎_elim (λ l. l) (λ l. absurd (same e l)) (lt_or_ge x b))) (lt_or_ge p q))
    (lt_or_ge q p)
  where
    later : p < q → ⊥
    later l =
        let w : ◌≡◌ {A = ℕ} (cond (ltb p q) 1 (cond (eqb p q && leb b x) 1 0)) 1 = rw (lt-ltb p q l) in
        omega (arith, w)

    same : q ≡ p → b ≤ x → ⊥
    same e l =
        let w : ◌≡◌ {A = ℕ} (cond (ltb p q) 1 (cond (eqb p q && leb b x) 1 0)) 1 =
        rw (le-ltb p q (omega arith), eq-eqb p q (sym e), le-leb b x l) in
        omega (arith, w)

-- ---- the first difference

-- Two rows are the same, or there is a first node where they differ.
differ : (n : ℕ) (f g : ℕ → ℕ)
    → ((b : ℕ) → b < n → f b ≡ g b) ⊎ ((b : ℕ) × (b < n) × (f b ≡ g b → ⊥) × ((x : ℕ) → x < b → f x ≡ g x))
differ zero f g = inl (λ b l. absurd (omega arith))
differ (suc n) f g =
    ⊎_elim
    (λ h. ⊎_elim
    (λ e. inl (λ b l. ⊎_elim (λ k. h b k) (λ k. let q : b ≡ n = omega arith in ap f q ∙ (e ∙ ap g (sym q))) (lt_or_ge b n)))
    (λ d. inr (n, omega arith, d, h)) (eq_or_ne (f n) (g n)))
    (λ w. inr (w.0, omega (arith, w.1), w.2, w.3)) (differ n f g)

-- The first pair where two layouts differ.
abbrev Difference : ℕ → ℕ → (ℕ → ℕ → ℕ) → (ℕ → ℕ → ℕ) → Type 0
Difference P N S T =
    (p : ℕ) × (b : ℕ) × (p < P) × (b < N) × (S p b ≡ T p b → ⊥)
    × ((q : ℕ) → q < p → (x : ℕ) → x < N → S q x ≡ T q x) × ((x : ℕ) → x < b → S p x ≡ T p x)

-- Two layouts are the same, or there is such a pair.
difference : (P N : ℕ) (S T : ℕ → ℕ → ℕ) → SameLayout P N S T ⊎ Difference P N S T
difference zero N S T = inl (λ p l. absurd (omega arith))
difference (suc P) N S T =
    ⊎_elim
    (λ h. ⊎_elim
    (λ e. inl (λ p l b k.
    ⊎_elim (λ i. h p i b k)
    (λ i. let q : p ≡ P = omega arith in ap (λ (t : ℕ). S t b) q ∙ (e b k ∙ ap (λ (t : ℕ). T t b) (sym q))) (lt_or_ge p P)))
    (λ w. inr (P, w.0, omega arith, w.1, w.2, h, w.3)) (differ N (S P) (T P)))
    (λ w. inr (w.0, w.1, omega (arith, w.2), w.3, w.4, w.5, w.6)) (difference P N S T)

-- Two layouts of bits are the same, or one of them comes before the other.
pub compare : (P N : ℕ) (S T : ℕ → ℕ → ℕ) → ((p : ℕ) → p < P → (b : ℕ) → b < N → S p b ≤ 1)
    → ((p : ℕ) → p < P → (b : ℕ) → b < N → T p b ≤ 1)
    → SameLayout P N S T ⊎ (Precedes P N S T ⊎ Precedes P N T S)
compare P N S T bits bits' = ⊎_elim (λ h. inl h) (λ w. inr (which w)) (difference P N S T)
  where
    which : Difference P N S T → Precedes P N S T ⊎ Precedes P N T S
    which (p, b, l, k, n, rows, row) =
        ⊎_elim
        (λ z. inr (record {
          p = p;
          b = b;
          in_p = l;
          in_b = k;
          has = omega (arith, bits' p l b k, one z);
          lacks = omega arith;
          before = λ q i x j e. same q x j (zero_before p b q x e);
        }))
        (λ o. inl (record {
          p = p;
          b = b;
          in_p = l;
          in_b = k;
          has = omega (arith, bits p l b k);
          lacks = none o;
          before = λ q i x j e. sym (same q x j (zero_before p b q x e));
        }))
        (lt_or_ge (S p b) 1)
      where
        same : (q x : ℕ) → x < N → (q < p) ⊎ ((q ≡ p) × (x < b)) → S q x ≡ T q x
        same q x j (inl i) = rows q i x j
        same q x j (inr (e, i)) = ap (λ (t : ℕ). S t x) e ∙ (row x i ∙ ap (λ (t : ℕ). T t x) (sym e))

        one : S p b < 1 → 1 ≤ T p b
        one z = ⊎_elim (λ y. absurd (n (omega arith))) (λ y. y) (lt_or_ge (T p b) 1)

        none : 1 ≤ S p b → T p b ≡ 0
        none o = ⊎_elim (λ y. omega arith) (λ y. absurd (n (omega (arith, bits p l b k, bits' p l b k)))) (lt_or_ge (T p b) 1)

-- ---- settled pairs

-- A layout all of whose pairs are settled is the first.
pub settled-first : (P N R Z : ℕ) (zone cap : ℕ → ℕ) (g : ℕ → ℕ → ℕ) (A : ℕ) (S : ℕ → ℕ → ℕ) → Within P N R Z zone cap S
    → ((p : ℕ) → p < P → (b : ℕ) → b < N → Settled P N R Z zone cap g A S p b) → Foremost P N R Z zone cap g A S
settled-first P N R Z zone cap g A S w h T t =
    ⊎_elim (λ e. inl e)
    (λ c. ⊎_elim (λ s. inr s)
    (λ s. absurd (omega (arith, s.has, s.lacks, h s.p s.in_p s.b s.in_b T t (λ q i x j e. sym (s.before q i x j e)))))
    c)
    (compare P N S T (λ p l b k. (w.rows p l).bits b k) (λ p l b k. (t.within.rows p l).bits b k))

-- A settled pair stays settled in a layout that has the same pairs up to it.
pub settled_stays : (P N R Z : ℕ) (zone cap : ℕ → ℕ) (g : ℕ → ℕ → ℕ) (A : ℕ) (S S' : ℕ → ℕ → ℕ) (p b : ℕ) → p < P → b < N
    → Agree P N (from p (suc b)) S S' → Settled P N R Z zone cap g A S p b → Settled P N R Z zone cap g A S' p b
settled_stays P N R Z zone cap g A S S' p b l k e h T t a =
    omega (
      arith,
      e p l b k (before_zero p (suc b) p b (inr (refl, omega arith))),
      h T t (λ q i x j z. a q i x j z ∙ e q i x j (before_zero p (suc b) q x (still q x (zero_before p b q x z)))),
    )
  where
    still : (q x : ℕ) → (q < p) ⊎ ((q ≡ p) × (x < b)) → (q < p) ⊎ ((q ≡ p) × (x < suc b))
    still q x (inl i) = inl i
    still q x (inr (u, i)) = inr (u, omega arith)
