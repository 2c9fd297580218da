-- The pairs are decided one after another.
-- Assumes nothing.
use Prim.Native.Nat.{ℕ, suc, ◌<◌}
use mathlib.Core.Path.{◌≡◌, sym, ◌∙◌, subst}
use mathlib.Core.Logic.{◌⊎◌, inl, inr, ⊎_elim}
use native.Mathlib.Omega.{arith}
use Rattle.sums.proofs.Sum.{lt_or_ge}
use Rattle.exchange.specs.ModelRow.{Agree}
use Rattle.exchange.proofs.Agreeing.{SameLayout}
use Rattle.ties.specs.ModelOrder.{from, Nearest, Settled, first_of}
use Rattle.ties.proofs.Order.{before_zero, zero_before, settled-first, settled_stays}
use Rattle.ties.proofs.Largest.{first-is}

module _ (P N R Z : ℕ) (zone cap : ℕ → ℕ) (g : ℕ → ℕ → ℕ) (A : ℕ) where
  -- S is of the weight, and its pairs before (p, b) are settled.
  pub record Decided (p b : ℕ) (S : ℕ → ℕ → ℕ) : Type 0 where
    pub nearest : Nearest P N R Z zone cap g A S
    pub settled : (q x : ℕ) → q < P → x < N → (q < p) ⊎ ((q ≡ p) × (x < b)) → Settled P N R Z zone cap g A S q x

  -- At the start no pair has to be settled.
  pub none_decided : (S : ℕ → ℕ → ℕ) → Nearest P N R Z zone cap g A S → Decided 0 0 S
  none_decided S h =
      record {
        nearest = h;
        settled = λ q x l k w. ⊎_elim (λ i. absurd (omega arith)) (λ i. absurd (omega (arith, i.1))) w;
      }

  -- Where the next pair is settled as it stands, the one after it is next.
  pub decided_next : (p b : ℕ) (S : ℕ → ℕ → ℕ) → Decided p b S → Settled P N R Z zone cap g A S p b → Decided p (suc b) S
  decided_next p b S h s =
      record {
        nearest = h.nearest;
        settled = λ q x l k w. ⊎_elim (λ i. h.settled q x l k (inl i))
            (λ i. ⊎_elim (λ j. h.settled q x l k (inr (i.0, j)))
            (λ j. let e : x ≡ b = omega (arith, i.1) in
            subst (λ (t : ℕ). Settled P N R Z zone cap g A S q t) (sym e)
            (subst (λ (t : ℕ). Settled P N R Z zone cap g A S t b) (sym i.0) s))
            (lt_or_ge x b))
            w;
      }

  -- A node that is in the row settles its pair.
  pub in_settled : (p b : ℕ) (S : ℕ → ℕ → ℕ) → p < P → b < N → S p b ≡ 1 → Settled P N R Z zone cap g A S p b
  in_settled p b S l k e T t a = omega (arith, (t.within.rows p l).bits b k)

  -- Another layout of the weight with the same pairs before (p, b) is decided as far.
  pub decided_other : (p b : ℕ) (S T : ℕ → ℕ → ℕ) → Decided p b S → Nearest P N R Z zone cap g A T → Agree P N (from p b) S T
      → Decided p b T
  decided_other p b S T h t a =
      record {
        nearest = t;
        settled = λ q x l k w. settled_stays P N R Z zone cap g A S T q x l k
            (λ r i z j e. a r i z j (before_zero p b r z (sooner q x r z w (zero_before q (suc x) r z e)))) (h.settled q x l k w);
      }
    where
      sooner : (q x r z : ℕ) → (q < p) ⊎ ((q ≡ p) × (x < b)) → (r < q) ⊎ ((r ≡ q) × (z < suc x)) → (r < p) ⊎ ((r ≡ p) × (z < b))
      sooner q x r z (inl i) (inl j) = inl (omega arith)
      sooner q x r z (inl i) (inr j) = inl (omega (arith, j.0))
      sooner q x r z (inr i) (inl j) = inl (omega (arith, i.0))
      sooner q x r z (inr i) (inr j) = inr (j.0 ∙ i.0, omega (arith, i.1, j.1))

  -- After the last node of a row the next row begins.
  pub decided_row : (p : ℕ) (S : ℕ → ℕ → ℕ) → Decided p N S → Decided (suc p) 0 S
  decided_row p S h =
      record {
        nearest = h.nearest;
        settled = λ q x l k w. ⊎_elim
            (λ i. ⊎_elim (λ j. h.settled q x l k (inl j)) (λ j. h.settled q x l k (inr (omega arith, k))) (lt_or_ge q p))
            (λ i. absurd (omega (arith, i.1)))
            w;
      }

  -- A layout all of whose rows are decided is the first.
  pub decided_first : (S : ℕ → ℕ → ℕ) → Decided P 0 S → SameLayout P N S (first_of P N R Z zone cap g A)
  decided_first S h =
      first-is P N R Z zone cap g A S h.nearest
      (settled-first P N R Z zone cap g A S h.nearest.within (λ p l b k. h.settled p b l k (inl l)))
