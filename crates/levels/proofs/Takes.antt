-- The offers of one distance, from one member of a set after the other.
-- Assumes nothing.
use Prim.Native.Nat.{ℕ, ◌+◌, ◌-◌, ◌<◌, min}
use mathlib.Core.Path.{◌≡◌, refl, sym, ap, ◌∙◌, subst}
use mathlib.Core.List.{List}
use mathlib.Core.Logic.{◌⊎◌, inl, inr, ⊎_elim}
use native.Mathlib.Omega.{arith}
use Rattle.cluster.specs.Terms.{most_nodes}
use Rattle.sums.proofs.Sum.{lt_or_ge}
use Rattle.sets.specs.ModelBits.{bit, meet_of, difference_of}
use Rattle.sets.proofs.Laws.{bit_le, bit_zero, bit-meet, bit-difference}
use Rattle.levels.specs.ModelTurns.{Settled, Taken}
use Rattle.sets.specs.ModelMembers.{Comes}
use Rattle.levels.proofs.Visits.{visit_member, Passed, passed_left, passed_none, passed_end}

-- Before the first all are free.
pub taken_start : (s : ℕ) (lead : ℕ → ℕ) (free c : ℕ) (next row : List ℕ) → Taken s lead 0 free free c next row next row
taken_start s lead free c next row =
    record {
      part = λ v l. omega arith;
      none = λ u v l e k. absurd (omega arith);
      kept = λ v l e. (refl, refl);
      took = λ v l e. absurd (omega arith);
      node = λ v l e. absurd (omega arith);
      first = λ u v l e. absurd (omega arith);
    }

module _ {s t free still c : ℕ} {lead : ℕ → ℕ} {next row next' row' : List ℕ} (h : Taken s lead t free still c next row next' row') where
  -- Where none is free any more, the others need not offer it.
  pub taken_out : still ≡ 0 → Taken s lead most_nodes free still c next row next' row'
  taken_out z =
      record {
        part = h.part;
        none = λ u v l e. absurd (omega (arith, ap (λ (i : ℕ). bit i v) z, bit_zero v));
        kept = h.kept;
        took = h.took;
        node = h.node;
        first = h.first;
      }

  -- After the last all have offered it.
  pub taken_end : {left : ℕ} → Passed s left t → left ≡ 0 → Taken s lead most_nodes free still c next row next' row'
  taken_end p z =
      record {
        part = h.part;
        none = λ u v l e k m. ⊎_elim (λ g. h.none u v l e g m) (λ g. absurd (omega (arith, passed_end p z u g k))) (lt_or_ge u t);
        kept = h.kept;
        took = h.took;
        node = h.node;
        first = h.first;
      }

  -- One offer more.
  module _ {left u rest taken still' : ℕ} {next'' row'' : List ℕ} (p : Passed s left t) (m : Comes left u rest)
      (e : taken ≡ meet_of (lead u) still) (q : still' ≡ difference_of still taken)
      (a : Settled (bit taken) (λ _. c) next' next'') (b : Settled (bit taken) (λ _. u) row' row'') where
    bit-taken : (v : ℕ) → v < most_nodes → bit taken v ≡ min (bit (lead u) v) (bit still v)
    bit-taken v l = ap (λ (i : ℕ). bit i v) e ∙ bit-meet (lead u) still v l

    bit-still : (v : ℕ) → v < most_nodes → bit still' v ≡ bit still v - bit taken v
    bit-still v l = ap (λ (i : ℕ). bit i v) q ∙ bit-difference still taken v l

    one_or_none : (v : ℕ) → (bit taken v ≡ 1) ⊎ (bit taken v ≡ 0)
    one_or_none v = ⊎_elim (λ g. inr (omega arith)) (λ g. inl (omega (arith, bit_le taken v))) (lt_or_ge (bit taken v) 1)

    -- Before u none has offered it to a node that was free.
    before : (w v : ℕ) → v < most_nodes → bit still v ≡ 1 → w < u → bit s w ≡ 1 → bit (lead w) v ≡ 0
    before w v l f k i = ⊎_elim (λ g. h.none w v l f g i) (λ g. absurd (omega (arith, passed_none p m w g k))) (lt_or_ge w t)

    pub taken_more : Taken s lead (u + 1) free still' c next row next'' row''
    taken_more =
        record {
          part = λ v l. omega (arith, h.part v l, bit-still v l);
          none = λ w v l f k o.
              let i : bit still v ≡ 1 = omega (arith, bit-still v l, bit_le still v) in
              let j : bit (lead u) v ≡ 0 = omega (arith, bit-still v l, bit-taken v l, bit_le (lead u) v) in
              ⊎_elim (λ g. before w v l i g o) (λ g. let r : u ≡ w = omega arith in subst (λ (x : ℕ). bit (lead x) v ≡ 0) r j) (lt_or_ge w u);
          kept = λ v l f.
              let i : bit still v ≡ bit free v = omega (arith, h.part v l, bit-still v l) in
              let j : bit taken v ≡ 0 = omega (arith, bit-still v l, bit-taken v l) in
              (a.left v l j ∙ (h.kept v l i).0, b.left v l j ∙ (h.kept v l i).1);
          took = λ v l f. ⊎_elim (λ i. a.taken v l i) (λ i. a.left v l i ∙ h.took v l (omega (arith, bit-still v l))) (one_or_none v);
          node = λ v l f.
              ⊎_elim
              (λ i. subst (λ (x : ℕ). (x < most_nodes) × (bit s x ≡ 1) × (bit (lead x) v ≡ 1)) (sym (b.taken v l i))
              (m.below, visit_member (passed_left p m) m, omega (arith, bit-taken v l, bit_le (lead u) v)))
              (λ i. subst (λ (x : ℕ). (x < most_nodes) × (bit s x ≡ 1) × (bit (lead x) v ≡ 1)) (sym (b.left v l i)) (h.node v l (omega (arith, bit-still v l))))
              (one_or_none v);
          first = λ w v l f k o.
              ⊎_elim (λ i. before w v l (omega (arith, bit-taken v l, bit_le still v)) (omega (arith, b.taken v l i)) o)
              (λ i. h.first w v l (omega (arith, bit-still v l)) (omega (arith, b.left v l i)) o) (one_or_none v);
        }
