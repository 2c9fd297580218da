-- The first member of a set that leads to a node, over plain numbers and lists.
-- Assumes nothing.
use Prim.Native.Nat.{ℕ, ◌<◌}
use mathlib.Core.Path.{◌≡◌, refl, sym, ap, ap₂, ◌∙◌}
use mathlib.Core.Bool.{Bool, true, false, ◌&&◌}
use mathlib.Core.List.{List}
use mathlib.Core.Logic.{⊎_elim}
use native.Mathlib.Omega.{arith}
use lib.ListN.{get_or}
use lib.Dec.{eqb}
use Rattle.sums.specs.ModelSums.{first_from}
use Rattle.sums.proofs.Sum.{eq_or_ne}
use Rattle.sums.proofs.First.{first-is, first-is-none, first_cong, first_passes}
use Rattle.sums.proofs.Tests.{both}
use Rattle.sets.specs.ModelBits.{mask_bits, bit, member_of, without_of}
use Rattle.sets.proofs.Laws.{bit_zero, member-true, bit-true, bit-false, bit-without_other, least-before, least_at}
use Rattle.sets.specs.ModelMembers.{Comes}
use Rattle.waves.specs.ModelWaves.{source_of}

-- Not both where the second fails.
not_both : (a b : Bool) → b ≡ false → a && b ≡ false
not_both true b e = e
not_both false b e = refl

module _ (leads : List ℕ) (v : ℕ) where
  -- Whether the set has u and u leads to v.
  abbrev passes : ℕ → ℕ → Bool
  passes set u = member_of set u && member_of (get_or leads u 0) v

  -- Where some member leads to v, the source is such a member.
  pub source-some : (set u : ℕ) → u < mask_bits → bit set u ≡ 1 → bit (get_or leads u 0) v ≡ 1
      → (source_of leads set v < mask_bits) × (bit set (source_of leads set v) ≡ 1) × (bit (get_or leads (source_of leads set v) 0) v ≡ 1)
  unfolding source_of
  source-some set u l m e =
      let r = first_from (passes set) mask_bits 0 in
      let p = first_passes (passes set) mask_bits u l (ap₂ ◌&&◌ (bit-true set u m) (bit-true (get_or leads u 0) v e)) in
      let q = both (member_of set r) (member_of (get_or leads r 0) v) p.1 in
      (p.0, member-true set r q.0, member-true (get_or leads r 0) v q.1)

  -- ---- the loop of `source`

  module _ (left u rest : ℕ) (m : Comes left u rest) where
    -- The least member is found where it leads to v.
    pub source_here : member_of (get_or leads u 0) v ≡ true → u ≡ source_of leads left v
    unfolding source_of
    source_here e =
        let k : bit left u ≡ 1 = ap (bit left) m.least ∙ least_at left (omega (arith, m.least, m.below)) in
        sym (first-is (passes left) mask_bits 0 u (omega arith) (omega (arith, m.below)) (ap₂ ◌&&◌ (bit-true left u k) e)
        (λ j a h. ap (λ (x : Bool). x && member_of (get_or leads j 0) v) (bit-false left j (least-before left j (omega (arith, m.least))))))

    -- It is passed over where it does not.
    pub source-on : member_of (get_or leads u 0) v ≡ false → source_of leads rest v ≡ source_of leads left v
    unfolding source_of member_of
    source-on e =
        rw (m.rest, ← m.least)
        (first_cong (passes (without_of left u)) (passes left) mask_bits 0
        (λ j a h. ⊎_elim (λ i. not_both (member_of (without_of left u) j) _ (at i) ∙ sym (not_both (member_of left j) _ (at i)))
        (λ i. ap (λ (x : Bool). x && member_of (get_or leads j 0) v) (other j (omega arith) i)) (eq_or_ne u j)))
      where
        at : {j : ℕ} → u ≡ j → member_of (get_or leads j 0) v ≡ false
        at i = sym (ap (λ (x : ℕ). member_of (get_or leads x 0) v) i) ∙ e

        other : (j : ℕ) → j < mask_bits → (u ≡ j → ⊥) → member_of (without_of left u) j ≡ member_of left j
        other j l i = ap (λ (x : ℕ). eqb x 1) (bit-without_other left u j l i)

  -- Where none is left, none is found.
  pub source-none : (left : ℕ) → left ≡ 0 → mask_bits ≡ source_of leads left v
  unfolding source_of
  source-none left z =
      sym (first-is-none (passes left) mask_bits
      (λ j l. ap (λ (x : Bool). x && member_of (get_or leads j 0) v) (bit-false left j (ap (λ (x : ℕ). bit x j) z ∙ bit_zero j))))
