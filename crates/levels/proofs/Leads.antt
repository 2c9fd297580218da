-- Three sets of nodes by their distance, and the arcs by which they offer one distance.
-- Assumes nothing.
use Prim.Native.Nat.{ℕ, ◌+◌, ◌*◌, ◌≤◌, ◌<◌, max}
use mathlib.Core.Path.{◌≡◌, refl, sym, ap, ◌∙◌}
use mathlib.Core.Bool.{Bool, true, false, cond}
use mathlib.Core.List.{List}
use mathlib.Core.Logic.{◌⊎◌, inl, inr, ⊎_elim}
use native.Mathlib.Omega.{arith}
use lib.ListN.{get_or}
use Rattle.cluster.specs.Terms.{most_nodes}
use Rattle.sums.proofs.Sum.{lt_or_ge}
use Rattle.sets.specs.ModelBits.{bit, member_of, union_of}
use Rattle.sets.proofs.Laws.{bit_le, bit-union, bit-true, bit-false, member-true, member-false}
use Rattle.levels.specs.ModelGraph.{arc_of, weight_of}
use Rattle.levels.specs.ModelTurns.{weight_from, leads_to}

-- The weight of the arcs from u to v, and 1, by the sets that have v.
abbrev Weighs : List ℕ → ℕ → ℕ → ℕ → Type 0
Weighs arcs u v w =
    ((bit (get_or arcs u 0) v ≡ 1) × (w ≡ 0))
    ⊎ (((bit (get_or arcs u 0) v ≡ 0) × (bit (get_or arcs (most_nodes + u) 0) v ≡ 1) × (w ≡ 1))
    ⊎ ((bit (get_or arcs u 0) v ≡ 0) × (bit (get_or arcs (most_nodes + u) 0) v ≡ 0) × (w ≡ 2)))

weighs : (arcs : List ℕ) (u v : ℕ) → Weighs arcs u v (weight_of arcs u v)
unfolding weight_of
weighs arcs u v = go (member_of (get_or arcs u 0) v) (member_of (get_or arcs (most_nodes + u) 0) v) refl refl
  where
    go : (x y : Bool) → member_of (get_or arcs u 0) v ≡ x → member_of (get_or arcs (most_nodes + u) 0) v ≡ y → Weighs arcs u v (cond x 0 (cond y 1 2))
    go true y p q = inl (member-true (get_or arcs u 0) v p, refl)
    go false true p q = inr (inl (member-false (get_or arcs u 0) v p, member-true (get_or arcs (most_nodes + u) 0) v q, refl))
    go false false p q = inr (inr (member-false (get_or arcs u 0) v p, member-false (get_or arcs (most_nodes + u) 0) v q, refl))

arc_of_lem : (arcs : List ℕ) (u v : ℕ) → arc_of arcs u v ≡ max (bit (get_or arcs u 0) v) (max (bit (get_or arcs (most_nodes + u) 0) v) (bit (get_or arcs (2 * most_nodes + u) 0) v))
unfolding arc_of
arc_of_lem arcs u v = refl

-- The sets begin above those of the lowest weight by at most two nodes' worth.
pub weight-most : (even up u : ℕ) → weight_from even up u ≤ 2 * most_nodes
unfolding weight_from
weight-most even up u = go (member_of up u) (member_of even u)
  where
    go : (x y : Bool) → cond x (2 * most_nodes) (cond y most_nodes 0) ≤ 2 * most_nodes
    go true y = omega arith
    go false true = omega arith
    go false false = omega arith

module _ (even up u : ℕ) where
  from_up : bit up u ≡ 1 → weight_from even up u ≡ 2 * most_nodes
  unfolding weight_from
  from_up p = rw (bit-true up u p)

  from-even : bit up u ≡ 0 → bit even u ≡ 1 → weight_from even up u ≡ most_nodes
  unfolding weight_from
  from-even p q = rw (bit-false up u p, bit-true even u q)

  from_down : bit up u ≡ 0 → bit even u ≡ 0 → weight_from even up u ≡ 0
  unfolding weight_from
  from_down p q = rw (bit-false up u p, bit-false even u q)

-- The members of s are the nodes of mask that stand one below x.
pub record At (n mask : ℕ) (d : List ℕ) (x s : ℕ) : Type 0 where
  pub some : (u : ℕ) → u < most_nodes → bit s u ≡ 1 → (u < n) × (bit mask u ≡ 1) × (get_or d u 0 + 1 ≡ x)
  pub all : (u : ℕ) → u < n → bit mask u ≡ 1 → get_or d u 0 + 1 ≡ x → bit s u ≡ 1

-- The nodes that can offer c: those one above it, there, and one below it.
pub record Near (n mask : ℕ) (d : List ℕ) (c down even up near : ℕ) : Type 0 where
  pub small : n ≤ most_nodes
  pub downs : At n mask d (c + 2) down
  pub evens : At n mask d (c + 1) even
  pub ups : At n mask d c up
  pub both : near ≡ union_of down (union_of even up)

module _ {n mask c down even up near : ℕ} {d : List ℕ} (w : Near n mask d c down even up near) (arcs : List ℕ) (u v : ℕ) where
  near-bit : u < most_nodes → bit near u ≡ max (bit down u) (max (bit even u) (bit up u))
  near-bit l = omega (arith, ap (λ (i : ℕ). bit i u) w.both, bit-union down (union_of even up) u l, bit-union even up u l)

  lead-at : (i : ℕ) → weight_from even up u + u ≡ i → bit (leads_to arcs even up u) v ≡ bit (get_or arcs i 0) v
  lead-at i e = ap (λ (j : ℕ). bit (get_or arcs j 0) v) e

  no_up : u < most_nodes → (get_or d u 0 + 1 ≡ c → ⊥) → bit up u ≡ 0
  no_up l h = ⊎_elim (λ g. omega arith) (λ g. absurd (h (w.ups.some u l (omega (arith, bit_le up u))).2)) (lt_or_ge (bit up u) 1)

  no_even : u < most_nodes → (get_or d u 0 + 1 ≡ c + 1 → ⊥) → bit even u ≡ 0
  no_even l h = ⊎_elim (λ g. omega arith) (λ g. absurd (h (w.evens.some u l (omega (arith, bit_le even u))).2)) (lt_or_ge (bit even u) 1)

  -- What is offered is led to.
  pub lead-all : u < n → bit mask u ≡ 1 → arc_of arcs u v ≡ 1 → get_or d u 0 + weight_of arcs u v ≡ c + 1 → (bit near u ≡ 1) × (bit (leads_to arcs even up u) v ≡ 1)
  lead-all l m a e = ⊎_elim lowest (⊎_elim middle highest) (weighs arcs u v)
    where
      k : u < most_nodes
      k = omega (arith, w.small)

      lowest : ((bit (get_or arcs u 0) v ≡ 1) × (weight_of arcs u v ≡ 0)) → (bit near u ≡ 1) × (bit (leads_to arcs even up u) v ≡ 1)
      lowest h = (
        omega (arith, near-bit k, w.downs.all u l m (omega arith), bit_le even u, bit_le up u),
        lead-at u (omega (arith, from_down even up u (no_up k (λ q. omega arith)) (no_even k (λ q. omega arith)))) ∙ h.0,
      )

      middle : ((bit (get_or arcs u 0) v ≡ 0) × (bit (get_or arcs (most_nodes + u) 0) v ≡ 1) × (weight_of arcs u v ≡ 1)) → (bit near u ≡ 1) × (bit (leads_to arcs even up u) v ≡ 1)
      middle h =
          let q : bit even u ≡ 1 = w.evens.all u l m (omega arith) in
          (omega (arith, near-bit k, bit_le down u, bit_le up u), lead-at (most_nodes + u) (omega (arith, from-even even up u (no_up k (λ q. omega arith)) q)) ∙ h.1)

      highest : ((bit (get_or arcs u 0) v ≡ 0) × (bit (get_or arcs (most_nodes + u) 0) v ≡ 0) × (weight_of arcs u v ≡ 2)) → (bit near u ≡ 1) × (bit (leads_to arcs even up u) v ≡ 1)
      highest h =
          let q : bit up u ≡ 1 = w.ups.all u l m (omega arith) in
          (omega (arith, near-bit k, bit_le down u, bit_le even u), lead-at (2 * most_nodes + u) (omega (arith, from_up even up u q)) ∙ omega (arith, arc_of_lem arcs u v))

  most : weight_of arcs u v ≤ 2
  most = ⊎_elim (λ h. omega arith) (⊎_elim (λ h. omega arith) (λ h. omega arith)) (weighs arcs u v)

  mid : bit (get_or arcs (most_nodes + u) 0) v ≡ 1 → weight_of arcs u v ≤ 1
  mid q = ⊎_elim (λ h. omega arith) (⊎_elim (λ h. omega arith) (λ h. absurd (omega arith))) (weighs arcs u v)

  low : bit (get_or arcs u 0) v ≡ 1 → weight_of arcs u v ≡ 0
  low q = ⊎_elim (λ h. omega arith) (⊎_elim (λ h. absurd (omega arith)) (λ h. absurd (omega arith))) (weighs arcs u v)

  -- What is led to is offered, where nothing less is.
  pub lead-some : u < most_nodes → bit near u ≡ 1 → bit (leads_to arcs even up u) v ≡ 1 → (u < n → bit mask u ≡ 1 → arc_of arcs u v ≡ 1 → c < get_or d u 0 + weight_of arcs u v)
      → (u < n) × (bit mask u ≡ 1) × (arc_of arcs u v ≡ 1) × (get_or d u 0 + weight_of arcs u v ≡ c + 1)
  lead-some k s e h = ⊎_elim (λ g. ⊎_elim (λ i. lowest (omega arith) (omega arith)) (λ i. middle (omega arith) (omega (arith, bit_le even u))) (lt_or_ge (bit even u) 1)) (λ g. highest (omega (arith, bit_le up u))) (lt_or_ge (bit up u) 1)
    where
      lowest : bit up u ≡ 0 → bit even u ≡ 0 → (u < n) × (bit mask u ≡ 1) × (arc_of arcs u v ≡ 1) × (get_or d u 0 + weight_of arcs u v ≡ c + 1)
      lowest p q =
          let f = w.downs.some u k (omega (arith, near-bit k)) in
          let b : bit (get_or arcs u 0) v ≡ 1 = sym (lead-at u (omega (arith, from_down even up u p q))) ∙ e in
          let a : arc_of arcs u v ≡ 1 = omega (arith, arc_of_lem arcs u v, bit_le (get_or arcs (most_nodes + u) 0) v, bit_le (get_or arcs (2 * most_nodes + u) 0) v) in
          (f.0, f.1, a, omega (arith, low b, f.2))

      middle : bit up u ≡ 0 → bit even u ≡ 1 → (u < n) × (bit mask u ≡ 1) × (arc_of arcs u v ≡ 1) × (get_or d u 0 + weight_of arcs u v ≡ c + 1)
      middle p q =
          let f = w.evens.some u k q in
          let b : bit (get_or arcs (most_nodes + u) 0) v ≡ 1 = sym (lead-at (most_nodes + u) (omega (arith, from-even even up u p q))) ∙ e in
          let a : arc_of arcs u v ≡ 1 = omega (arith, arc_of_lem arcs u v, bit_le (get_or arcs u 0) v, bit_le (get_or arcs (2 * most_nodes + u) 0) v) in
          (f.0, f.1, a, omega (arith, mid b, f.2, h f.0 f.1 a))

      highest : bit up u ≡ 1 → (u < n) × (bit mask u ≡ 1) × (arc_of arcs u v ≡ 1) × (get_or d u 0 + weight_of arcs u v ≡ c + 1)
      highest p =
          let f = w.ups.some u k p in
          let b : bit (get_or arcs (2 * most_nodes + u) 0) v ≡ 1 = sym (lead-at (2 * most_nodes + u) (omega (arith, from_up even up u p))) ∙ e in
          let a : arc_of arcs u v ≡ 1 = omega (arith, arc_of_lem arcs u v, bit_le (get_or arcs u 0) v, bit_le (get_or arcs (most_nodes + u) 0) v) in
          (f.0, f.1, a, omega (arith, most, f.2, h f.0 f.1 a))
