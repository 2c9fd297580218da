-- What the targets of a node mean: the nodes outside the row that fit in its place, which are those whose exchange leaves the row valid.
-- Assumes nothing.
use Prim.Native.Nat.{ℕ, ◌+◌, ◌-◌, ◌^◌, ◌≤◌, ◌<◌, min, max}
use mathlib.Core.Path.{◌≡◌, sym, ap, ap₂, ◌∙◌, subst}
use mathlib.Core.List.{List}
use mathlib.Core.Logic.{◌⊎◌, inl, inr, ⊎_elim}
use native.Mathlib.Omega.{arith}
use lib.ListN.{get_or}
use Rattle.sums.specs.ModelSums.{is}
use Rattle.sums.proofs.Sum.{lt_or_ge, is_le}
use Rattle.sets.specs.ModelBits.{mask_bits, bit, union_of, meet_of, difference_of, below_of, count_of}
use Rattle.sets.proofs.Laws.{bit_le, bit-union, bit-meet, bit-difference, bit_below}
use Rattle.exchange.specs.ModelRow.{zone_count, cover, Valid, swap}
use Rattle.exchange.specs.ModelSwap.{fits}
use Rattle.exchange.proofs.Row.{fits_valid, valid_fits}
use Rattle.swaps.specs.ModelSwaps.{tight_of, targets_in, targets_of, cover_of, covered_of}
use Rattle.swaps.specs.ModelMates.{Mates}
use Rattle.swaps.proofs.Steps.{targets_spare, targets_crowded, targets_few, tight-spare, tight-all}
use Rattle.swaps.proofs.Touching.{bit_mate, mates-count, cover_law, covered_law}

-- How targets go by cases.
free_or_few : (mates : List ℕ) (all row mate z : ℕ)
    → ((targets_in all row mate (tight_of mates z row) ≡ difference_of all row) × (1 ≤ (count_of (meet_of row mate) - 1) + (cover_of mates row - z)))
    ⊎ ((targets_in all row mate (tight_of mates z row) ≡ meet_of (difference_of all row) (union_of mate (difference_of all (covered_of mates row))))
    × ((count_of (meet_of row mate) - 1) + (cover_of mates row - z) ≡ 0))
free_or_few mates all row mate z =
    ⊎_elim (λ l. inl (ap (targets_in all row mate) (tight-spare mates z row l) ∙ targets_spare all row mate, omega arith))
    (λ g. ⊎_elim
    (λ m. inl (targets_crowded all row mate (tight_of mates z row) m, omega arith))
    (λ k. inr (ap (targets_in all row mate) (tight-all mates z row g) ∙ targets_few all row mate (covered_of mates row) k, omega arith)) (lt_or_ge 1 (count_of (meet_of row mate))))
    (lt_or_ge z (cover_of mates row))

-- Where the row may lose a's zone, every node outside fits.
free-fit : (r x y i u : ℕ) → 1 ≤ x + y → r ≤ 1 → r ≡ min r (x + i + u + y)
free-fit r x y i u h l = omega arith

-- Where it may not, those of a's zone or of a new one do.
few_fit : (r x y i u : ℕ) → i ≤ 1 → x + y ≡ 0 → r ≤ 1 → min r (max i u) ≡ min r (x + i + u + y)
few_fit r x y i u h e l = omega arith

module _ (N : ℕ) (zone : ℕ → ℕ) (mates : List ℕ) (M : Mates N zone mates) (Z row a : ℕ) (small : row < 2 ^ N) (a_node : a < N) (a_in : bit row a ≡ 1) where
  -- The targets of a are the nodes outside the row that fit in its place.
  pub targets_fit : (b : ℕ) → b < N
      → bit (targets_of mates (below_of N) Z row a) b ≡ min (1 - bit row b) (fits N Z zone (bit row) (zone a) b)
  unfolding targets_of fits
  targets_fit b l =
      let k : b < mask_bits = omega (arith, M.few) in
      let C = covered_of mates row in
      let m = get_or mates a 0 in
      let x = zone_count N zone (bit row) (zone a) - 1 in
      let y = cover N zone (bit row) - Z in
      let i = is (zone b) (zone a) in
      let u = 1 - zone_count N zone (bit row) (zone b) in
      let cx = ap (λ (t : ℕ). t - 1) (mates-count N zone mates M row a small a_node) in
      let cy = ap (λ (t : ℕ). t - Z) (cover_law N zone mates M row small) in
      let free : bit (difference_of (below_of N) row) b ≡ 1 - bit row b =
      bit-difference (below_of N) row b k ∙ ap (λ (t : ℕ). t - bit row b) (bit_below N b k l) in
      let new : bit (difference_of (below_of N) C) b ≡ u =
      bit-difference (below_of N) C b k
      ∙ omega (arith, bit_below N b k l, covered_law N zone mates M row b small l) in
      let few : bit (meet_of (difference_of (below_of N) row) (union_of m (difference_of (below_of N) C))) b ≡ min (1 - bit row b) (max i u) =
      bit-meet (difference_of (below_of N) row) (union_of m (difference_of (below_of N) C)) b k
      ∙ ap₂ min free (bit-union m (difference_of (below_of N) C) b k ∙ ap₂ max (bit_mate N zone mates M a b a_node l) new) in
      ⊎_elim
      (λ w. ap (λ (t : ℕ). bit t b) w.0 ∙ (free ∙ free-fit (1 - bit row b) x y i u (subst (λ (t : ℕ). 1 ≤ t) (ap₂ ◌+◌ cx cy) w.1) (omega arith)))
      (λ w. ap (λ (t : ℕ). bit t b) w.0 ∙ (few ∙ few_fit (1 - bit row b) x y i u (is_le (zone b) (zone a)) (sym (ap₂ ◌+◌ cx cy) ∙ w.1) (omega arith)))
      (free_or_few mates (below_of N) row m Z)

  module _ (R : ℕ) (valid : Valid N R Z zone (bit row)) (b : ℕ) (b_node : b < N) where
    -- A target is outside the row, and the exchange of a for it leaves the row valid.
    pub target_valid : bit (targets_of mates (below_of N) Z row a) b ≡ 1 → (bit row b ≡ 0) × Valid N R Z zone (swap (bit row) a b)
    target_valid e =
        let o : bit row b ≡ 0 = omega (arith, targets_fit b b_node, bit_le row b) in
        let f : 1 ≤ fits N Z zone (bit row) (zone a) b = omega (arith, targets_fit b b_node) in
        (o, fits_valid N R Z zone (bit row) a b (M.inside a a_node) (M.inside b b_node) valid a_node b_node a_in o f)

    -- A node outside the row whose exchange for a leaves the row valid is a target.
    pub valid_target : bit row b ≡ 0 → Valid N R Z zone (swap (bit row) a b) → bit (targets_of mates (below_of N) Z row a) b ≡ 1
    valid_target o w =
        omega (
          arith,
          targets_fit b b_node,
          valid_fits N R Z zone (bit row) a b (M.inside a a_node) (M.inside b b_node) valid a_node b_node a_in w,
        )
