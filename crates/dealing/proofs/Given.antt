-- The copies that the two passes give: within the caps, R * P in all where the caps have room for them, and Z * P of them where a zone counts for
-- at most P.
-- Assumes nothing.
use Prim.Native.Nat.{ℕ, ◌+◌, ◌-◌, ◌*◌, ◌≤◌, ◌<◌, min}
use mathlib.Core.Path.{◌≡◌, sym, ◌∙◌}
use native.Mathlib.Nat.{mul-le-mul_right}
use native.Mathlib.Omega.{arith}
use Rattle.sums.specs.TermsSums.{sum_to}
use Rattle.sums.proofs.Sum.{sum_cong, sum_le, sum-add}
use Rattle.dealing.specs.ModelDeal.{in_zone, pour, zoned, first_pass, more, given}
use Rattle.dealing.proofs.Climb.{pour_le, pour-sum, zones-sum, in_zone_le, zoned-sum}

module _ (P N R : ℕ) (zone cap : ℕ → ℕ) where
  -- The first pass keeps within the zones, within the caps, and within R * P.
  pub first_le_zoned : (b : ℕ) → first_pass P R zone cap b ≤ zoned P zone cap b
  unfolding first_pass
  first_le_zoned b = pour_le (R * P) (zoned P zone cap) b

  pub first_le : (b : ℕ) → first_pass P R zone cap b ≤ cap b
  unfolding zoned
  first_le b = omega (arith, first_le_zoned b)

  pub first-sum : sum_to N (first_pass P R zone cap) ≡ min (R * P) (sum_to N (zoned P zone cap))
  unfolding first_pass
  first-sum = pour-sum (R * P) (zoned P zone cap) N

  -- No node is given more than its cap.
  pub given_le : (b : ℕ) → given P N R zone cap b ≤ cap b
  unfolding given more
  given_le b =
      omega (arith, first_le b, pour_le (R * P - sum_to N (first_pass P R zone cap)) (λ c. cap c - first_pass P R zone cap c) b)

  -- All that is given: the caps, or R * P.
  pub given-sum : sum_to N (given P N R zone cap) ≡ min (R * P) (sum_to N cap)
  unfolding given more
  given-sum =
      let f = first_pass P R zone cap in
      let rest : sum_to N f + sum_to N (λ c. cap c - f c) ≡ sum_to N cap =
      sym (sum-add N f (λ c. cap c - f c)) ∙ sum_cong N (λ c. f c + (cap c - f c)) cap (λ c l. omega (arith, first_le c)) in
      sum-add N f (pour (R * P - sum_to N f) (λ c. cap c - f c))
      ∙ omega (arith, rest, pour-sum (R * P - sum_to N f) (λ c. cap c - f c) N, first-sum)

  -- The zones are as wide as they must be.
  pub given-zones : (Z : ℕ) → ((x : ℕ) → x < N → zone x < N) → Z ≤ R → Z * P ≤ sum_to N (λ z. min P (in_zone zone cap z N))
      → Z * P ≤ sum_to N (λ z. min P (in_zone zone (given P N R zone cap) z N))
  unfolding given
  given-zones Z zones le h =
      let f = first_pass P R zone cap in
      let all : sum_to N (zoned P zone cap) ≡ sum_to N (λ z. min P (in_zone zone cap z N)) =
      sym (zones-sum zone N (zoned P zone cap) N zones)
      ∙ sum_cong N (λ z. in_zone zone (zoned P zone cap) z N) (λ z. min P (in_zone zone cap z N)) (λ z l. zoned-sum zone P cap z N) in
      let kept : sum_to N (λ z. in_zone zone f z N) ≤ sum_to N (λ z. min P (in_zone zone (given P N R zone cap) z N)) =
      sum_le N (λ z. in_zone zone f z N) (λ z. min P (in_zone zone (given P N R zone cap) z N))
      (λ z l. omega (
        arith,
        in_zone_le zone f (zoned P zone cap) z N (λ x m. first_le_zoned x),
        zoned-sum zone P cap z N,
        in_zone_le zone f (given P N R zone cap) z N (λ x m. omega arith),
      )) in
      omega (arith, zones-sum zone N f N zones, first-sum, mul-le-mul_right P le)
