-- The line of all copies, as it is computed from the copies of the zones.
-- Assumes nothing.
use Prim.Native.Nat.{ℕ, ◌+◌, ◌-◌, ◌*◌, ◌≤◌, ◌<◌}
use mathlib.Core.Path.{◌≡◌, ap₂, ◌∙◌}
use mathlib.Core.List.{List}
use mathlib.Core.Logic.{⊎_elim}
use native.Mathlib.Nat.{mul-le-mul_right}
use native.Mathlib.Omega.{arith}
use Rattle.dealing.proofs.Line.{light_zone, heavy_zone, lights_heavies}
use Rattle.cluster.specs.Terms.{most_nodes, buffer_rows}
use Rattle.sums.specs.TermsSums.{sum_to}
use Rattle.sums.proofs.Sum.{lt_or_ge}
use Rattle.dealing.specs.ModelDeal.{totals, in_zone, light, zone_start, start}
use Rattle.incidence.specs.ModelIncidence.{cell, column}
use Rattle.tallies.specs.ModelTallies.{most_in_zone, AtMost}
use Rattle.tallies.proofs.Adding.{sum_bound, zone_bound}
use Rattle.shares.proofs.Agree.{zone_start_agree}
use Rattle.shares.proofs.Agree.{cells_agree}

module _ (P : ℕ) (t : ℕ → ℕ) where
  -- A heavy zone begins after all light zones and what the zones before it have besides light ones.
  pub begins_heavy : (n z : ℕ) → P ≤ t z → sum_to n (light P t) + (sum_to z t - sum_to z (light P t)) ≡ zone_start P n t z
  begins_heavy n z h = omega (arith, lights_heavies P t z, heavy_zone P n t z h)

  -- Where a zone begins is bounded.
  pub begins_bound : (n z m : ℕ) → n ≤ most_nodes → z < most_nodes → ((x : ℕ) → x < most_nodes → t x ≤ m) → zone_start P n t z ≤ most_nodes * m + most_nodes * m
  begins_bound n z m few low h =
      let all : (k : ℕ) → k ≤ most_nodes → sum_to k t ≤ most_nodes * m = λ k l. omega (arith, sum_bound t k m (λ x i. h x (omega arith)), mul-le-mul_right m l) in
      ⊎_elim (λ l. omega (arith, light_zone P n t z l, lights_heavies P t z, all z (omega arith)))
      (λ l. omega (arith, heavy_zone P n t z l, lights_heavies P t z, lights_heavies P t n, all z (omega arith), all n few)) (lt_or_ge (t z) P)

-- Where a node's copies begin, from the array of the copies of the zones.
pub start-cells : (P n : ℕ) (zone copies : ℕ → ℕ) (sums : List ℕ) (b begin before : ℕ) → n ≤ most_nodes → zone b < most_nodes
    → sums ≡ column (totals zone copies n) most_nodes → begin ≡ zone_start P n (cell sums) (zone b) → before ≡ in_zone zone copies (zone b) b
    → begin + before ≡ start P n zone copies b
unfolding start
start-cells P n zone copies sums b begin before few low e s i =
    ap₂ ◌+◌
    (s ∙ zone_start_agree P n most_nodes (cell sums) (totals zone copies n) (cells_agree (totals zone copies n) most_nodes sums (omega arith) e) few (zone b) low) i

-- The copies of a zone are at most one of each partition on each node.
pub totals-most : (zone copies : ℕ → ℕ) (n : ℕ) (sums : List ℕ) → n ≤ most_nodes → ((b : ℕ) → b < n → copies b ≤ buffer_rows)
    → sums ≡ column (totals zone copies n) most_nodes → AtMost most_in_zone most_nodes sums
totals-most zone copies n sums few h e z l =
    omega (arith, cells_agree (totals zone copies n) most_nodes sums (omega arith) e z l, zone_bound zone copies n z buffer_rows h)
