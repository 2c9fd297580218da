-- What the slice of mates holds in planning.
-- Assumes nothing.
use Rattle.std.specs.Prelude.{ℕ, ◌≤◌, ◌<◌, ◌≡◌, List, get_or}
use Rattle.sums.specs.ModelSums.{is}
use Rattle.sets.specs.ModelBits.{mask_bits, mask_of}

-- N nodes, of which `zone` tells the zone as a number below N; cell b of `mates` is the set of the nodes of b's zone.
pub record Mates (N : ℕ) (zone : ℕ → ℕ) (mates : List ℕ) : Type 0 where
  pub few : N ≤ mask_bits
  pub inside : (b : ℕ) → b < N → zone b < N
  pub mate : (b : ℕ) → b < N → get_or mates b 0 ≡ mask_of (λ c. is (zone c) (zone b)) N
