-- The members of a set one after another: what is left to come is a set, and its least member comes next.
-- Assumes nothing.
use Rattle.std.specs.Prelude.{◌≡◌, ◌≢◌, ℕ, ◌^◌, ◌<◌, Option, MatchOption}
use Rattle.sets.specs.ModelBits.{mask_bits, without_of, least_of}

-- The member i came out of the set s, and t is left: what a loop over the members knows at each turn.
pub record Comes (s i t : ℕ) : Type 0 where
  pub word : s < 2 ^ mask_bits
  pub some : s ≢ 0
  pub least : i ≡ least_of s
  pub below : i < mask_bits
  pub rest : t ≡ without_of s (least_of s)

-- One step from the set s, which leaves t: a member, or none where s has none.
abbrev pub Steps : ℕ → Option ℕ → ℕ → Type 0
Steps s r t = MatchOption r ((s ≡ 0) × (t ≡ 0)) (λ i. Comes s i t)
