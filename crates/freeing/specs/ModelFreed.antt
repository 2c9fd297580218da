-- A walk that is freed of crossed pairs, over rows of masks.
-- Assumes nothing.
use Rattle.std.specs.Prelude.{ℕ, List}
use Rattle.sets.specs.ModelBits.{bits_at}
use Rattle.exchange.specs.ModelUncross.{Walk, uncross}
use Rattle.walks.specs.ModelWalks.{ok_of}

-- A walk, freed of crossed pairs.
abbrev pub freed_of : List ℕ → List ℕ → ℕ → List ℕ → ℕ → ℕ → Walk → Walk
freed_of rows former P mates all z w = uncross w.len P 1 (bits_at former) (ok_of rows mates all z) w
