-- The agreement of rows of masks with the former rows. Nobody has to believe this file: the theorem of crates/planning/proofs/Demands.antt says in the paper's
-- terms what it comes to.
-- Assumes nothing.
use Rattle.std.specs.Prelude.{ℕ, cond, ◌||◌, List, ltb, length, get_or}
use Rattle.cluster.specs.Terms.{buffer_rows}
use Rattle.sums.specs.TermsSums.{sum_to}
use Rattle.sets.specs.ModelBits.{meet_of, count_of}

-- How many pairs the rows share with the former rows.
unfoldable pub agreement_in : List ℕ → List ℕ → ℕ → ℕ
agreement_in rows former P = sum_to P (λ p. count_of (meet_of (get_or rows p 0) (get_or former p 0)))

-- The same as code answers it: 0 for more partitions than there are rows.
unfoldable pub shared_in : List ℕ → List ℕ → ℕ → ℕ
shared_in rows former P = cond (ltb buffer_rows P || ltb (length rows) P || ltb (length former) P) 0 (agreement_in rows former P)
