-- The walks over the cells of rows. Nobody has to believe this file: proofs/Named.antt says that they go through the ids of the rows.
-- Assumes nothing.
use Rattle.std.specs.Prelude.{ℕ, ◌+◌, ◌≤◌, ◌≡◌, cond, List, [], ◌∷◌, ltb, leb, eqb}
use Rattle.sums.specs.ModelSums.{is}
use Rattle.cluster.specs.Terms.{mem}

-- Of the least number above `last` so far, 0 for none, and one more, the least.
unfoldable pub nearer_of : ℕ → ℕ → ℕ → ℕ
nearer_of last least x = cond (leb x last) least (cond (eqb least 0) x (cond (ltb x least) x least))

unfoldable pub least_from : ℕ → ℕ → List ℕ → ℕ
least_from last least [] = least
least_from last least (x ∷ xs) = least_from last (nearer_of last least x) xs

-- The least number above `last` in a list; 0 where there is none.
unfoldable pub least_above : ℕ → List ℕ → ℕ
least_above last l = least_from last 0 l

-- How often a number stands in a list.
unfoldable pub count_in : ℕ → List ℕ → ℕ
count_in i [] = 0
count_in i (x ∷ xs) = is x i + count_in i xs

-- The same ids stand in two lists of cells; 0 is none.
abbrev pub SameIds : List ℕ → List ℕ → Type 0
SameIds k l = (i : ℕ) → 1 ≤ i → mem i k ≡ mem i l
