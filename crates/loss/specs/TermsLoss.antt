-- The worst loss (2026-08): how many partitions are lost with some nodes, and the first set of so many nodes that costs the most. "Box" in the paper is a
-- node here.
-- Assumes nothing.
use Rattle.std.specs.Prelude.{ℕ, zero, suc, ◌+◌, ◌≤◌, ◌≡◌, ◌⊎◌, true, cond, List, [], ◌∷◌, ◌++◌, map, ltb, eqb, length, take}
use Rattle.sums.specs.TermsSums.{one_if}
use Rattle.cluster.specs.Terms.{Topology, ids_of, mem, rising, Layout, only_in}
use Rattle.cluster.specs.TermsFirst.{RowBefore}

-- "For a number of boxes lost, 0 to 4"
abbrev pub most_lost : ℕ
most_lost = 4

-- ---- what is lost

-- "A partition is lost when all its copies are (document 004's rule for fragments)": how many rows of a layout have all their ids among those of X.
unfoldable pub loss_of : Layout → List ℕ → ℕ
loss_of [] X = 0
loss_of (r ∷ rs) X = one_if (eqb (only_in r X) 0) + loss_of rs X

-- "a number of boxes lost": X is a set of n nodes of the cluster, written by rising id.
pub record Chosen (t : Topology) (n : ℕ) (X : List ℕ) : Type 0 where
  pub ids : rising X ≡ true
  pub many : length X ≡ n
  pub known : (i : ℕ) → mem i X ≡ true → mem i (ids_of t.nodes) ≡ true

-- "the most partitions that can lose every copy, and the first set of boxes by rising ids that costs so many": ids are compared from the left, and
-- the smaller one comes first, as in 2026-03.
pub record IsWorst (t : Topology) (L : Layout) (n lost : ℕ) (X : List ℕ) : Type 0 where
  pub chosen : Chosen t n X
  pub costs : loss_of L X ≡ lost
  pub most : (Y : List ℕ) → Chosen t n Y → loss_of L Y ≤ lost
  pub first : (Y : List ℕ) → Chosen t n Y → loss_of L Y ≡ lost → (X ≡ Y) ⊎ RowBefore X Y

-- ---- the sets, one after another

-- The sets of n of some ids, the first set first: those with the first id, then those without it.
unfoldable pub sets_of : ℕ → List ℕ → List (List ℕ)
sets_of zero ids = [] ∷ []
sets_of (suc n) [] = []
sets_of (suc n) (i ∷ ids) = map (λ X. i ∷ X) (sets_of n ids) ++ sets_of (suc n) ids

-- Of two sets the second where it costs more.
unfoldable pub costlier : Layout → List ℕ → List ℕ → List ℕ
costlier L X Y = cond (ltb (loss_of L X) (loss_of L Y)) Y X

-- The set kept so far, and then each of the others where it costs more.
unfoldable pub costliest : Layout → List ℕ → List (List ℕ) → List ℕ
costliest L X [] = X
costliest L X (Y ∷ Ys) = costliest L (costlier L X Y) Ys

-- The first set of n nodes that costs the most; it begins with the n lowest ids, which are the first set.
unfoldable pub worst_set : Topology → Layout → ℕ → List ℕ
worst_set t L n = costliest L (take n (ids_of t.nodes)) (sets_of n (ids_of t.nodes))
