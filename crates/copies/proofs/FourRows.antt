-- The definition of the walk, tried: nodes 1, 2 and 4, and their counts before and after each of the rows 1 2, 2 4, 1 4 and 2.
-- Assumes nothing.
use Prim.Native.Nat.{ℕ}
use mathlib.Core.Path.{◌≡◌, refl}
use mathlib.Core.List.{List, [], ◌∷◌, ◌++◌}
use lib.ListN.{replicate}
use Rattle.sums.specs.TermsSums.{one_if, tab}
use Rattle.cluster.specs.Terms.{Topology, mem, ids_in}
use Rattle.cluster.specs.declared.Node.{Node}
use Rattle.copies.specs.TermsCounts.{count_row, counts_after}

abbrev node : ℕ → Node
node i = record { id = i; zone = 1; capacity = 9; ceiling = 256 }

abbrev nodes : Topology
nodes = record { bits = 2; replication = 2; redundancy = 1; nodes = node 1 ∷ node 2 ∷ node 4 ∷ [] }

abbrev rows : List ℕ
rows = 1 ∷ 2 ∷ replicate 6 0 ++ 2 ∷ 4 ∷ replicate 6 0 ++ 1 ∷ 4 ∷ replicate 6 0 ++ 2 ∷ replicate 7 0

-- After p rows the three nodes have so many copies, and the other slots none.
abbrev After : ℕ → ℕ → ℕ → ℕ → Type 0
After p a b c = counts_after nodes rows p ≡ a ∷ b ∷ c ∷ replicate 29 0

four-rows : After 0 0 0 0 × After 1 1 1 0 × After 2 1 2 1 × After 3 2 2 2 × After 4 2 3 2
unfolding counts_after count_row tab one_if mem ids_in
four-rows = (refl, refl, refl, refl, refl)
