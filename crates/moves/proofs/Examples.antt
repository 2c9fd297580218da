-- The definition of the moves, tried on small clusters: the cells of their steps, worked out by hand, and what is held after some of them.
-- Assumes nothing.
use Prim.Native.Nat.{ℕ, ◌≤◌}
use mathlib.Core.Path.{◌≡◌, refl, ap, ◌∙◌}
use mathlib.Core.List.{List, [], ◌∷◌}
use mathlib.Core.Bool.{true}
use native.Mathlib.Omega.{arith}
use lib.ListN.{length}
use Rattle.sums.specs.TermsSums.{tab}
use Rattle.cluster.specs.Terms.{wide_row_cells, Topology, ids_of, mem, rising_from, rising, Layout}
use Rattle.cluster.specs.declared.Node.{Node}
use Rattle.moves.specs.TermsMoves.{surviving, survivors, missing, row_moves, moves_from, moves_of, source_of, step_cells, put_in, take_out, changed, made, after, held, held_again}
use Rattle.moves.proofs.WideRows.{wide_again}

abbrev node : ℕ → Node
node i = record { id = i; zone = 1; capacity = 9; ceiling = 256 }

abbrev two : Topology
two = record { bits = 0; replication = 2; redundancy = 1; nodes = node 1 ∷ node 2 ∷ [] }

abbrev later : Topology
later = record { bits = 0; replication = 2; redundancy = 1; nodes = node 2 ∷ node 3 ∷ [] }

abbrev three : Topology
three = record { bits = 0; replication = 2; redundancy = 1; nodes = node 1 ∷ node 2 ∷ node 3 ∷ [] }

abbrev alone : Topology
alone = record { bits = 0; replication = 1; redundancy = 1; nodes = node 1 ∷ [] }

abbrev halves : Topology
halves = record { bits = 1; replication = 1; redundancy = 1; nodes = node 1 ∷ node 2 ∷ [] }

-- The cells of the steps from F to L.
abbrev Steps : Topology → Layout → Layout → List ℕ → Type 0
Steps t F L cells = step_cells t F (moves_of t F L) ≡ cells

abbrev row3 : Layout
row3 = (3 ∷ []) ∷ []

abbrev row12 : Layout
row12 = (1 ∷ 2 ∷ []) ∷ []

-- Two sends from the one former node, then its drop.
two_sends : Steps three row3 row12 (0 ∷ 0 ∷ 1 ∷ 3 ∷ 0 ∷ 0 ∷ 2 ∷ 3 ∷ 1 ∷ 0 ∷ 3 ∷ 0 ∷ [])
unfolding step_cells moves_of moves_from row_moves missing survivors surviving source_of ids_of mem
two_sends = refl

-- What is held after none, one, two and three of these steps.
held_between : (held three row3 row12 0 0 ≡ 3 ∷ []) × (held three row3 row12 1 0 ≡ 1 ∷ 3 ∷ []) × (held three row3 row12 2 0 ≡ 1 ∷ 2 ∷ 3 ∷ [])
    × (held three row3 row12 3 0 ≡ 1 ∷ 2 ∷ [])
unfolding held after made changed put_in take_out moves_of moves_from row_moves missing survivors surviving ids_of mem
held_between = (refl, refl, refl, refl)

-- What is held after one step, as the former layout of a list made afresh.
again_one : held_again three row3 row12 1 ≡ (1 ∷ 3 ∷ []) ∷ []
unfolding held_again tab rising_from
again_one =
    wide_again (held three row3 row12 1) 1 (omega arith) (λ p l. few p (omega arith)) (λ p l. rises p (omega arith))
    ∙ ap (λ (r : List ℕ). r ∷ []) held_between.1
  where
    few : (p : ℕ) → p ≡ 0 → length (held three row3 row12 1 p) ≤ wide_row_cells
    few p e = omega (arith, ap (λ (q : ℕ). length (held three row3 row12 1 q)) e, ap length held_between.1)

    rises : (p : ℕ) → p ≡ 0 → rising (held three row3 row12 1 p) ≡ true
    rises p e = ap (λ (q : ℕ). rising (held three row3 row12 1 q)) e ∙ ap (λ (r : List ℕ). rising r) held_between.1

-- It has the steps that were left; the source is now the lower of the two nodes that have the copy.
rest-after-one : Steps three (held_again three row3 row12 1) row12 (0 ∷ 0 ∷ 2 ∷ 1 ∷ 1 ∷ 0 ∷ 3 ∷ 0 ∷ [])
unfolding step_cells moves_of moves_from row_moves missing survivors surviving source_of ids_of mem
rest-after-one = ap (λ (F : Layout). step_cells three F (moves_of three F row12)) again_one

-- A gone node is not dropped,
gone_node : Steps two ((2 ∷ 9 ∷ []) ∷ []) row12 (0 ∷ 0 ∷ 1 ∷ 2 ∷ [])
unfolding step_cells moves_of moves_from row_moves missing survivors surviving source_of ids_of mem
gone_node = refl

-- and where it is the lowest, the next one is the source.
gone_lowest : Steps later ((1 ∷ 3 ∷ []) ∷ []) ((2 ∷ 3 ∷ []) ∷ []) (0 ∷ 0 ∷ 2 ∷ 3 ∷ [])
unfolding step_cells moves_of moves_from row_moves missing survivors surviving source_of ids_of mem
gone_lowest = refl

-- Nothing was held: a send without a source.
no_former : Steps alone ([] ∷ []) ((1 ∷ []) ∷ []) (0 ∷ 0 ∷ 1 ∷ 0 ∷ [])
unfolding step_cells moves_of moves_from row_moves missing survivors surviving source_of ids_of mem
no_former = refl

-- Partition by partition: the drop of the first comes before the send of the second.
two_partitions : Steps halves ((2 ∷ []) ∷ (2 ∷ []) ∷ []) ((1 ∷ []) ∷ (1 ∷ []) ∷ [])
    (0 ∷ 0 ∷ 1 ∷ 2 ∷ 1 ∷ 0 ∷ 2 ∷ 0 ∷ 0 ∷ 1 ∷ 1 ∷ 2 ∷ 1 ∷ 1 ∷ 2 ∷ 0 ∷ [])
unfolding step_cells moves_of moves_from row_moves missing survivors surviving source_of ids_of mem
two_partitions = refl
