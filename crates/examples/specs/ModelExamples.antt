-- A test of an example that computes: it lists every layout that could be valid, and looks at each. Nobody has to believe this file: that an
-- example which passes holds is a theorem (proofs/Table.antt).
-- Assumes nothing.
use Rattle.std.specs.Prelude.{ℕ, zero, suc, Bool, true, false, not, ◌&&◌, ◌||◌, List, [], ◌∷◌, ◌++◌, map, ltb, leb, eqb, length}
use Rattle.cluster.specs.Terms.{takes, most_bits, most_copies, most_nodes, most_ceiling, Topology, partitions, ids_of, mem, rising, zones_of, Layout, copies_in, sent}
use Rattle.cluster.specs.declared.Node.{Node}
use Rattle.examples.specs.TermsExamples.{Expected, no-layout, planned, Example}

-- ---- tests over a list

-- A test holds of all of a list.
unfoldable pub every : {A : Type 0} → (A → Bool) → List A → Bool
every f [] = true
every f (x ∷ xs) = f x && every f xs

-- The second test is asked only where the first holds.
unfoldable pub implies : Bool → Bool → Bool
implies true b = b
implies false b = true

-- ---- all candidates

-- The rows of n ids out of a list, in its order.
unfoldable pub choices : ℕ → List ℕ → List (List ℕ)
choices zero ids = [] ∷ []
choices (suc n) [] = []
choices (suc n) (x ∷ xs) = map (λ (r : List ℕ). x ∷ r) (choices n xs) ++ choices (suc n) xs

-- Each row of a list before each layout of another.
unfoldable pub before : List (List ℕ) → List Layout → List Layout
before [] rest = []
before (r ∷ rs) rest = map (λ (L : Layout). r ∷ L) rest ++ before rs rest

-- The layouts of n rows out of a list.
unfoldable pub layouts_of : ℕ → List (List ℕ) → List Layout
layouts_of zero rows = [] ∷ []
layouts_of (suc n) rows = before rows (layouts_of n rows)

-- The layouts that give each partition a row of R ids of the cluster.
unfoldable pub candidates : Topology → List Layout
candidates t = layouts_of (partitions t) (choices t.replication (ids_of t.nodes))

-- ---- the terms as tests

-- ValidRow.
unfoldable pub row_test : Topology → List ℕ → Bool
row_test t r =
    rising r
    && (eqb (length r) t.replication && (every (λ (i : ℕ). mem i (ids_of t.nodes)) r && leb t.redundancy (zones_of t.nodes r)))

-- What ValidAt asks of a node.
unfoldable pub node_test : Layout → ℕ → Node → Bool
node_test L s n = takes n (copies_in L n.id) s

-- ValidAt.
unfoldable pub valid_test : Topology → Layout → ℕ → Bool
valid_test t L s = ltb 0 s && (eqb (length L) (partitions t) && (every (row_test t) L && every (node_test L s) t.nodes))

-- Accepted.
unfoldable pub accepted_test : Topology → Bool
accepted_test t =
    leb t.bits most_bits
    && (ltb 0 t.replication
    && (leb t.replication most_copies
    && (ltb 0 t.redundancy
    && (leb t.redundancy t.replication
    && (leb (length t.nodes) most_nodes && (rising (ids_of t.nodes) && every (λ (n : Node). leb n.ceiling most_ceiling) t.nodes))))))

-- What IsFormer asks of a row.
unfoldable pub former_row_test : List ℕ → Bool
former_row_test r = rising r && leb (length r) most_copies

-- IsFormer.
unfoldable pub former_test : Topology → Layout → Bool
former_test t F = eqb (length F) (partitions t) && every former_row_test F

-- Equality of rows, and of layouts.
unfoldable pub same_row : List ℕ → List ℕ → Bool
same_row [] [] = true
same_row [] (y ∷ ys) = false
same_row (x ∷ xs) [] = false
same_row (x ∷ xs) (y ∷ ys) = eqb x y && same_row xs ys

unfoldable pub same_layout : Layout → Layout → Bool
same_layout [] [] = true
same_layout [] (q ∷ qs) = false
same_layout (r ∷ rs) [] = false
same_layout (r ∷ rs) (q ∷ qs) = same_row r q && same_layout rs qs

-- RowBefore, and Before.
unfoldable pub row_before_test : List ℕ → List ℕ → Bool
row_before_test [] r = false
row_before_test (x ∷ xs) [] = false
row_before_test (x ∷ xs) (y ∷ ys) = ltb x y || (eqb x y && row_before_test xs ys)

unfoldable pub before_test : Layout → Layout → Bool
before_test [] M = false
before_test (r ∷ rs) [] = false
before_test (r ∷ rs) (q ∷ qs) = row_before_test r q || (same_row r q && before_test rs qs)

-- ---- the outcome

-- A layout valid at the size that sends as many copies as named.
unfoldable pub nearest : Topology → Layout → ℕ → ℕ → Layout → Bool
nearest t F s d L = valid_test t L s && eqb (sent t L F) d

-- A layout is not valid at a larger size; valid at the size it sends no less than M does; and where it sends as few, it is M or comes after it.
unfoldable pub agrees : Topology → Layout → ℕ → ℕ → Layout → Layout → Bool
agrees t F s d M L =
    not (valid_test t L (suc s))
    && (implies (valid_test t L s) (leb d (sent t L F)) && implies (nearest t F s d L) (same_layout M L || before_test M L))

-- Comes: the layout that the example names is valid and sends what it says, and all candidates agree with it.
unfoldable pub outcome_test : Topology → Layout → Expected → Bool
outcome_test t F no-layout = every (λ (L : Layout). not (valid_test t L 1)) (candidates t)
outcome_test t F (planned s d M) = nearest t F s d M && every (agrees t F s d M) (candidates t)

-- An example passes.
unfoldable pub passes : Example → Bool
passes e =
    accepted_test e.topology
    && (former_test e.topology e.former && outcome_test e.topology e.former e.outcome)
