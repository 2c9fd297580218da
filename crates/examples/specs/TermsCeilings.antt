-- Examples of request 2026-05, stated of the terms as the starred ones are and as one table with one proposition: each has an outcome that it would
-- not have without the ceiling.
-- Assumes nothing.
use Rattle.std.specs.Prelude.{ℕ, List, [], ◌∷◌}
use Rattle.cluster.specs.declared.Node.{Node}
use Rattle.examples.specs.TermsExamples.{no-layout, planned, Example, EveryHolds, node, cluster, no_copies, line, one}

-- A box as id/zone/capacity/ceiling.
abbrev pub limited : ℕ → ℕ → ℕ → ℕ → Node
limited i z c most = record { id = i; zone = z; capacity = c; ceiling = most }

-- A box of ceiling 0 holds nothing, and puts no limit on the size: 0, 1, 1; 1/1/5/0 2/1/3; none; size 3, row 2, sent 1. Row 1, which would be
-- valid at 5, is one copy too many for node 1; row 2 is valid up to 3.
abbrev pub closed : Example
closed = line (cluster 0 1 1 (limited 1 1 5 0 ∷ node 2 1 3 ∷ [])) (no_copies 1) (planned 3 1 (one 2 ∷ []))

-- No layout by ceilings alone: 1, 1, 1; 1/1/100/1; none; 9. Both partitions need a copy and there is one box, which may hold one.
abbrev pub too_few : Example
too_few = line (cluster 1 1 1 (limited 1 1 100 1 ∷ [])) (no_copies 2) no-layout

-- More to send: 1, 1, 1; 1/1/20/1 2/1/9; 0: 1, 1: 1; size 9, rows 1, 2, sent 1. Of 20 there are 19 usable, which take two copies at size 9, so
-- that rows 1, 1 would send nothing. One of them has to leave; node 2 takes one copy up to size 9, and two up to 4. Rows 2, 1 send as few and
-- come after rows 1, 2.
abbrev pub one_leaves : Example
one_leaves = line (cluster 1 1 1 (limited 1 1 20 1 ∷ node 2 1 9 ∷ [])) (one 1 ∷ one 1 ∷ []) (planned 9 1 (one 1 ∷ one 2 ∷ []))

-- The row 1 2.
abbrev pub row12 : List ℕ
row12 = 1 ∷ 2 ∷ []

-- Another zone: 1, 2, 1; 1/1/8 2/1/8/1 3/2/8; 0: 1 2, 1: 1 2; size 4, rows 1 2, 1 3, sent 1. Four copies on three boxes of 8 put two on one box, so
-- that no size is above 4. The former rows, all in zone 1, would do; but node 2 may hold one copy, so that one row needs node 3, of zone 2. Rows
-- 1 3, 1 2 send as few and come after rows 1 2, 1 3.
abbrev pub other_zone : Example
other_zone =
    line (cluster 1 2 1 (node 1 1 8 ∷ limited 2 1 8 1 ∷ node 3 2 8 ∷ [])) (row12 ∷ row12 ∷ []) (planned 4 1 (row12 ∷ (1 ∷ 3 ∷ []) ∷ []))

abbrev pub ceiling_table : List Example
ceiling_table = closed ∷ too_few ∷ one_leaves ∷ other_zone ∷ []

-- The one proposition: every example with a ceiling holds.
abbrev pub CeilingTable : Type 0
CeilingTable = EveryHolds ceiling_table
