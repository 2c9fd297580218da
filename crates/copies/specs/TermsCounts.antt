-- The copies that the nodes hold: how they are counted, and what the counts are after each row (2026-06).
-- Assumes nothing.
use Rattle.std.specs.Prelude.{ℕ, zero, suc, ◌+◌, ◌<◌, ◌≡◌, cond, List, ltb, length, get_or, replicate}
use Rattle.sums.specs.TermsSums.{one_if, tab}
use Rattle.cluster.specs.Terms.{most_nodes, Topology, node_at, mem, Layout, copies_in, row_at, ids_in, rows_in}

-- "copies held per box in id order"; "unused cells 0"
unfoldable pub node_copies : Topology → Layout → ℕ → ℕ
node_copies t L b = cond (ltb b (length t.nodes)) (copies_in L (node_at t b).id) 0

-- "add to each box as it is met": the counts after one row more, in which each node that it names has one copy more.
unfoldable pub count_row : Topology → List ℕ → List ℕ → List ℕ
count_row t r counts = tab (λ b. get_or counts b 0 + one_if (mem (node_at t b).id r)) most_nodes

-- "walk the rows once, in the order in which they arrive": the counts after the first p rows of the cells, a count for each slot; before the first row all are 0.
unfoldable pub counts_after : Topology → List ℕ → ℕ → List ℕ
counts_after t cells zero = replicate most_nodes 0
counts_after t cells (suc p) = count_row t (ids_in (row_at cells p)) (counts_after t cells p)

-- "after each row the counts are, for every box, the copies in the rows so far"; in slots that are not in use they are 0.
abbrev pub CountedSoFar : Topology → List ℕ → Type 0
CountedSoFar t cells = (p b : ℕ) → b < most_nodes → get_or (counts_after t cells p) b 0 ≡ node_copies t (rows_in p cells) b
