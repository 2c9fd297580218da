-- What all C functions answer alike: numbers and nodes in lent cells, and a cluster that enters as its record. They add nothing to what reading, planning,
-- check, figures, showing and writing answer but the order of the refusals and the places of the numbers in lent cells.
-- Assumes nothing.
use Rattle.std.specs.Prelude.{ℕ, ◌/◌, ◌%◌, ◌^◌, cond, List, [], ◌∷◌, ◌++◌, ltb, eqb, length, drop, replicate}
use Rattle.cluster.specs.Terms.{layout_cells}
use Rattle.cluster.specs.declared.Node.{Node}
use Rattle.cluster_record.specs.RecordClusterAnswer.{read_cluster_of}
use Rattle.cluster_record.specs.RecordClusterAnswer.{ReadCluster}

-- ---- lent cells

-- A number of 64 bits or a byte position takes two cells, the high 32 bits first.
abbrev pub halves : ℕ → List ℕ
halves x = x / 2 ^ 32 ∷ x % 2 ^ 32 ∷ []

-- "an `answer` that is too short is refused before anything is touched": what is answered, or left in a lent slice, where the cells `answer`
-- are fewer than n, and where they are enough.
abbrev pub unless_short : {A : Type 0} → ℕ → List ℕ → A → A → A
unless_short n answer short x = cond (ltb (length answer) n) short x

-- The cells `answer` afterwards: n numbers from cell 0 on, the rest kept.
abbrev pub answer_after : ℕ → List ℕ → List ℕ → List ℕ
answer_after n answer numbers = unless_short n answer answer (numbers ++ drop n answer)

-- ---- the nodes of a cluster

-- The cells of a node: id, zone, capacity, ceiling.
abbrev pub node_cells_width : ℕ
node_cells_width = 4

-- The cells of nodes, one after the other; of a cluster they are all 32 slots, and those not in use are zero in every cluster a call yields.
unfoldable pub node_cells : List Node → List ℕ
node_cells [] = []
node_cells (n ∷ ns) = n.id ∷ n.zone ∷ n.capacity ∷ n.ceiling ∷ node_cells ns

-- ---- a cluster that enters as its record

-- The reading, with the former layout into 2,048 cells that are zero; its byte is 0 where it is not refused.
unfoldable pub reading : List ℕ → ReadCluster
reading s = read_cluster_of s (replicate layout_cells 0)

-- "reading's refusals come before the operation's": what is answered, or left in a lent slice, where the reading r is refused, and where it is not.
abbrev pub after_reading : {A : Type 0} → ReadCluster → A → A → A
after_reading r refused x = cond (eqb r.refusal 0) x refused
