-- From rows of ids in lent cells to sets of nodes as masks: what each function of the crate yields. Nobody has to believe this file:
-- the theorems of proofs/Laws.antt say what it achieves.
-- Assumes nothing.
use Rattle.std.specs.Prelude.{ℕ, ◌+◌, ◌*◌, List, [], ◌∷◌, ◌++◌, Bool, ◌&&◌, cond, ltb, leb, length, drop, get_or}
use Rattle.sums.specs.TermsSums.{every_to, tab}
use Rattle.sums.specs.ModelSums.{is}
use Rattle.cluster.specs.Terms.{buffer_rows, no_node, row_at, ids_in}
use Rattle.cell_rows.specs.ModelRows.{ill_formed, has_row, row_ids}
use Rattle.incidence.specs.ModelIncidence.{column}
use Rattle.cluster.specs.declared.Node.{Node}

-- The ids of the nodes, then zeros: what the rows are walked over.
unfoldable pub id_cells : List Node → List ℕ
id_cells ns = column (λ b. (get_or ns b no_node).id) (length ns)

-- ---- from cells to masks

-- At a node, ids below its own are passed. Then its digit is 1 where the next id is its own, and `rest` has the digits of the later nodes.
unfoldable pub named_at : Node → (List ℕ → ℕ) → List ℕ → ℕ
named_at n rest [] = 0
named_at n rest (x ∷ xs) = cond (ltb x n.id) (named_at n rest xs) (is x n.id + 2 * rest (x ∷ xs))

-- The nodes that ids name, as a mask, by one walk over both. Where both rise these are all; ids that no node has are left out.
unfoldable pub named : List Node → List ℕ → ℕ
named [] r = 0
named (n ∷ ns) r = named_at n (λ s. named ns s) r

-- The nodes that row p of the cells names; none where the row is not there whole.
unfoldable pub row_mask : List Node → List ℕ → ℕ → ℕ
row_mask ns cells p = cond (has_row cells p) (named ns (ids_in (row_at cells p))) 0

-- The first n rows as masks in the first n cells of `masks`; `masks` itself where n is more than a buffer has rows or than `masks` has cells.
unfoldable pub masks_read : List Node → List ℕ → ℕ → List ℕ → List ℕ
masks_read ns cells n masks =
    cond (leb n buffer_rows && leb n (length masks)) (tab (λ p. row_mask ns cells p) n ++ drop n masks) masks

-- ---- the rows of cells

-- Whether the first n rows are there, n at most as many as a buffer has, and each is rising ids followed by zeros.
unfoldable pub rows_formed : List ℕ → ℕ → Bool
rows_formed cells n = leb n buffer_rows && every_to n (λ p. ltb (row_ids cells p) ill_formed)
