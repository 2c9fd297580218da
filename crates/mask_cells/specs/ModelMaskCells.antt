-- From sets of nodes as masks to rows of ids in lent cells. Nobody has to believe this file: the theorems of proofs/Layouts.antt say what it achieves.
-- Assumes nothing.
use Rattle.std.specs.Prelude.{ℕ, List, ◌++◌, ◌&&◌, cond, leb, length, take, drop, get_or}
use Rattle.sums.specs.TermsSums.{tab}
use Rattle.sets.specs.ModelBits.{bit}
use Rattle.cluster.specs.Terms.{row_cells, buffer_rows, layout_cells, Layout, cells_of}
use Rattle.incidence.specs.ModelIncidence.{ids_where}
use Rattle.cluster.specs.declared.Node.{Node}

-- The layout whose row p has the ids of the nodes in mask p, in their order; a row has room for eight.
unfoldable pub rows_where : List Node → List ℕ → ℕ → Layout
rows_where ns masks n = tab (λ p. take row_cells (ids_where ns (bit (get_or masks p 0)))) n

-- Its cells in the place of the first 2,048; the cells themselves where these are fewer, or n is more than a buffer has rows or than there are masks.
unfoldable pub cells_written : List Node → List ℕ → ℕ → List ℕ → List ℕ
cells_written ns masks n cells =
    cond (leb n buffer_rows && (leb n (length masks) && leb layout_cells (length cells))) (cells_of (rows_where ns masks n) ++ drop layout_cells cells) cells
