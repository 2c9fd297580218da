-- The steps of the first rows, from sets of nodes. Nobody has to believe this file: proofs/MoveRows.antt says that they are those of the terms.
-- Assumes nothing.
use Rattle.std.specs.Prelude.{ℕ, zero, suc, List, [], ◌++◌}
use Rattle.sums.specs.TermsSums.{sum_to}
use Rattle.cluster.specs.Terms.{wide_row_cells, row_of, ids_in}
use Rattle.cluster.specs.declared.Node.{Node}
use Rattle.masks.specs.ModelMasks.{named, row_mask}
use Rattle.step_cells.specs.ModelSteps.{step_count, row_steps}

-- The nodes that wide row p of the cells names.
unfoldable pub wide_mask : List Node → List ℕ → ℕ → ℕ
wide_mask ns former p = named ns (ids_in (row_of wide_row_cells former p))

-- How many steps the first n partitions have.
unfoldable pub steps_to : List Node → List ℕ → List ℕ → ℕ → ℕ
steps_to ns former assignment n = sum_to n (λ p. step_count (wide_mask ns former p) (row_mask ns assignment p))

-- The cells of these steps.
unfoldable pub cells_to : List Node → List ℕ → List ℕ → ℕ → List ℕ
cells_to ns former assignment zero = []
cells_to ns former assignment (suc n) = cells_to ns former assignment n ++ row_steps ns n (wide_mask ns former n) (row_mask ns assignment n)
