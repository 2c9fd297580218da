-- The steps of one partition, from sets of nodes. Nobody has to believe this file: proofs/RowCells.antt says that they are those of the terms.
-- Assumes nothing.
use Rattle.std.specs.Prelude.{ℕ, ◌+◌, List, [], ◌∷◌, ◌++◌, get_or}
use Rattle.sets.specs.ModelBits.{bit, difference_of, count_of}
use Rattle.incidence.specs.ModelIncidence.{ids_where}
use Rattle.cluster.specs.declared.Node.{Node}

-- How many steps lead from the nodes `old` to the nodes `new`.
unfoldable pub step_count : ℕ → ℕ → ℕ
step_count old new = count_of (difference_of new old) + count_of (difference_of old new)

-- The lowest id of the nodes of a set, 0 where it has none.
unfoldable pub first_id : List Node → ℕ → ℕ
first_id ns nodes = get_or (ids_where ns (bit nodes)) 0 0

-- The cells of steps of one kind, partition and source, one for each id.
unfoldable pub kind_cells : ℕ → ℕ → ℕ → List ℕ → List ℕ
kind_cells kind p source [] = []
kind_cells kind p source (i ∷ is) = kind ∷ p ∷ i ∷ source ∷ kind_cells kind p source is

-- The cells of the steps of partition p from the nodes `old` to the nodes `new`.
unfoldable pub row_steps : List Node → ℕ → ℕ → ℕ → List ℕ
row_steps ns p old new =
    kind_cells 0 p (first_id ns old) (ids_where ns (bit (difference_of new old))) ++ kind_cells 1 p 0 (ids_where ns (bit (difference_of old new)))
