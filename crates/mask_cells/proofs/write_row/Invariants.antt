-- `mask_cells::write_row` meets its contract. The loop's invariant: the ids before the cell are written into a blank row, and those from it on are
-- the ids of what is left of the mask.
-- Assumes nothing.
use mathlib.Core.Path.{◌≡◌}
use mathlib.Core.List.{List}
use lib.ListN.{drop, get_or}
use Rattle.cluster.specs.Terms.{ids_of}
use Rattle.cluster.specs.declared.Node.{Node}
use Rattle.sets.specs.ModelBits.{bit}
use Rattle.cells.specs.ModelCells.{put}
use Rattle.incidence.specs.ModelIncidence.{ids_where}
use Rattle.mask_cells.proofs.write_row.Given as goal

abbrev pub invariant-loop-j : goal.invariant-loop-j
invariant-loop-j l =
    (ns : List Node) → l.ids ≡ ids_of ns
    → (l.cells ≡ put l.from (λ i. get_or (ids_where ns (bit l.mask)) i 0) l.j l.initial.cells) × (drop l.j (ids_where ns (bit l.mask)) ≡ ids_where ns (bit l.nodes.left))
