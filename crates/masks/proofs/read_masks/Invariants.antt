-- `masks::read_masks` meets its contract. The loop's invariant: the masks of the rows passed are written.
-- Assumes nothing.
use mathlib.Core.Path.{◌≡◌}
use mathlib.Core.List.{List, ◌++◌}
use lib.ListN.{drop}
use Rattle.sums.specs.TermsSums.{tab}
use Rattle.cluster.specs.Terms.{ids_of}
use Rattle.cluster.specs.declared.Node.{Node}
use Rattle.masks.specs.ModelMasks.{row_mask}
use Rattle.masks.proofs.read_masks.Given as goal

abbrev pub invariant-loop-p : goal.invariant-loop-p
invariant-loop-p l =
    (ns : List Node) → l.ids ≡ ids_of ns → l.masks ≡ tab (λ q. row_mask ns l.cells q) l.p ++ drop l.p l.initial.masks
