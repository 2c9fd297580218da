-- `unions::unite` meets its contract. The loop's invariant: the cells passed are united. Assumes nothing.
use Prim.Native.Nat.{◌+◌}
use mathlib.Core.Path.{◌≡◌}
use lib.ListN.{get_or}
use Rattle.sets.specs.ModelBits.{union_of}
use Rattle.cells.specs.ModelCells.{put}
use Rattle.unions.proofs.unite.Given as goal

abbrev pub invariant-loop-t : goal.invariant-loop-t
invariant-loop-t l = l.held ≡ put 0 (λ i. union_of (get_or l.initial.held i 0) (get_or l.kept (l.at + i) 0)) l.t l.initial.held
