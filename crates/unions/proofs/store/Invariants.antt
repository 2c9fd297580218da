-- `unions::store` meets its contract. The loop's invariant: the cells passed are written. Assumes nothing.
use mathlib.Core.Path.{◌≡◌}
use lib.ListN.{get_or}
use Rattle.cells.specs.ModelCells.{put}
use Rattle.unions.proofs.store.Given as goal

abbrev pub invariant-loop-t : goal.invariant-loop-t
invariant-loop-t l = l.kept ≡ put l.at (λ i. get_or l.cells i 0) l.t l.initial.kept
