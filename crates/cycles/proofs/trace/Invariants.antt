-- `cycles::trace` meets its contract. Assumes nothing.
use mathlib.Core.Path.{◌≡◌}
use Rattle.cells.specs.ModelCells.{put}
use Rattle.cycles.specs.ModelTrails.{trail, trail_length}
use Rattle.cycles.proofs.Parts.{trail_from}
use Rattle.cycles.proofs.trace.Given as goal

abbrev pub invariant-loop-t : goal.invariant-loop-t
invariant-loop-t l =
    (l.x ≡ trail l.table l.k l.v l.t) × (l.walk ≡ put 0 (trail l.table l.k l.v) l.t l.initial.walk) × (trail_length l.table l.k l.v ≡ trail_from l.table l.k l.v l.t)
