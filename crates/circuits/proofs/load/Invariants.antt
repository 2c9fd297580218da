-- `circuits::load` meets its contract. The loop has written the nodes and the witnesses of the arcs that it passed. Assumes nothing.
use Rattle.circuits.specs.ModelCircuits.{witness_in}
use Rattle.cells.specs.ModelCells.{put}
use lib.ListN.{get_or}
use mathlib.Core.Path.{◌≡◌}
use Rattle.circuits.proofs.load.Given as goal

abbrev pub invariant-loop-t : goal.invariant-loop-t
invariant-loop-t l = (l.y ≡ put 0 (λ s. get_or l.walk s 0) l.t l.initial.y)
    × (l.q ≡ put 0 (witness_in l.walk l.rows l.given.former.now l.given.partitions l.given.mates.now l.arcs l.all l.given.z) l.t l.initial.q)
