-- `circuits::renew` meets its contract. The arcs that the loop passed stand, at their new partitions. Assumes nothing.
use mathlib.Core.Bool.{true}
use mathlib.Core.Path.{◌≡◌}
use Rattle.sums.specs.TermsSums.{every_to}
use Rattle.cells.specs.ModelCells.{put}
use Rattle.circuits.proofs.Steps.{renewed_in, stands_in}
use Rattle.circuits.proofs.renew.Given as goal

abbrev pub invariant-loop-t : goal.invariant-loop-t
invariant-loop-t l = (l.q ≡ put 0 (renewed_in l.rows l.given.former.now l.given.partitions l.given.mates.now l.all l.given.z l.given.caps.now l.y l.initial.q) l.t l.initial.q) × (every_to l.t (stands_in l.rows l.given.former.now l.given.partitions l.given.mates.now l.all l.given.z l.given.caps.now l.y l.initial.q) ≡ true)
