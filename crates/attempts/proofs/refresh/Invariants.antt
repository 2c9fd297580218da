-- `attempts::refresh` meets its contract. The arcs that the loop passed lead anew. Assumes nothing.
use Rattle.attempts.specs.ModelDeciding.{Refreshed}
use Rattle.attempts.proofs.refresh.Given as goal

abbrev pub invariant-loop-i : goal.invariant-loop-i
invariant-loop-i l = Refreshed l.rows l.given.former.now l.given.partitions l.given.mates.now l.all l.given.z l.even l.y l.q l.i l.initial.leads l.leads
