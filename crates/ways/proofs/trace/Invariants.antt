-- `ways::trace` meets its contract. The loop has traced the way back from the goal, up to arc i. Assumes nothing.
use Rattle.ways.specs.ModelWays.{arc_for}
use Rattle.ways.proofs.Tracing.{Tracing}
use Rattle.ways.proofs.trace.Given as goal

abbrev pub invariant-loop-i : goal.invariant-loop-i
invariant-loop-i l =
    Tracing l.leads l.b l.goal l.k l.i (arc_for l.rows l.given.former.now l.given.partitions l.given.mates.now l.given.caps.now l.all l.given.z l.even l.p l.b) l.given.partitions l.y l.q
