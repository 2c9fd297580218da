-- `graph::build` meets its contract. The loop's invariant: the leaves of the branches passed, and these branches, are right. Assumes nothing.
use Rattle.graph.specs.ModelKept.{Kept}
use Rattle.graph.proofs.Keeping.{stale_from}
use Rattle.graph.proofs.build.Given as goal

abbrev pub invariant-loop-i : goal.invariant-loop-i
invariant-loop-i l = Kept l.rows l.given.former.now l.given.partitions l.given.mates.now l.all l.given.z (stale_from l.stale l.i) l.kept
