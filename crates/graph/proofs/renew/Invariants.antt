-- `graph::renew` meets its contract. The loop's invariant: the leaves of the branch that are not left are right. Assumes nothing.
use Rattle.sets.proofs.Scan.{Left}
use Rattle.graph.proofs.Keeping.{Filling}
use Rattle.graph.proofs.renew.Given as goal

abbrev pub invariant-loop-b : goal.invariant-loop-b
invariant-loop-b l = record {
  left : Left l.stale l.b-iterator.left;
  done : Filling l.given.former.now l.given.partitions l.given.mates.now l.all l.given.z l.rows l.i l.b-iterator.left l.initial.kept l.kept;
}
