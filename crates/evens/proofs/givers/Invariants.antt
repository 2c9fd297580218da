-- `evens::givers` meets its contract. Of the nodes that are no more left those that may give way are found. Assumes nothing.
use Rattle.sets.proofs.Scan.{Left}
use Rattle.evens.proofs.Turns.{Found}
use Rattle.evens.proofs.givers.Given as goal

abbrev pub invariant-loop-a : goal.invariant-loop-a
invariant-loop-a l = record {
  left : Left l.initial.a-iterator.left l.a-iterator.left;
  done : Found l.mates l.all l.z l.row l.b l.initial.a-iterator.left l.a-iterator.left l.found;
}
