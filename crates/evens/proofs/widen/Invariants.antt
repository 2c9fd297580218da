-- `evens::widen` meets its contract. The nodes of the row that are no more left lead to those to which they may give way. Assumes nothing.
use Rattle.sets.proofs.Scan.{Left}
use Rattle.evens.proofs.Turns.{Widening}
use Rattle.evens.proofs.widen.Given as goal

abbrev pub invariant-loop-a : goal.invariant-loop-a
invariant-loop-a l = record {
  left : Left l.row l.a-iterator.left;
  done : Widening l.mates l.all l.z l.even l.row l.former l.a-iterator.left l.initial.leads l.leads;
}
