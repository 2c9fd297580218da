-- `arcs::add_row` meets its contract. The loop's invariant: the nodes of the row that are no more left have been noted. Assumes nothing.
use Rattle.sets.proofs.Scan.{Left}
use Rattle.arcs.specs.ModelGrowth.{Grown}
use Rattle.arcs.proofs.Turns.{doing}
use Rattle.arcs.proofs.add_row.Given as goal

abbrev pub invariant-loop-a : goal.invariant-loop-a
invariant-loop-a l = record {
  left : Left l.row l.a-iterator.left;
  done : Grown (doing l.mates l.all l.z l.row l.former l.a-iterator.left) l.initial.arcs l.arcs;
}
