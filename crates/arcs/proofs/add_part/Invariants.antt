-- `arcs::add_part` meets its contract. The loop's invariant: the nodes of the part that are no more left have their sets. Assumes nothing.
use Rattle.sets.proofs.Scan.{Left}
use Rattle.arcs.specs.ModelMoves.{leads}
use Rattle.arcs.specs.ModelGrowth.{Grown}
use Rattle.arcs.proofs.Turns.{adding}
use Rattle.arcs.proofs.add_part.Given as goal

abbrev pub invariant-loop-a : goal.invariant-loop-a
invariant-loop-a l = record {
  left : Left l.part l.a-iterator.left;
  done : Grown (adding l.part l.a-iterator.left (leads l.h l.low l.high)) l.initial.arcs l.arcs;
}
