-- `arcs::add_rows` meets its contract. The loop's invariant: the rows passed have been added. Assumes nothing.
use lib.ListN.{drop}
use Rattle.arcs.specs.ModelMoves.{moves_to}
use Rattle.arcs.specs.ModelGrowth.{Grown}
use Rattle.arcs.proofs.add_rows.Given as goal

abbrev pub invariant-loop-i : goal.invariant-loop-i
invariant-loop-i l = Grown (moves_to (drop l.first l.rows) (drop l.first l.given.former.now) l.i l.given.mates.now l.all l.given.z) l.initial.arcs l.arcs
