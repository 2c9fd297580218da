-- `leads::even` meets its contract. The cells of the nodes before a have the sets of the levels about theirs. Assumes nothing.
use mathlib.Core.Path.{◌≡◌}
use lib.ListN.{length}
use Rattle.levels.specs.ModelGraph.{arc_cells}
use Rattle.leads.proofs.Standing.{Sided}
use Rattle.leads.proofs.even.Given as goal

abbrev pub invariant-loop-a : goal.invariant-loop-a
invariant-loop-a l = (length l.even ≡ arc_cells) × Sided l.levels l.at l.a l.even
