-- `answers::put_nodes` meets its contract. The loop's invariant: the cells before them are kept, the cells of the first b slots are written.
-- Assumes nothing.
use Prim.Native.Nat.{◌+◌, ◌*◌}
use mathlib.Core.Path.{◌≡◌}
use mathlib.Core.List.{◌++◌}
use lib.ListN.{take, drop}
use Rattle.answers.specs.TermsAnswers.{node_cells_width, node_cells}
use Rattle.answers.proofs.put_nodes.Given as goal

abbrev pub invariant-loop-b : goal.invariant-loop-b
invariant-loop-b l = l.cells ≡ take l.at l.initial.cells ++ node_cells (take l.b l.fn.c.nodes) ++ drop (l.at + node_cells_width * l.b) l.initial.cells
