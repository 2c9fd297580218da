-- `move_list::put_steps` meets its contract. The loop's invariant: the steps of the rows passed are written, and the cells after them are as lent.
-- Assumes nothing.
use Prim.Native.Nat.{◌≤◌, ◌*◌}
use mathlib.Core.Path.{◌≡◌}
use mathlib.Core.List.{List, ◌++◌}
use lib.ListN.{drop}
use Rattle.cluster.specs.Terms.{buffer_rows, ids_of}
use Rattle.cluster.specs.declared.Node.{Node}
use Rattle.moves.specs.TermsMoves.{step_width}
use Rattle.move_list.specs.ModelMoveRows.{steps_to, cells_to}
use Rattle.move_list.proofs.put_steps.Given as goal

abbrev pub invariant-loop-p : goal.invariant-loop-p
invariant-loop-p l =
    (l.partitions ≤ buffer_rows)
    × ((ns : List Node) → l.ids ≡ ids_of ns → (l.at ≡ step_width * steps_to ns l.former l.assignment l.p)
    × (l.cells ≡ cells_to ns l.former l.assignment l.p ++ drop (step_width * steps_to ns l.former l.assignment l.p) l.initial.cells))
