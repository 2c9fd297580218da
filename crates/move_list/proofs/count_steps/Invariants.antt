-- `move_list::count_steps` meets its contract. The loop's invariant: the steps of the rows passed are counted.
-- Assumes nothing.
use Prim.Native.Nat.{◌≤◌, ◌*◌}
use mathlib.Core.Path.{◌≡◌}
use mathlib.Core.List.{List}
use Rattle.sets.specs.ModelBits.{mask_bits}
use Rattle.cluster.specs.Terms.{buffer_rows, ids_of}
use Rattle.cluster.specs.declared.Node.{Node}
use Rattle.move_list.specs.ModelMoveRows.{steps_to}
use Rattle.move_list.proofs.count_steps.Given as goal

abbrev pub invariant-loop-p : goal.invariant-loop-p
invariant-loop-p l =
    (l.partitions ≤ buffer_rows) × (l.steps ≤ 2 * mask_bits * l.p)
    × ((ns : List Node) → l.ids ≡ ids_of ns → l.steps ≡ steps_to ns l.former l.assignment l.p)
