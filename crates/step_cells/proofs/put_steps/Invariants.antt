-- `step_cells::put_steps` meets its contract. The loop's invariant: what the cells come to, by what is written and what is left, stays as it was.
-- Assumes nothing.
use Prim.Native.Nat.{◌<◌, ◌+◌, ◌*◌, ◌^◌}
use mathlib.Core.Path.{◌≡◌}
use mathlib.Core.List.{List}
use lib.ListN.{length}
use Rattle.sets.specs.ModelBits.{count_of}
use Rattle.cluster.specs.Terms.{ids_of}
use Rattle.cluster.specs.declared.Node.{Node}
use Rattle.moves.specs.TermsMoves.{step_width}
use Rattle.step_cells.proofs.StepWalk.{comes_to}
use Rattle.step_cells.proofs.put_steps.Given as goal

abbrev pub invariant-loop-b : goal.invariant-loop-b
invariant-loop-b l =
    (l.b-iterator.left < 2 ^ length l.ids) × (l.to + step_width * count_of l.b-iterator.left ≡ l.at + step_width * count_of l.steps.nodes)
    × ((ns : List Node) → l.ids ≡ ids_of ns
    → comes_to ns l.steps.kind l.steps.partition l.steps.source l.cells l.to l.b-iterator.left ≡ comes_to ns l.steps.kind l.steps.partition l.steps.source l.initial.cells l.at l.steps.nodes)
