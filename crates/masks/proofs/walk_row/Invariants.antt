-- `masks::walk_row` meets its contract. The invariant of both loops: the nodes that the row names are those of the mask, and what is left to
-- the walk.
-- Assumes nothing.
use Prim.Native.Nat.{◌≤◌, ◌<◌, ◌+◌, ◌-◌, ◌*◌, ◌^◌}
use mathlib.Core.Path.{◌≡◌}
use mathlib.Core.List.{List}
use lib.ListN.{length, take, drop}
use Rattle.cluster.specs.Terms.{ids_of, ids_in}
use Rattle.cluster.specs.declared.Node.{Node}
use Rattle.masks.specs.ModelMasks.{named}
use Rattle.masks.proofs.Named.{left}
use Rattle.masks.proofs.walk_row.Given as goal

abbrev pub invariant-loop-b : goal.invariant-loop-b
invariant-loop-b l =
    (l.b ≤ length l.ids) × (l.mask < 2 ^ l.b)
    × ((ns : List Node) → l.ids ≡ ids_of ns → named ns (ids_in (take (l.to - l.from) (drop l.from l.cells))) ≡ l.mask + 2 ^ l.b * left ns l.b l.cells l.to l.i)

abbrev pub decreases-loop-b : goal.decreases-loop-b
decreases-loop-b l = length l.ids - l.b

abbrev pub invariant-loop-i : goal.invariant-loop-i
invariant-loop-i l =
    (l.b ≤ length l.ids) × (l.mask < 2 ^ l.b)
    × ((ns : List Node) → l.ids ≡ ids_of ns → named ns (ids_in (take (l.to - l.from) (drop l.from l.cells))) ≡ l.mask + 2 ^ l.b * left ns l.b l.cells l.to l.i)
