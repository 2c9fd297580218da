-- `crossings::gains` meets its contract. The loop has added the costs of the arcs that it passed to that of the closing arc. Assumes nothing.
use Rattle.crossings.proofs.Steps.{entry_cost, costs_after}
use Rattle.sets.specs.ModelBits.{bits_at}
use mathlib.Core.Path.{◌≡◌}
use Prim.Native.Nat.{◌+◌, ◌*◌, ◌≤◌, ◌-◌}
use Rattle.crossings.proofs.gains.Given as goal

abbrev pub invariant-loop-t : goal.invariant-loop-t
invariant-loop-t l = (l.sum ≤ 2 * l.t)
    × (l.sum ≡ entry_cost l.given.partitions (bits_at l.given.former.now) l.y l.q (l.i + 1) l.j + costs_after l.given.partitions (bits_at l.given.former.now) l.y l.q l.i (l.t - (l.i + 1)))
