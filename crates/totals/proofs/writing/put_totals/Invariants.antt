use Prim.Native.Nat.{ℕ, ◌-◌, ◌*◌, ◌^◌, ◌≤◌, ◌<◌}
use mathlib.Core.Path.{◌≡◌}
use mathlib.Core.Bool.{true}
use lib.ListN.{length, take}
use Rattle.cluster.specs.Terms.{row_cells, row_at, formed}
use Rattle.totals.specs.ModelTotals.{SameIds}
use Rattle.totals.proofs.Puts.{Put}
use Rattle.totals.proofs.writing.put_totals.Given as goal

abbrev pub invariant-loop-ids : goal.invariant-loop-ids
invariant-loop-ids l =
    (length l.out ≡ length l.initial.out) × (l.last < 2 ^ 32) × ((shape : (p : ℕ) → p < l.partitions → formed (row_at l.cells p) ≡ true) → Put l.cells l.partitions shape l.initial.out l.from l.out l.last l.at)
    × (l.count ≤ length l.ids) × SameIds (take l.count l.ids) (take (l.partitions * row_cells) l.cells)

abbrev pub decreases-loop-ids : goal.decreases-loop-ids
decreases-loop-ids l = 2 ^ 32 - l.last
