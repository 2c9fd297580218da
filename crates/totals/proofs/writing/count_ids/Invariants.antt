use Prim.Native.Nat.{ℕ, ◌+◌, ◌-◌, ◌*◌, ◌^◌, ◌≤◌, ◌<◌}
use mathlib.Core.Path.{◌≡◌}
use mathlib.Core.Bool.{true}
use lib.ListN.{length, take}
use Rattle.cluster.specs.Terms.{row_cells, row_at, formed, rows_in}
use Rattle.totals.specs.RecordTotals.{ids_named}
use Rattle.totals.specs.ModelTotals.{SameIds}
use Rattle.totals.proofs.Next.{ours}
use Rattle.totals.proofs.writing.count_ids.Given as goal

abbrev pub invariant-loop-ids : goal.invariant-loop-ids
invariant-loop-ids l =
    (l.n ≤ l.last) × (l.last < 2 ^ 32) × ((shape : (p : ℕ) → p < l.partitions → formed (row_at l.cells p) ≡ true) → length (ids_named (rows_in l.partitions l.cells)) ≡ l.n + length (ours l.cells l.partitions shape l.last))
    × (l.count ≤ length l.ids) × SameIds (take l.count l.ids) (take (l.partitions * row_cells) l.cells)

abbrev pub decreases-loop-ids : goal.decreases-loop-ids
decreases-loop-ids l = 2 ^ 32 - l.last
