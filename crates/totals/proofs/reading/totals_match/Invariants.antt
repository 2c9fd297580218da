use Prim.Native.Nat.{ℕ, ◌-◌, ◌*◌, ◌%◌, ◌≤◌, ◌<◌}
use mathlib.Core.Path.{◌≡◌}
use lib.ListN.{length, take}
use mathlib.Core.Bool.{true}
use Rattle.cluster.specs.Terms.{row_cells, row_at, formed, rows_in}
use Rattle.totals.specs.RecordTotals.{totals_of}
use Rattle.totals.specs.RecordTotalsFaults.{total_bytes, same_totals}
use Rattle.totals.specs.ModelTotals.{SameIds}
use Rattle.totals.proofs.Next.{ours}
use Rattle.totals.proofs.Match.{from-to}
use Rattle.totals.proofs.reading.totals_match.Given as goal

abbrev pub invariant-loop-at : goal.invariant-loop-at
invariant-loop-at l =
    (l.at ≤ l.end) × ((l.end - l.at) % total_bytes ≡ 0)
    × ((shape : (p : ℕ) → p < l.partitions → formed (row_at l.cells p) ≡ true)
    → same_totals (from-to l.bytes l.from l.end) (totals_of (rows_in l.partitions l.cells)) ≡ same_totals (from-to l.bytes l.at l.end) (ours l.cells l.partitions shape l.last))
    × (l.count ≤ length l.ids) × SameIds (take l.count l.ids) (take (l.partitions * row_cells) l.cells)

abbrev pub decreases-loop-at : goal.decreases-loop-at
decreases-loop-at l = l.end - l.at
