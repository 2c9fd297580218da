use Prim.Native.Nat.{◌-◌, ◌%◌, ◌≤◌}
use mathlib.Core.Path.{◌≡◌}
use Rattle.totals.specs.RecordTotalsFaults.{total_bytes, copies_for}
use Rattle.totals.proofs.Match.{from-to}
use Rattle.totals.proofs.reading.copies_told.Given as goal

abbrev pub invariant-loop-at : goal.invariant-loop-at
invariant-loop-at l =
    (l.at ≤ l.end) × ((l.end - l.at) % total_bytes ≡ 0) × (copies_for (from-to l.bytes l.from l.end) l.id ≡ copies_for (from-to l.bytes l.at l.end) l.id)

abbrev pub decreases-loop-at : goal.decreases-loop-at
decreases-loop-at l = l.end - l.at
