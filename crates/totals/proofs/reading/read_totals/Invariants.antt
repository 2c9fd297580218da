-- `totals::reading::read_totals` meets its contract: before each field, the totals before it are read (`Walk.antt`).
-- Assumes nothing.
use Prim.Native.Nat.{◌-◌}
use mathlib.Core.Path.{◌≡◌}
use lib.ListN.{length}
use Rattle.totals.proofs.Walk.{To}
use Rattle.totals.proofs.reading.read_totals.Given as goal

abbrev pub invariant-loop-r : goal.invariant-loop-r
invariant-loop-r l = record {
  source : l.r.src.now ≡ l.bytes;
  read : To l.r.src.now l.from l.last l.r.at;
}

-- Fewer bytes are left.
abbrev pub decreases-loop-r : goal.decreases-loop-r
decreases-loop-r l = length l.r.src.now - l.r.at
