-- `cluster_record::walk` meets its contract: before each field, what was read so far is in the cluster and the rows (`Walked.antt`).
-- Assumes nothing.
use Prim.Native.Nat.{◌-◌}
use mathlib.Core.Path.{◌≡◌}
use lib.ListN.{length}
use Rattle.cluster_record.proofs.Walked.{Walked}
use Rattle.cluster_record.proofs.walk.Given as goal

abbrev pub invariant-loop-r : goal.invariant-loop-r
invariant-loop-r l = record {
  source : l.r.src.now ≡ l.bytes;
  read : Walked l.r.src.now l.rows l.c l.last l.next l.r.at;
}

-- Fewer bytes are left.
abbrev pub decreases-loop-r : goal.decreases-loop-r
decreases-loop-r l = length l.r.src.now - l.r.at
