use Prim.Native.Nat.{◌*◌, ◌≤◌}
use mathlib.Core.Path.{◌≡◌}
use lib.ListN.{length}
use Rattle.cluster.specs.Terms.{row_cells}
use Rattle.totals.proofs.Meeting.{Met}
use Rattle.totals.proofs.gather.Given as goal

abbrev pub invariant-loop-i : goal.invariant-loop-i
invariant-loop-i l =
    (l.end ≡ l.partitions * row_cells) × (l.count ≤ l.i) × (length l.met ≡ 1025) × Met l.cells l.i l.ids l.count l.met
