-- `cluster::faults::some_out_of_range` meets its contract. The loop's invariant: a node in use is out of range exactly where one of those is that are
-- still before the scan.
-- Assumes nothing.
use Prim.Native.Nat.{◌-◌}
use mathlib.Core.Path.{◌≡◌}
use lib.ListN.{take, drop}
use Rattle.cluster.specs.Terms.{some_out_of_range}
use Rattle.cluster.proofs.faults.some_out_of_range.Given as goal

abbrev pub invariant-loop-i : goal.invariant-loop-i
invariant-loop-i l = some_out_of_range (take l.c.count l.c.nodes) ≡ some_out_of_range (take (l.c.count - l.i) (drop l.i l.c.nodes))
