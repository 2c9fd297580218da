-- `cluster::faults::ids_rise` meets its contract. The loop's invariant: the used ids rise exactly where those that are still before the
-- scan rise from the last one.
-- Assumes nothing.
use Prim.Native.Nat.{◌-◌}
use mathlib.Core.Path.{◌≡◌}
use lib.ListN.{take, drop}
use Rattle.cluster.specs.Terms.{ids_of, rising, rising_from}
use Rattle.cluster.proofs.faults.ids_rise.Given as goal

abbrev pub invariant-loop-i : goal.invariant-loop-i
invariant-loop-i l = rising (ids_of (take l.c.count l.c.nodes)) ≡ rising_from l.last (ids_of (take (l.c.count - l.i) (drop l.i l.c.nodes)))
