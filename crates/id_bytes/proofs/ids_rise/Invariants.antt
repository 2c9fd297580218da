-- `id_bytes::ids_rise` meets its contract. The loop's invariant: the ids rise exactly where those left rise from the last one.
-- Assumes nothing.
use Prim.Native.Nat.{◌+◌, ◌-◌, ◌*◌}
use mathlib.Core.Path.{◌≡◌}
use Rattle.cluster.specs.Terms.{rising, rising_from}
use Rattle.id_bytes.specs.RecordIds.{ids_at}
use Rattle.id_bytes.proofs.ids_rise.Given as goal

abbrev pub invariant-loop-j : goal.invariant-loop-j
invariant-loop-j l = rising (ids_at l.bytes l.from l.count) ≡ rising_from l.last (ids_at l.bytes (l.from + 4 * l.j) (l.count - l.j))
