-- `id_bytes::has_zero` meets its contract. The loop's invariant: there is a 0 exactly where there is one among the ids left.
-- Assumes nothing.
use Prim.Native.Nat.{◌+◌, ◌-◌, ◌*◌}
use mathlib.Core.Path.{◌≡◌}
use Rattle.cluster.specs.Terms.{mem}
use Rattle.id_bytes.specs.RecordIds.{ids_at}
use Rattle.id_bytes.proofs.has_zero.Given as goal

abbrev pub invariant-loop-j : goal.invariant-loop-j
invariant-loop-j l = mem 0 (ids_at l.bytes l.from l.count) ≡ mem 0 (ids_at l.bytes (l.from + 4 * l.j) (l.count - l.j))
