-- `incidence::zones::zone_index` meets its contract. The loop's invariant: no node before i is of the zone.
-- Assumes nothing.
use Prim.Native.Nat.{ℕ, ◌<◌}
use mathlib.Core.Path.{◌≡◌}
use lib.ListN.{get_or}
use Rattle.cluster.specs.Terms.{no_node}
use Rattle.incidence.proofs.zones.zone_index.Given as goal

abbrev pub invariant-loop-i : goal.invariant-loop-i
invariant-loop-i l = (j : ℕ) → j < l.i → (get_or l.c.nodes j no_node).zone ≡ l.zone → ⊥
