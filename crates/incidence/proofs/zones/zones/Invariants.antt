-- `incidence::zones::zones` meets its contract. The loop's invariant: the first b zone indices are written.
-- Assumes nothing.
use mathlib.Core.Path.{◌≡◌}
use Rattle.cluster.specs.Terms.{topology}
use Rattle.incidence.specs.ModelIncidence.{zone_index, column}
use Rattle.incidence.proofs.zones.zones.Given as goal

abbrev pub invariant-loop-b : goal.invariant-loop-b
invariant-loop-b l = l.zones ≡ column (zone_index (topology l.c)) l.b
