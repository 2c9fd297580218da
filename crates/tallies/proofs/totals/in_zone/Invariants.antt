-- `tallies::totals::in_zone` meets its contract. The loop's invariant: the sum so far.
-- Assumes nothing.
use Prim.Native.Nat.{◌*◌, ◌≤◌}
use mathlib.Core.Path.{◌≡◌}
use Rattle.cluster.specs.Terms.{buffer_rows}
use Rattle.dealing.specs.ModelDeal.{in_zone}
use Rattle.incidence.specs.ModelIncidence.{cell}
use Rattle.tallies.proofs.totals.in_zone.Given as goal

abbrev pub invariant-loop-b : goal.invariant-loop-b
invariant-loop-b l = (l.sum ≤ buffer_rows * l.b) × (l.sum ≡ in_zone (cell l.zones) (cell l.numbers) l.z l.b)
