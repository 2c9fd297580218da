-- `tallies::totals::zone_totals` meets its contract. The loop's invariant: each zone has the sum so far.
-- Assumes nothing.
use Prim.Native.Nat.{ℕ, ◌<◌}
use mathlib.Core.Path.{◌≡◌}
use lib.ListN.{length}
use Rattle.cluster.specs.Terms.{most_nodes}
use Rattle.dealing.specs.ModelDeal.{in_zone}
use Rattle.incidence.specs.ModelIncidence.{cell}
use Rattle.tallies.proofs.totals.zone_totals.Given as goal

abbrev pub invariant-loop-b : goal.invariant-loop-b
invariant-loop-b l = (length l.sums ≡ most_nodes) × ((z : ℕ) → z < most_nodes → cell l.sums z ≡ in_zone (cell l.zones) (cell l.numbers) z l.b)
