-- `tallies::totals::total` meets its contract. The loop's invariant: the sum so far.
-- Assumes nothing.
use Prim.Native.Nat.{◌*◌, ◌≤◌, min}
use mathlib.Core.Path.{◌≡◌}
use Rattle.tallies.specs.ModelTallies.{most_in_zone}
use Rattle.sums.specs.TermsSums.{sum_to}
use Rattle.incidence.specs.ModelIncidence.{cell}
use Rattle.tallies.proofs.totals.total.Given as goal

abbrev pub invariant-loop-number : goal.invariant-loop-number
invariant-loop-number l = (l.sum ≤ most_in_zone * l.number-index) × (l.sum ≡ sum_to l.number-index (λ i. min l.most (cell l.numbers i)))
