-- `line::light` meets its contract. The loop's invariant: the sum so far.
-- Assumes nothing.
use Prim.Native.Nat.{◌*◌, ◌≤◌}
use mathlib.Core.Path.{◌≡◌}
use Rattle.tallies.specs.ModelTallies.{most_in_zone}
use Rattle.dealing.specs.ModelDeal.{light}
use Rattle.sums.specs.TermsSums.{sum_to}
use Rattle.incidence.specs.ModelIncidence.{cell}
use Rattle.line.proofs.light.Given as goal

abbrev pub invariant-loop-copies : goal.invariant-loop-copies
invariant-loop-copies l = (l.sum ≤ most_in_zone * l.copies-index) × (l.sum ≡ sum_to l.copies-index (light l.partitions (cell l.sums)))
