-- `figures::zone_copies` meets its contract. The loop's invariant: the copies of those of the first x nodes that are of the zone are added up.
-- Assumes nothing.
use Prim.Native.Nat.{◌≤◌, ◌*◌}
use mathlib.Core.Path.{◌≡◌}
use Rattle.sums.specs.TermsSums.{sum_to}
use Rattle.cluster.specs.Terms.{buffer_rows, topology}
use Rattle.figures.proofs.FigureWalk.{zone_term}
use Rattle.figures.proofs.zone_copies.Given as goal

abbrev pub invariant-loop-x : goal.invariant-loop-x
invariant-loop-x l = (l.total ≤ buffer_rows * l.x) × (l.total ≡ sum_to l.x (zone_term (topology l.c) l.counts l.b))
