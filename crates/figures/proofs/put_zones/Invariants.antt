-- `figures::put_zones` meets its contract. The loop's invariant: the first b of the second half are written.
-- Assumes nothing.
use mathlib.Core.Path.{◌≡◌}
use Rattle.cells.specs.ModelCells.{put}
use Rattle.cluster.specs.Terms.{most_nodes, topology}
use Rattle.figures.specs.ModelZones.{zone_sum}
use Rattle.figures.proofs.put_zones.Given as goal

abbrev pub invariant-loop-b : goal.invariant-loop-b
invariant-loop-b l = l.cells ≡ put most_nodes (zone_sum (topology l.c) l.counts) l.b l.initial.cells
