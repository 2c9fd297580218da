-- `incidence::zones::zones` meets its contract. The loop's invariant: the first b zone indices are written.
use native.Mathlib.Omega.{arith}
use Rattle.cluster.specs.Terms.{topology}
use Rattle.incidence.specs.ModelIncidence.{zone_index, zone_cells}
use Rattle.incidence.proofs.Columns.{column-none, column-next, column_end}
use Rattle.incidence.proofs.zones.zones.Goals as goal

pub loop-b-init : goal.loop-b-init
loop-b-init c = column-none _

pub loop-b-preserved : goal.loop-b-preserved
loop-b-preserved c = column-next (zone_index (topology c.args.c)) c.loop-b.zones c.loop-b.b _ c.loop-b.invariant c.zone_index.ensures

pub returns : goal.returns
unfolding zone_cells
returns c = column_end (zone_index (topology c.args.c)) c.loop-b.zones c.loop-b.b _ c.loop-b.invariant (omega arith)
