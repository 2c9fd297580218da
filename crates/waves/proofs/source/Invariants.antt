-- `waves::source` meets its contract: what is left of the set has the source that the whole of it has.
-- Assumes nothing.
use Prim.Native.Nat.{◌≤◌}
use mathlib.Core.Path.{◌≡◌}
use lib.ListN.{length}
use Rattle.cluster.specs.Terms.{most_nodes}
use Rattle.waves.specs.ModelWaves.{source_of}
use Rattle.waves.proofs.source.Given as goal

abbrev pub invariant-loop-u : goal.invariant-loop-u
invariant-loop-u l = (most_nodes ≤ length l.leads) × (source_of l.leads l.u-iterator.left l.v ≡ source_of l.leads l.set l.v)
