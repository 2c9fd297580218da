-- `waves::waves` meets its contract. Assumes nothing.
use Prim.Native.Nat.{◌-◌, ◌≤◌, ◌<◌}
use mathlib.Core.Path.{◌≡◌}
use lib.ListN.{length}
use Rattle.sets.specs.ModelBits.{count_of}
use Rattle.cluster.specs.Terms.{most_nodes}
use Rattle.waves.specs.ModelWaves.{wave_cells}
use Rattle.waves.proofs.Waving.{Going}
use Rattle.waves.proofs.waves.Given as goal

abbrev pub invariant-loop-wave : goal.invariant-loop-wave
invariant-loop-wave l =
    (most_nodes ≤ length l.leads) × (length l.waves ≡ length l.initial.waves) × (wave_cells ≤ length l.waves) × (small : l.b < most_nodes) × Going l.leads l.b small l.goal l.k l.wave l.seen l.waves

abbrev pub decreases-loop-wave : goal.decreases-loop-wave
decreases-loop-wave l = most_nodes - count_of l.seen
