-- `waves::spread` meets its contract. Assumes nothing.
use Prim.Native.Nat.{◌^◌, ◌≤◌, ◌<◌}
use mathlib.Core.Path.{◌≡◌}
use lib.ListN.{length}
use Rattle.sets.specs.ModelBits.{mask_bits, union_of}
use Rattle.cluster.specs.Terms.{most_nodes}
use Rattle.waves.specs.ModelWaves.{spread_of}
use Rattle.waves.proofs.spread.Given as goal

abbrev pub invariant-loop-u : goal.invariant-loop-u
invariant-loop-u l =
    (most_nodes ≤ length l.leads) × (l.to < 2 ^ mask_bits) × (union_of l.to (spread_of l.leads l.u-iterator.left) ≡ spread_of l.leads l.set)
