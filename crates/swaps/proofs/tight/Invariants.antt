-- `swaps::tight` meets its contract. The loop's invariant: the zones of the row are those counted, z at most, and those of the nodes that are left.
-- Assumes nothing.
use Prim.Native.Nat.{◌+◌, ◌-◌, ◌^◌, ◌≤◌, ◌<◌}
use mathlib.Core.Path.{◌≡◌}
use Rattle.sets.specs.ModelBits.{mask_bits, count_of}
use Rattle.swaps.specs.ModelSwaps.{cover_of, covered_of, cover_in, covered_in}
use Rattle.swaps.proofs.tight.Given as goal

abbrev pub invariant-loop-count : goal.invariant-loop-count
invariant-loop-count l =
    (l.left < 2 ^ mask_bits)
    × (count_of l.left + l._count ≤ mask_bits)
    × (cover_of l.mates l.row ≡ cover_in (mask_bits - l._count) l.mates l.left l._count)
    × (covered_of l.mates l.row ≡ covered_in (mask_bits - l._count) l.mates l.left l.nodes)
