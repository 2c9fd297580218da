-- `evens::wanted` meets its contract. The nodes that are left want those that are not found yet. Assumes nothing.
use Prim.Native.Nat.{◌^◌, ◌<◌}
use mathlib.Core.Path.{◌≡◌}
use Rattle.sets.specs.ModelBits.{mask_bits, union_of}
use Rattle.waves.specs.ModelWaves.{spread_of}
use Rattle.evens.specs.ModelEvens.{earlier_of}
use Rattle.evens.proofs.wanted.Given as goal

abbrev pub invariant-loop-a : goal.invariant-loop-a
invariant-loop-a l = record {
  word : l.found < 2 ^ mask_bits;
  all : union_of l.found (spread_of (earlier_of l.even l.former) l.a-iterator.left) ≡ spread_of (earlier_of l.even l.former) l.row;
}
