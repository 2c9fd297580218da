-- `walks::sift` meets its contract. No number of the word that is left no more is one of its row. Assumes nothing.
use Prim.Native.Nat.{ℕ, ◌+◌, ◌<◌}
use mathlib.Core.Path.{◌≡◌}
use Rattle.sets.specs.ModelBits.{mask_bits, bit}
use Rattle.walks.specs.ModelWalks.{sifted_of}
use Rattle.walks.proofs.sift.Given as goal

abbrev pub invariant-loop-j : goal.invariant-loop-j
invariant-loop-j l =
    let g = l.given in
    ((j : ℕ) → j < mask_bits → bit l.j-iterator.left j ≡ 1 → l.base + j < g.partitions)
    × (sifted_of l.rows g.mates.now l.all g.z l.u l.v l.base l.word ≡ sifted_of l.rows g.mates.now l.all g.z l.u l.v l.base l.j-iterator.left)
