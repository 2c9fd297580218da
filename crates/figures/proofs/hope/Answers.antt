-- `figures::hope` meets its contract.
-- Assumes nothing.
use native.Mathlib.Omega.{arith}
use Prim.Native.Nat.{◌^◌, ℕ, ◌*◌, ◌/◌}
use mathlib.Core.Path.{◌≡◌, ◌∙◌, ap₂}
use native.Mathlib.Nat.{mul-le-mul_right}
use lib.Pow.{pow_pos}
use Rattle.cluster.proofs.Accepting.{partitions_in_range, accepted}
use Rattle.figures.specs.TermsFigures.{hope_of}
use Rattle.figures.proofs.hope.Goals as goal

pub overflow_mul-copies : goal.overflow_mul-copies
overflow_mul-copies c = let a = accepted c.args.c c.requires in
    omega (arith, mul-le-mul_right c.partitions.result a.replication.1)

pub nonzero_div-result : goal.nonzero_div-result
nonzero_div-result c =
    -- The number of partitions of a cluster without fault.
    let rows : c.partitions.result ≡ 2 ^ c.args.c.bits = c.partitions.ensures.0 ∙ partitions_in_range c.args.c.bits (accepted c.args.c c.requires).bits in
    let a = accepted c.args.c c.requires in
    omega (arith, mul-le-mul_right c.partitions.result a.replication.0, pow_pos c.args.c.bits, rows)

pub returns : goal.returns
unfolding hope_of
returns c =
    let rows : c.partitions.result ≡ 2 ^ c.args.c.bits = c.partitions.ensures.0 ∙ partitions_in_range c.args.c.bits (accepted c.args.c c.requires).bits in
    let a = c.args.c in
    ap₂ (λ (n m : ℕ). n / (a.replication * m)) c.total_usable.ensures rows
