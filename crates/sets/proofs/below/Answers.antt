-- `sets::below` meets its contract. Assumes nothing.
use Prim.Native.Nat.{ℕ, ◌-◌}
use mathlib.Core.Path.{ap, ◌∙◌}
use native.Mathlib.Omega.{arith}
use lib.Pow.{pow_pos}
use Rattle.sets.specs.ModelBits.{mask_bits}
use Rattle.sets.proofs.Words.{word-one, word_below}
use Rattle.sets.proofs.below.Goals as goal

pub overflow_shl-result : goal.overflow_shl-result
overflow_shl-result c = omega arith

pub overflow_sub-result : goal.overflow_sub-result
overflow_sub-result c = let n = c.args.n in omega (arith, word-one n (omega arith), pow_pos n)

pub returns-then-n-lt-WIDTH : goal.returns-then-n-lt-WIDTH
returns-then-n-lt-WIDTH c = let n = c.args.n in ap (λ (x : ℕ). x - 1) (word-one n (omega arith)) ∙ word_below n n (omega arith)

pub returns-else-n-lt-WIDTH : goal.returns-else-n-lt-WIDTH
returns-else-n-lt-WIDTH c = word_below mask_bits c.args.n (omega arith)
