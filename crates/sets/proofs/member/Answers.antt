-- `sets::member` meets its contract. Assumes nothing.
use mathlib.Core.Path.{sym}
use native.Mathlib.Omega.{arith}
use Rattle.sets.specs.ModelBits.{mask_bits}
use Rattle.sets.proofs.Laws.{bit-false, bit_high}
use Rattle.sets.proofs.Words.{word-member}
use Rattle.sets.proofs.member.Goals as goal

pub overflow_shr-result : goal.overflow_shr-result
overflow_shr-result c = omega arith

pub returns-then-i-lt-WIDTH : goal.returns-then-i-lt-WIDTH
returns-then-i-lt-WIDTH c = word-member c.args.s c.args.i

pub returns-else-i-lt-WIDTH : goal.returns-else-i-lt-WIDTH
returns-else-i-lt-WIDTH c = let a = c.args in sym (bit-false a.s a.i (bit_high mask_bits a.s a.i (omega arith) (omega arith)))
