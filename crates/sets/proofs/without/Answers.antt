-- `sets::without` meets its contract. Assumes nothing.
use mathlib.Core.Path.{sym}
use native.Mathlib.Omega.{arith}
use Rattle.sets.proofs.Laws.{without-none}
use Rattle.sets.proofs.Words.{word-without}
use Rattle.sets.proofs.without.Goals as goal

pub overflow_shl-result : goal.overflow_shl-result
overflow_shl-result c = omega arith

pub returns-then-i-lt-WIDTH : goal.returns-then-i-lt-WIDTH
returns-then-i-lt-WIDTH c = word-without c.args.s c.args.i (omega arith) (omega arith)

pub returns-else-i-lt-WIDTH : goal.returns-else-i-lt-WIDTH
returns-else-i-lt-WIDTH c = sym (without-none c.args.s c.args.i (omega arith) (omega arith))
