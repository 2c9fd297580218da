-- `sets::count` meets its contract. Assumes nothing.
use native.Mathlib.Omega.{arith}
use Rattle.sets.proofs.Words.{word_count}
use Rattle.sets.proofs.count.Goals as goal

pub returns : goal.returns
returns c = word_count c.args.s (omega arith)
