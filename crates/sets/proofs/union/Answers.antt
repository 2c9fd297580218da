-- `sets::union` meets its contract. Assumes nothing.
use native.Mathlib.Omega.{arith}
use Rattle.sets.proofs.Words.{word-union}
use Rattle.sets.proofs.union.Goals as goal

pub returns : goal.returns
returns c = word-union c.args.s c.args.t (omega arith) (omega arith)
