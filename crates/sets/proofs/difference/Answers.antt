-- `sets::difference` meets its contract. Assumes nothing.
use native.Mathlib.Omega.{arith}
use Rattle.sets.proofs.Words.{word-difference}
use Rattle.sets.proofs.difference.Goals as goal

pub returns : goal.returns
returns c = word-difference c.args.s c.args.t (omega arith) (omega arith)
