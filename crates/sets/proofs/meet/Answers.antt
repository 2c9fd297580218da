-- `sets::meet` meets its contract. Assumes nothing.
use native.Mathlib.Omega.{arith}
use Rattle.sets.proofs.Words.{word-meet}
use Rattle.sets.proofs.meet.Goals as goal

pub returns : goal.returns
returns c = word-meet c.args.s c.args.t (omega arith) (omega arith)
