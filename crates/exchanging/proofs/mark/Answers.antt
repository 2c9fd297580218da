-- `exchanging::mark` meets its contract. Assumes nothing.
use native.Mathlib.Omega.{arith}
use Rattle.exchanging.proofs.Making.{marked}
use Rattle.exchanging.proofs.mark.Goals as goal

pub returns : goal.returns
returns c = λ l. marked c.args.leaves c.args.p l (omega arith)
