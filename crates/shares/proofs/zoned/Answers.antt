-- `shares::zoned` meets its contract.
-- Assumes nothing.
use native.Mathlib.Omega.{arith}
use Rattle.dealing.specs.ModelDeal.{zoned}
use Rattle.shares.proofs.zoned.Goals as goal

pub returns : goal.returns
unfolding zoned
returns c = omega arith
