-- `holders::count` meets its contract. Assumes nothing.
use native.Mathlib.Omega.{arith}
use Rattle.holders.proofs.Holding.{count-all}
use borrow.Author.Rules.{rules}
use Rattle.holders.proofs.count.Goals as goal

pub returns : goal.returns
returns c = let a = c.args in count-all a.rows.now a.partitions a.held.now a.u (search rules) (omega arith) (omega arith)
