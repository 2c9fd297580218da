-- `holders::fill` meets its contract. The sets are those of the rows that the loop passed. Assumes nothing.
use Rattle.holders.specs.ModelHolders.{Held}
use Rattle.holders.proofs.fill.Given as goal

abbrev pub invariant-loop-p : goal.invariant-loop-p
invariant-loop-p l = Held l.rows l.p l.held
