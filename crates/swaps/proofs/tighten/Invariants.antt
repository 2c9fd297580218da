-- `swaps::tighten` meets its contract. The cells of the rows before p are written. Assumes nothing.
use Rattle.swaps.specs.ModelSwaps.{Tight}
use Rattle.swaps.proofs.tighten.Given as goal

abbrev pub invariant-loop-p : goal.invariant-loop-p
invariant-loop-p l = Tight l.mates l.z l.rows l.p l.tight
