-- `cycles::close` meets its contract. The nodes that are not left close no cycle, and the nodes behind them are written.
-- Assumes nothing.
use Prim.Native.Nat.{◌-◌}
use Rattle.sets.specs.ModelBits.{bit}
use Rattle.sets.proofs.Scan.{Left}
use Rattle.levels.specs.ModelTurns.{Settled}
use Rattle.cycles.specs.ModelTrails.{behind}
use Rattle.cycles.proofs.Parts.{Open}
use Rattle.cycles.proofs.close.Given as goal

abbrev pub invariant-loop-v : goal.invariant-loop-v
invariant-loop-v l =
    Left l.fell l.v-iterator.left × Open l.fell l.row l.way l.v-iterator.left
    × Settled (λ v. bit l.fell v - bit l.v-iterator.left v) (behind l.row l.way) l.initial.grown l.grown
