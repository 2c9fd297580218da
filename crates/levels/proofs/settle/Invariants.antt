-- `levels::settle` meets its contract. The cells of the members that are not left hold what they shall.
-- Assumes nothing.
use Prim.Native.Nat.{◌-◌}
use Rattle.sets.specs.ModelBits.{bit}
use Rattle.sets.proofs.Scan.{Left}
use Rattle.levels.specs.ModelTurns.{Settled}
use Rattle.levels.proofs.settle.Given as goal

abbrev pub invariant-loop-v : goal.invariant-loop-v
invariant-loop-v l =
    Left l.s l.v-iterator.left
    × Settled (λ v. bit l.s v - bit l.v-iterator.left v) (λ _. l.c) l.initial.next l.next
    × Settled (λ v. bit l.s v - bit l.v-iterator.left v) (λ _. l.u) l.initial.row l.row
