-- `deals::join` meets its contract. The loop's invariant: the node is in the rows passed.
-- Assumes nothing.
use Prim.Native.Nat.{◌≤◌, max}
use mathlib.Core.Path.{◌≡◌}
use Rattle.deals.proofs.Dealing.{joined}
use Rattle.deals.proofs.join.Given as goal

abbrev pub invariant-loop-p : goal.invariant-loop-p
invariant-loop-p l = (l.p ≤ max l.from l.to) × (l.rows ≡ joined l.initial.rows l.b l.from l.p)
