use Rattle.std.proofs.Common.{◌≤◌}
use Rattle.changes_run.proofs.run.Given as goal

-- The line's start does not lie past the byte in hand.
abbrev pub invariant-loop-at : goal.invariant-loop-at
invariant-loop-at g l = l.start ≤ l.at
