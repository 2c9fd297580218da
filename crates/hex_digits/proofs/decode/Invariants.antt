use Rattle.std.proofs.Common.{length, ◌*◌, ◌≤◌}
use Rattle.hex_digits.proofs.decode.Given as goal

-- There are at most two digits to a byte.
abbrev pub invariant-loop-b : goal.invariant-loop-b
invariant-loop-b l = l.n ≤ 2 * length l.bytes
