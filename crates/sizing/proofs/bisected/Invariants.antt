-- `sizing::bisected` meets its contract. The loop's invariant: the bits from i on are decided, and the bisection goes on from there.
-- Assumes nothing.
use Prim.Native.Nat.{◌+◌, ◌^◌, ◌≤◌}
use mathlib.Core.Path.{◌≡◌}
use Rattle.cluster.specs.Terms.{topology}
use Rattle.dealing.specs.ModelBisect.{bisect_from}
use Rattle.tallies.specs.ModelTallies.{size_bits}
use Rattle.sizing.specs.ModelSizing.{size_of}
use Rattle.sizing.proofs.Bisecting.{passing}
use Rattle.sizing.proofs.bisected.Given as goal

abbrev pub invariant-loop-i : goal.invariant-loop-i
invariant-loop-i l = (l.size + 2 ^ l.i ≤ 2 ^ size_bits) × (size_of (topology l.c) ≡ bisect_from l.i (passing (topology l.c)) l.size)
