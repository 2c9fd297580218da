-- `leads::stands` meets its contract. The cells have the first v nodes by their levels. Assumes nothing.
use Prim.Native.Nat.{◌+◌}
use mathlib.Core.Path.{◌≡◌}
use lib.ListN.{length}
use Rattle.cluster.specs.Terms.{most_nodes}
use Rattle.leads.proofs.Standing.{Stood}
use Rattle.leads.proofs.stands.Given as goal

abbrev pub invariant-loop-v : goal.invariant-loop-v
invariant-loop-v l = (length l.at ≡ most_nodes + 3) × Stood l.levels l.v l.at
