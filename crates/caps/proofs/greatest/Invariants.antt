-- `caps::greatest` meets its contract. The usable capacities passed are no larger. Assumes nothing.
use Prim.Native.Nat.{ℕ, ◌≤◌, ◌<◌}
use Rattle.cluster.specs.Terms.{topology, node_at, usable}
use Rattle.caps.proofs.greatest.Given as goal

abbrev pub invariant-loop-node : goal.invariant-loop-node
invariant-loop-node l = (i : ℕ) → i < l.node-index → usable (node_at (topology l.fn.c) i) ≤ l.most
