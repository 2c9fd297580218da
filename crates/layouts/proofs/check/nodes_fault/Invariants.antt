-- `layouts::check::nodes_fault` meets its contract. The loop's invariant: the first fault is the first of those from node b on.
-- Assumes nothing.
use Prim.Native.Nat.{ℕ, ◌≤◌, ◌-◌}
use mathlib.Core.Path.{◌≡◌}
use mathlib.Core.List.{List}
use Rattle.cluster.specs.Terms.{most_nodes, Topology, topology, partitions, node_at, rows_in}
use Rattle.layouts.specs.TermsCheck.{Checked, fault, first_fault, node_fault, nodes_fault}
use Rattle.layouts.proofs.check.nodes_fault.Given as goal

abbrev pub at : Topology → List ℕ → ℕ → ℕ → Checked
at t cells size x = fault (node_fault t (rows_in (partitions t) cells) size x) (node_at t x).id

abbrev pub invariant-loop-b : goal.invariant-loop-b
invariant-loop-b l = (l.c.count ≤ most_nodes)
    × (nodes_fault (topology l.c) (rows_in (partitions (topology l.c)) l.cells) l.size ≡ first_fault (l.c.count - l.b) l.b (at (topology l.c) l.cells l.size))
