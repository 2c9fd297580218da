-- `splices::replace` meets its contract. The loop's invariant: the first b slots are written.
-- Assumes nothing.
use Prim.Native.Nat.{ℕ}
use mathlib.Core.Path.{◌≡◌}
use mathlib.Core.List.{[], ◌∷◌}
use lib.ListN.{take, get_or, replicate}
use Rattle.cells.specs.ModelCells.{put}
use Rattle.cluster.specs.Terms.{most_nodes, topology, no_node}
use Rattle.cluster.specs.declared.Cluster.{Cluster}
use Rattle.cluster.specs.declared.Node.{Node}
use Rattle.splices.specs.ModelSplice.{spliced}
use Rattle.splices.proofs.replace.Given as goal

-- What each slot is to hold.
abbrev pub slot_of : Cluster → ℕ → ℕ → Node → ℕ → ℕ → Node
slot_of c at out node new b = get_or (spliced (topology c).nodes at out (take new (node ∷ []))) b no_node

abbrev pub invariant-loop-b : goal.invariant-loop-b
invariant-loop-b l =
    l.nodes ≡ put 0 (slot_of l.c l.place.below l.place.with l.node l.new) l.b (replicate most_nodes no_node)
