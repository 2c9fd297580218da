-- `masks::ids_of` meets its contract. The loop's invariant: the first b ids are written.
-- Assumes nothing.
use mathlib.Core.Path.{◌≡◌}
use Rattle.cluster.specs.Terms.{topology, node_at}
use Rattle.incidence.specs.ModelIncidence.{column}
use Rattle.masks.proofs.ids_of.Given as goal

abbrev pub invariant-loop-b : goal.invariant-loop-b
invariant-loop-b l = l.ids ≡ column (λ i. (node_at (topology l.c) i).id) l.b
