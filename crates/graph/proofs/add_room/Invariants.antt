-- `graph::add_room` meets its contract. The loop's invariant: the nodes that are no more left lead to all. Assumes nothing.
use Prim.Native.Nat.{ℕ, ◌/◌, min}
use Rattle.cluster.specs.Terms.{most_nodes}
use Rattle.sums.specs.ModelSums.{is}
use Rattle.sets.specs.ModelBits.{bit}
use Rattle.sets.proofs.Scan.{Left}
use Rattle.arcs.specs.ModelGrowth.{Grown}
use Rattle.arcs.proofs.Turns.{adding}
use Rattle.graph.proofs.add_room.Given as goal

-- What a node with room leads to.
abbrev pub roomed : ℕ → ℕ → ℕ → ℕ
roomed all j b = min (is 1 (j / most_nodes)) (bit all b)

abbrev pub invariant-loop-a : goal.invariant-loop-a
invariant-loop-a l = record {
  left : Left l.room l.a-iterator.left;
  done : Grown (adding l.room l.a-iterator.left (roomed l.all)) l.initial.arcs l.arcs;
}
