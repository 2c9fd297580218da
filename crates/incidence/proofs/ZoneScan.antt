-- The zone index of a node, as a scan of a cluster's slots finds it.
-- Assumes nothing.
use Prim.Native.Nat.{ℕ, ◌≤◌, ◌<◌}
use mathlib.Core.Path.{◌≡◌, sym, ap, ◌∙◌}
use native.Mathlib.Omega.{arith}
use lib.Dec.{eqb}
use lib.ListN.{length, get_or, length-take}
use borrow.Author.Tests.{eq-eqb, ne_eqb}
use Rattle.sums.proofs.First.{first-is}
use Rattle.cluster.specs.Terms.{most_nodes, topology, no_node, node_at}
use Rattle.cluster.specs.declared.Cluster.{Cluster}
use Rattle.cluster.specs.declared.Node.{Node}
use Rattle.cluster.proofs.Slots.{node-slot}
use Rattle.incidence.specs.ModelIncidence.{zone_index}

-- Where a node before b, or b itself, is of b's zone, and none before that is, it is the zone index.
pub zone_found : (c : Cluster) (b i : ℕ) → length c.nodes ≡ most_nodes → b < c.count → b < most_nodes → i ≤ b
    → (get_or c.nodes i no_node).zone ≡ (get_or c.nodes b no_node).zone
    → ((j : ℕ) → j < i → (get_or c.nodes j no_node).zone ≡ (get_or c.nodes b no_node).zone → ⊥)
    → zone_index (topology c) b ≡ i
unfolding zone_index
zone_found c b i long used few le same before =
    first-is (λ j. eqb (node_at (topology c) j).zone (node_at (topology c) b).zone) (length (topology c).nodes) 0 i (omega arith)
    (omega (arith, length-take c.count c.nodes))
    (eq-eqb (node_at (topology c) i).zone (node_at (topology c) b).zone (at i (omega arith) ∙ (same ∙ sym (at b used))))
    (λ j _ m. ne_eqb (node_at (topology c) j).zone (node_at (topology c) b).zone (λ e. before j m (sym (at j (omega arith)) ∙ (e ∙ at b used))))
  where
    at : (j : ℕ) → j < c.count → (node_at (topology c) j).zone ≡ (get_or c.nodes j no_node).zone
    at j h = ap (λ (n : Node). n.zone) (node-slot c j h)
