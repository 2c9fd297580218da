-- A cluster in its slots, with what a field says.
-- Assumes nothing.
use Prim.Native.Nat.{ℕ, suc, ◌+◌, ◌-◌, ◌<◌}
use mathlib.Core.Path.{◌≡◌, sym, ap, ap₂, ◌∙◌}
use mathlib.Core.List.{List, [], ◌∷◌, ◌++◌, append_assoc}
use native.Mathlib.Omega.{arith}
use lib.ListN.{length, set, replicate, length-append}
use lib.Seq.{set-append_seam}
use Rattle.cluster.specs.Terms.{most_nodes, Topology, no_node}
use Rattle.cluster.specs.declared.Cluster.{Cluster}
use Rattle.cluster.specs.declared.Node.{Node}
use Rattle.cluster_fields.specs.RecordClusterFaults.{of_bits, of_replication, of_redundancy, of_node, with_item}
use Rattle.cluster.specs.TermsReading.{slots_of}

module _ (t : Topology) (c : Cluster) (e : c ≡ slots_of t) where
  pub slots-bits : (k : ℕ) → record { bits = k; replication = c.replication; redundancy = c.redundancy; count = c.count; nodes = c.nodes } ≡ slots_of (with_item t (of_bits k))
  unfolding slots_of with_item
  slots-bits k =
      ap (λ (c : Cluster). record { bits = k; replication = c.replication; redundancy = c.redundancy; count = c.count; nodes = c.nodes }) e

  pub slots-replication : (k : ℕ) → record { bits = c.bits; replication = k; redundancy = c.redundancy; count = c.count; nodes = c.nodes } ≡ slots_of (with_item t (of_replication k))
  unfolding slots_of with_item
  slots-replication k =
      ap (λ (c : Cluster). record { bits = c.bits; replication = k; redundancy = c.redundancy; count = c.count; nodes = c.nodes }) e

  pub slots-redundancy : (k : ℕ) → record { bits = c.bits; replication = c.replication; redundancy = k; count = c.count; nodes = c.nodes } ≡ slots_of (with_item t (of_redundancy k))
  unfolding slots_of with_item
  slots-redundancy k =
      ap (λ (c : Cluster). record { bits = c.bits; replication = c.replication; redundancy = k; count = c.count; nodes = c.nodes }) e

  -- A node goes into the first slot that is not in use.
  pub slots-node : (n : Node) → c.count < most_nodes
      → record { bits = c.bits; replication = c.replication; redundancy = c.redundancy; count = c.count + 1; nodes = set c.nodes c.count n } ≡ slots_of (with_item t (of_node n))
  unfolding slots_of with_item
  slots-node n h =
      let l : List Node = t.nodes in
      let m : length l ≡ c.count = sym (ap (λ (k : Cluster). k.count) e) in
      let d : most_nodes - length l ≡ suc (most_nodes - length (l ++ (n ∷ []))) = omega (arith, length-append l (n ∷ [])) in
      let after : List Node = replicate (most_nodes - length (l ++ (n ∷ []))) no_node in
      let i : length l + 1 ≡ length (l ++ (n ∷ [])) = sym (length-append l (n ∷ [])) in
      ap (λ (k : Cluster). record { bits = k.bits; replication = k.replication; redundancy = k.redundancy; count = k.count + 1; nodes = set k.nodes k.count n }) e
      ∙ ap₂ (λ (k : ℕ) (r : List Node). record { bits = t.bits; replication = t.replication; redundancy = t.redundancy; count = k; nodes = r }) i
      (ap (λ (k : ℕ). set (l ++ replicate k no_node) (length l) n) d
      ∙ (set-append_seam l no_node after n ∙ sym (append_assoc l (n ∷ []) after)))
