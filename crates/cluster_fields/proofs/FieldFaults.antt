-- The faults of a field by its tag, over plain numbers.
-- Assumes nothing.
use Prim.Native.Nat.{ℕ, ◌+◌, ◌-◌, ◌/◌, ◌^◌}
use mathlib.Core.Path.{◌≡◌, sym, ap, ap₂, ◌∙◌}
use mathlib.Core.Bool.{Bool, ◌||◌, not, cond}
use mathlib.Core.List.{List}
use native.Mathlib.Omega.{arith}
use lib.Dec.{ltb, leb, eqb}
use lib.ListN.{length}
use borrow.Author.Tests.{le-ltb}
use Rattle.cluster.specs.Terms.{most_bits, most_copies, most_nodes, Topology, ids_of, mem, rising, node_out_of_range}
use Rattle.cluster.specs.declared.Node.{Node}
use Rattle.fields.specs.RecordField.{number_at, node_at_byte, ids_at}
use Rattle.cluster_fields.specs.RecordClusterFaults.{of_node, item_in, last_of, fault_in}
use Rattle.cluster_fields.proofs.Items.{below_one, item_bits, item_replication, item_redundancy, item_node, item_five}

-- What is said of a fault r of a row in a body of len bytes, in a cluster of so many bits.
abbrev pub RowFault : List ℕ → ℕ → ℕ → ℕ → ℕ → ℕ → Type 0
RowFault s bits next start len r =
    r ≡ cond (leb (2 ^ bits) (number_at s start 2) || mem 0 (ids_at s (start + 2) ((len - 2) / 4))) 4
    (cond (ltb (number_at s start 2) next || not (rising (ids_at s (start + 2) ((len - 2) / 4)))) 5 0)

module _ (t : Topology) (next : ℕ) (s : List ℕ) (tag start len : ℕ) where
  pub bits-fault : (v r : ℕ) → tag ≡ 1 → v ≡ number_at s start 1 → r ≡ cond (ltb v 0 || ltb most_bits v) 4 0 → r ≡ fault_in t next (item_in s tag start len)
  unfolding fault_in
  bits-fault v r e d f =
      f ∙ (ap (λ (b : Bool). cond (b || ltb most_bits v) 4 0) (le-ltb v 0 (omega arith))
      ∙ (ap (λ (k : ℕ). cond (ltb most_bits k) 4 0) d ∙ ap (fault_in t next) (sym (item_bits s start len tag e))))

  pub replication-fault : (v r : ℕ) → tag ≡ 2 → v ≡ number_at s start 1 → r ≡ cond (ltb v 1 || ltb most_copies v) 4 0 → r ≡ fault_in t next (item_in s tag start len)
  unfolding fault_in
  replication-fault v r e d f =
      f ∙ (ap (λ (b : Bool). cond (b || ltb most_copies v) 4 0) (below_one v)
      ∙ (ap (λ (k : ℕ). cond (eqb k 0 || ltb most_copies k) 4 0) d ∙ ap (fault_in t next) (sym (item_replication s start len tag e))))

  pub redundancy-fault : (v r : ℕ) → tag ≡ 3 → v ≡ number_at s start 1 → r ≡ cond (ltb v 1 || ltb t.replication v) 4 0 → r ≡ fault_in t next (item_in s tag start len)
  unfolding fault_in
  redundancy-fault v r e d f =
      f ∙ (ap (λ (b : Bool). cond (b || ltb t.replication v) 4 0) (below_one v)
      ∙ (ap (λ (k : ℕ). cond (eqb k 0 || ltb t.replication k) 4 0) d ∙ ap (fault_in t next) (sym (item_redundancy s start len tag e))))

  pub node-fault : (n : Node) (last count r : ℕ) → tag ≡ 4 → n ≡ node_at_byte s start → last ≡ last_of 0 (ids_of t.nodes) → count ≡ length t.nodes
      → r ≡ cond (node_out_of_range n) 4 (cond (leb n.id last) 5 (cond (leb most_nodes count) 6 0)) → r ≡ fault_in t next (item_in s tag start len)
  unfolding fault_in
  node-fault n last count r e d l k f =
      f ∙ (ap₂ (λ (x y : ℕ). cond (node_out_of_range n) 4 (cond (leb n.id x) 5 (cond (leb most_nodes y) 6 0))) l k
      ∙ (ap (λ (x : Node). fault_in t next (of_node x)) d ∙ ap (fault_in t next) (sym (item_node s start len tag e))))

  pub row-fault : (r : ℕ) → tag ≡ 5 → RowFault s t.bits next start len r → r ≡ fault_in t next (item_in s tag start len)
  unfolding fault_in
  row-fault r e f = f ∙ ap (fault_in t next) (sym (item_five s start len tag e))
