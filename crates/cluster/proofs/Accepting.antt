-- A cluster has no fault exactly where it is accepted; it has then as many nodes as its count says, and no more partitions than a buffer has rows.
-- Assumes nothing.
use Prim.Native.Nat.{ℕ, zero, suc, ◌^◌, ◌≤◌, min}
use mathlib.Core.Path.{◌≡◌, refl, ap, ap₂}
use mathlib.Core.Bool.{Bool, true, false, ◌||◌, cond}
use mathlib.Core.List.{List, [], ◌∷◌}
use native.Mathlib.Omega.{arith}
use mathlib.Core.Logic.{⊎_elim}
use native.Mathlib.Nat.{eq-zero-or-pos}
use lib.Dec.{ltb, eqb}
use lib.ListN.{length, get_or, length-take}
use lib.Pow.{pow_mono}
use borrow.Author.Tests.{ltb-false, eqb-false, le-ltb, ne_eqb}
use Rattle.sums.proofs.Tests.{neither}
use Rattle.cluster.specs.Terms.{most_bits, most_copies, most_nodes, most_ceiling, buffer_rows, Topology, topology, no_node, ids_of, rising_from, rising, node_out_of_range, some_out_of_range, out_of_range, fault_of}
use Rattle.cluster.specs.TermsReading.{Accepted}
use Rattle.cluster.specs.declared.Cluster.{Cluster}
use Rattle.cluster.specs.declared.Node.{Node}
use Rattle.cluster.proofs.Lists.{rising_head, rising_tail}

-- A number that is not 0.
pub positive : (n : ℕ) → eqb n 0 ≡ false → 1 ≤ n
positive n h = ⊎_elim (λ z. absurd (eqb-false n 0 h z)) (λ l. l) (eq-zero-or-pos n)

-- A node is in range exactly where its id is not 0 and its ceiling at most 256.
pub node_in_range : (n : Node) → 1 ≤ n.id → n.ceiling ≤ most_ceiling → node_out_of_range n ≡ false
unfolding node_out_of_range
node_in_range n h k = simp (ne_eqb n.id 0 (λ e. omega arith), le-ltb most_ceiling n.ceiling k)

pub in_range-node : (n : Node) → node_out_of_range n ≡ false → (1 ≤ n.id) × (n.ceiling ≤ most_ceiling)
unfolding node_out_of_range
in_range-node n e = let a = neither _ _ e in (positive n.id a.0, ltb-false most_ceiling n.ceiling a.1)

-- Nodes whose ids rise and whose ceilings are at most 256 are in range,
nodes_in_range : (k : ℕ) (l : List Node) → rising_from k (ids_of l) ≡ true → ((b : ℕ) → (get_or l b no_node).ceiling ≤ most_ceiling) → some_out_of_range l ≡ false
unfolding some_out_of_range ids_of
nodes_in_range k [] e h = refl
nodes_in_range k (n ∷ ns) e h =
    ap₂ ◌||◌ (node_in_range n (omega (arith, rising_head k n.id (ids_of ns) e)) (h 0))
    (nodes_in_range n.id ns (rising_tail k n.id (ids_of ns) e) (λ b. h (suc b)))

-- and nodes in range have no ceiling above 256.
in_range_ceilings : (l : List Node) → some_out_of_range l ≡ false → (b : ℕ) → (get_or l b no_node).ceiling ≤ most_ceiling
unfolding some_out_of_range
in_range_ceilings [] e b = omega arith
in_range_ceilings (n ∷ ns) e zero = (in_range-node n (neither (node_out_of_range n) (some_out_of_range ns) e).0).1
in_range_ceilings (n ∷ ns) e (suc b) = in_range_ceilings ns (neither (node_out_of_range n) (some_out_of_range ns) e).1 b

-- Numbers in range, from the test.
in_range_lem : (t : Topology) → length t.nodes ≤ most_nodes → rising (ids_of t.nodes) ≡ true → out_of_range t ≡ false → Accepted t
unfolding out_of_range
in_range_lem t few ids e =
    let a = neither _ _ e in
    let b = neither _ _ a.0 in
    let d = neither _ _ b.0 in
    let f = neither _ _ d.0 in
    let g = neither _ _ f.0 in
    record {
      bits = ltb-false most_bits t.bits g.0;
      replication = (positive t.replication g.1, ltb-false most_copies t.replication f.1);
      redundancy = (positive t.redundancy d.1, ltb-false t.replication t.redundancy b.1);
      few = few;
      ids = ids;
      ceilings = in_range_ceilings t.nodes a.1;
    }

-- A cluster without fault is accepted.
pub accepted : (c : Cluster) → fault_of c ≡ 0 → Accepted (topology c)
unfolding fault_of
accepted c e = go (ltb most_nodes c.count) refl e
  where
    t : Topology
    t = topology c

    order : c.count ≤ most_nodes → out_of_range t ≡ false → (r : Bool) → rising (ids_of t.nodes) ≡ r → ◌≡◌ {A = ℕ} (cond r 0 5) 0 → Accepted t
    order few range true q h = in_range_lem t (omega (arith, length-take c.count c.nodes)) q range
    order few range false q h = absurd (omega arith)

    numbers : c.count ≤ most_nodes → (b : Bool) → out_of_range t ≡ b → ◌≡◌ {A = ℕ} (cond b 4 (cond (rising (ids_of t.nodes)) 0 5)) 0 → Accepted t
    numbers few true q h = absurd (omega arith)
    numbers few false q h = order few q (rising (ids_of t.nodes)) refl h

    go : (b : Bool) → ltb most_nodes c.count ≡ b → ◌≡◌ {A = ℕ} (cond b 6 (cond (out_of_range t) 4 (cond (rising (ids_of t.nodes)) 0 5))) 0 → Accepted t
    go true q h = absurd (omega arith)
    go false q h = numbers (ltb-false most_nodes c.count q) (out_of_range t) refl h

-- A cluster that is accepted, and whose count is within the slots, has no fault.
pub no_fault : (c : Cluster) → c.count ≤ most_nodes → Accepted (topology c) → fault_of c ≡ 0
unfolding fault_of out_of_range
no_fault c few a =
    let t = topology c in
    simp (
      le-ltb most_nodes c.count few,
      le-ltb most_bits t.bits a.bits,
      ne_eqb t.replication 0 (λ e. omega (arith, a.replication)),
      le-ltb most_copies t.replication a.replication.1,
      ne_eqb t.redundancy 0 (λ e. omega (arith, a.redundancy)),
      le-ltb t.replication t.redundancy a.redundancy.1,
      nodes_in_range 0 t.nodes a.ids a.ceilings,
      a.ids,
    )

-- The count of a cluster without fault is within the slots.
pub few_nodes : (c : Cluster) → fault_of c ≡ 0 → c.count ≤ most_nodes
unfolding fault_of
few_nodes c e = go (ltb most_nodes c.count) refl e
  where
    go : (b : Bool) → ltb most_nodes c.count ≡ b → ◌≡◌ {A = ℕ} (cond b 6 (cond (out_of_range (topology c)) 4 (cond (rising (ids_of (topology c).nodes)) 0 5))) 0 → c.count ≤ most_nodes
    go true q h = absurd (omega arith)
    go false q h = ltb-false most_nodes c.count q

-- The nodes in use are as many as the count says, where it is within the slots.
pub nodes-count : (c : Cluster) → length c.nodes ≡ most_nodes → c.count ≤ most_nodes → length (topology c).nodes ≡ c.count
nodes-count c l h = omega (arith, length-take c.count c.nodes)

-- There are no more partitions than a buffer has rows.
pub few_partitions : (k : ℕ) → k ≤ most_bits → 2 ^ k ≤ buffer_rows
few_partitions k h = pow_mono h

-- Bits in range are not cut where the partitions are counted.
pub partitions_in_range : (k : ℕ) → k ≤ most_bits → 2 ^ min k most_bits ≡ 2 ^ k
partitions_in_range k h = let e : min k most_bits ≡ k = omega arith in ap (λ (n : ℕ). 2 ^ n) e
