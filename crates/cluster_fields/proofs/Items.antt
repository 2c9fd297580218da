-- What a field says: the values by its tag, the ids of a former row, and what is known where no fault is found.
-- Assumes nothing.
use Prim.Native.Nat.{ℕ, zero, suc, ◌+◌, ◌-◌, ◌/◌, ◌≤◌, ◌<◌}
use mathlib.Core.Path.{◌≡◌, refl, sym, ap, ◌∙◌}
use mathlib.Core.Bool.{Bool, true, false, not, ◌||◌, cond}
use mathlib.Core.List.{List, [], ◌∷◌, ◌++◌}
use mathlib.Core.Logic.{⊎_elim}
use native.Mathlib.Omega.{arith}
use lib.Dec.{ltb, leb, eqb}
use lib.ListN.{length, take, get_or}
use lib.Seq.{take-suc}
use borrow.Author.Tests.{ltb-false, leb-false, not-false, lt-ltb, le-ltb, lt-leb, eq-eqb, ne_eqb}
use Rattle.sums.proofs.Sum.{eq_or_ne}
use Rattle.sums.proofs.Tests.{neither}
use Rattle.cluster.specs.declared.Node.{Node}
use Rattle.cluster.specs.Terms.{most_nodes, most_ceiling, Topology, partitions, Layout, no_node, ids_of, mem, rising, rising_from, node_out_of_range}
use Rattle.cluster.proofs.Accepting.{node_in_range, in_range-node}
use Rattle.cluster.proofs.Lists.{rising_head, rising_cons, rising_tail, rising_none, rising_fresh}
use Rattle.fields.specs.RecordField.{number_at, node_at_byte, ids_at}
use Rattle.cluster_fields.specs.RecordClusterFaults.{of_bits, of_replication, of_redundancy, of_node, of_former_row, item_in, former_with, last_of, fault_in}

-- ---- tests

-- Below 1 is 0.
pub below_one : (k : ℕ) → ltb k 1 ≡ eqb k 0
below_one k = ⊎_elim (λ e. lt-ltb k 1 (omega arith) ∙ sym (eq-eqb k 0 e)) (λ n. le-ltb k 1 (omega arith) ∙ sym (ne_eqb k 0 n)) (eq_or_ne k 0)

-- ---- the values by the tag

module _ (s : List ℕ) (start len : ℕ) where
  pub item_bits : (tag : ℕ) → tag ≡ 1 → item_in s tag start len ≡ of_bits (number_at s start 1)
  unfolding item_in
  item_bits tag e = ap (λ (k : ℕ). item_in s k start len) e

  pub item_replication : (tag : ℕ) → tag ≡ 2 → item_in s tag start len ≡ of_replication (number_at s start 1)
  unfolding item_in
  item_replication tag e = ap (λ (k : ℕ). item_in s k start len) e

  pub item_redundancy : (tag : ℕ) → tag ≡ 3 → item_in s tag start len ≡ of_redundancy (number_at s start 1)
  unfolding item_in
  item_redundancy tag e = ap (λ (k : ℕ). item_in s k start len) e

  pub item_node : (tag : ℕ) → tag ≡ 4 → item_in s tag start len ≡ of_node (node_at_byte s start)
  unfolding item_in
  item_node tag e = ap (λ (k : ℕ). item_in s k start len) e

  pub item_five : (tag : ℕ) → tag ≡ 5 → item_in s tag start len ≡ of_former_row (number_at s start 2) (ids_at s (start + 2) ((len - 2) / 4))
  unfolding item_in
  item_five tag e = ap (λ (k : ℕ). item_in s k start len) e

  -- Any field but a row leaves the rows as they are.
  pub former-kept : (F : Layout) (tag : ℕ) → 1 ≤ tag → tag ≤ 4 → former_with F (item_in s tag start len) ≡ F
  unfolding item_in former_with
  former-kept F zero a b = absurd (omega arith)
  former-kept F (suc zero) a b = refl
  former-kept F (suc (suc zero)) a b = refl
  former-kept F (suc (suc (suc zero))) a b = refl
  former-kept F (suc (suc (suc (suc zero)))) a b = refl
  former-kept F (suc (suc (suc (suc (suc n))))) a b = absurd (omega arith)

-- ---- the last id

pub ids_snoc : (l : List Node) (n : Node) → ids_of (l ++ (n ∷ [])) ≡ ids_of l ++ (n.id ∷ [])
unfolding ids_of
ids_snoc [] n = refl
ids_snoc (x ∷ l) n = ap (λ (r : List ℕ). x.id ∷ r) (ids_snoc l n)

pub last_snoc : (d : ℕ) (l : List ℕ) (x : ℕ) → last_of d (l ++ (x ∷ [])) ≡ x
unfolding last_of
last_snoc d [] x = refl
last_snoc d (y ∷ l) x = last_snoc y l x

-- The id of the last of n nodes.
pub last-used : (l : List Node) (n : ℕ) → 0 < n → n ≤ length l → last_of 0 (ids_of (take n l)) ≡ (get_or l (n - 1) no_node).id
last-used l n h k =
    let e : n ≡ suc (n - 1) = omega arith in
    ap (λ (j : ℕ). last_of 0 (ids_of (take j l))) e
    ∙ (ap (λ (r : List Node). last_of 0 (ids_of r)) (take-suc l (n - 1) no_node (omega arith))
    ∙ (ap (last_of 0) (ids_snoc (take (n - 1) l) (get_or l (n - 1) no_node)) ∙ last_snoc 0 (ids_of (take (n - 1) l)) (get_or l (n - 1) no_node).id))

-- No nodes have no last id.
pub last_none : (l : List Node) (n : ℕ) → n ≡ 0 → last_of 0 (ids_of (take n l)) ≡ 0
unfolding last_of ids_of
last_none l n e = ap (λ (j : ℕ). last_of 0 (ids_of (take j l))) e

-- One id more rises where it is above the last.
pub rising_snoc : (k : ℕ) (l : List ℕ) (x : ℕ) → rising_from k l ≡ true → last_of k l < x → rising_from k (l ++ (x ∷ [])) ≡ true
unfolding last_of
rising_snoc k [] x h a = rising_cons k x [] a (rising_none x)
rising_snoc k (y ∷ l) x h a = rising_cons k y (l ++ (x ∷ [])) (rising_head k y l h) (rising_snoc y l x (rising_tail k y l h) a)

-- ---- the faults

-- Where a test of range finds no fault it has failed,
pub in_range_lem : (a : Bool) → ◌≡◌ {A = ℕ} (cond a 4 0) 0 → a ≡ false
in_range_lem true e = absurd (omega arith)
in_range_lem false e = refl

module _ (t : Topology) (next : ℕ) where
  -- a node without fault has an id above the last, a slot, and a ceiling in range,
  pub sound_node : (n : Node) → fault_in t next (of_node n) ≡ 0
      → (last_of 0 (ids_of t.nodes) < n.id) × (length t.nodes < most_nodes) × (n.ceiling ≤ most_ceiling)
  unfolding fault_in
  sound_node n = go (node_out_of_range n) (leb n.id (last_of 0 (ids_of t.nodes))) (leb most_nodes (length t.nodes)) refl refl refl
    where
      go : (a b c : Bool) → node_out_of_range n ≡ a → leb n.id (last_of 0 (ids_of t.nodes)) ≡ b → leb most_nodes (length t.nodes) ≡ c
          → ◌≡◌ {A = ℕ} (cond a 4 (cond b 5 (cond c 6 0))) 0
          → (last_of 0 (ids_of t.nodes) < n.id) × (length t.nodes < most_nodes) × (n.ceiling ≤ most_ceiling)
      go true b c f d e z = absurd (omega arith)
      go false true c f d e z = absurd (omega arith)
      go false false true f d e z = absurd (omega arith)
      go false false false f d e z =
          (leb-false n.id (last_of 0 (ids_of t.nodes)) d, leb-false most_nodes (length t.nodes) e, (in_range-node n f).1)

  -- and a row without fault is one of the cluster's, not passed, of rising ids.
  pub sound_row : (p : ℕ) (ids : List ℕ) → fault_in t next (of_former_row p ids) ≡ 0 → (p < partitions t) × (next ≤ p) × (rising ids ≡ true)
  unfolding fault_in
  sound_row p ids = go (leb (partitions t) p || mem 0 ids) (ltb p next || not (rising ids)) refl refl
    where
      go : (a b : Bool) → leb (partitions t) p || mem 0 ids ≡ a → ltb p next || not (rising ids) ≡ b → ◌≡◌ {A = ℕ} (cond a 4 (cond b 5 0)) 0
          → (p < partitions t) × (next ≤ p) × (rising ids ≡ true)
      go true b d e z = absurd (omega arith)
      go false true d e z = absurd (omega arith)
      go false false d e z =
          let up = neither (ltb p next) (not (rising ids)) e in
          (leb-false (partitions t) p (neither (leb (partitions t) p) (mem 0 ids) d).0, ltb-false p next up.0, not-false (rising ids) up.1)

  -- The other way round.
  pub node_sound : (n : Node) → last_of 0 (ids_of t.nodes) < n.id → length t.nodes < most_nodes → n.ceiling ≤ most_ceiling → fault_in t next (of_node n) ≡ 0
  unfolding fault_in
  node_sound n a b h =
      simp (node_in_range n (omega arith) h, lt-leb n.id (last_of 0 (ids_of t.nodes)) a, lt-leb most_nodes (length t.nodes) b)

  pub row_sound : (p : ℕ) (ids : List ℕ) → p < partitions t → next ≤ p → rising ids ≡ true → fault_in t next (of_former_row p ids) ≡ 0
  unfolding fault_in
  row_sound p ids a b up = simp (lt-leb (partitions t) p a, rising_fresh 0 0 ids up (omega arith), le-ltb p next b, up)
