-- What was read so far: which tags come next, and what holds of every reading that no fault has ended.
-- Assumes nothing.
use Prim.Native.Nat.{ℕ, zero, suc, ◌+◌, ◌-◌, ◌/◌, ◌%◌, ◌≤◌, ◌<◌}
use mathlib.Core.Path.{◌≡◌, refl, sym, ap, ◌∙◌, subst}
use mathlib.Core.Bool.{true, ◌||◌}
use mathlib.Core.List.{List, [], ◌∷◌}
use mathlib.Core.Logic.{⊎_elim}
use native.Mathlib.Omega.{arith}
use lib.Dec.{ltb, eqb}
use lib.ListN.{length, length-append}
use borrow.Author.Tests.{ltb-false, eqb-false, lt-ltb, le-ltb}
use Rattle.sums.proofs.Sum.{lt_or_ge}
use Rattle.cluster.specs.Terms.{most_bits, most_copies, most_ceiling, buffer_rows, partitions, Layout, no_node, row, ids_of, mem, rising}
use Rattle.cluster.specs.declared.Node.{Node}
use Rattle.cluster.specs.TermsReading.{Accepted}
use Rattle.cluster.proofs.Lists.{mem_head, mem_tail, mem_cases, rising_none}
use Rattle.fields.specs.RecordField.{rule_of, number_at, node_width, row_width, Whole, node_at_byte, ids_at}
use Rattle.fields.proofs.RecordField.{one_tag}
use Rattle.cluster_fields.specs.RecordClusterFaults.{Item, of_bits, of_replication, of_redundancy, of_node, of_former_row, item_in, with_item, up_to, former_with, fault_in}
use Rattle.cluster_reading.specs.RecordClusterReading.{Reading, nothing_read, allowed_after, reading_with}
use Rattle.sums.proofs.Tests.{neither}
use Rattle.cluster_fields.proofs.Items.{item_bits, item_replication, item_redundancy, item_node, item_five, ids_snoc, rising_snoc, in_range_lem, sound_node, sound_row}
use Rattle.id_bytes.proofs.IdBytes.{length_ids}
use Rattle.cluster.proofs.Accepting.{few_partitions}
use Rattle.cluster_fields.proofs.Rows.{every_snoc, row-up_to, length-next}

-- ---- the tags allowed next

-- The tags that may come after a tag: the next number up to 3, then nodes, then rows.
pub data Kind (last tag : ℕ) : Type 0 where
  number-next : last < 3 → tag ≡ last + 1 → Kind last tag
  node-next : 3 ≤ last → last < 5 → tag ≡ 4 → Kind last tag
  row_next : 3 ≤ last → tag ≡ 5 → Kind last tag

allowed-number : (last : ℕ) → last < 3 → allowed_after last ≡ (last + 1) ∷ []
unfolding allowed_after
allowed-number last h = simp (lt-ltb last 3 h)

allowed-node : (last : ℕ) → 3 ≤ last → last < 5 → allowed_after last ≡ 4 ∷ 5 ∷ []
unfolding allowed_after
allowed-node last a b = simp (le-ltb last 3 a, lt-ltb last 5 b)

allowed-row : (last : ℕ) → 5 ≤ last → allowed_after last ≡ 5 ∷ []
unfolding allowed_after
allowed-row last a = simp (le-ltb last 3 (omega arith), le-ltb last 5 a)

-- A tag that is allowed is one of these,
pub kind : (last tag : ℕ) → mem tag (allowed_after last) ≡ true → Kind last tag
kind last tag h =
    ⊎_elim (λ low. number-next low (one_tag (last + 1) tag (sym (ap (mem tag) (allowed-number last low)) ∙ h)))
    (λ a. ⊎_elim
    (λ b. ⊎_elim (λ e. node-next a b e) (λ m. row_next a (one_tag 5 tag m)) (mem_cases tag 4 (5 ∷ []) (sym (ap (mem tag) (allowed-node last a b)) ∙ h)))
    (λ b. row_next a (one_tag 5 tag (sym (ap (mem tag) (allowed-row last b)) ∙ h)))
    (lt_or_ge last 5))
    (lt_or_ge last 3)

-- and each of these is allowed.
pub kind-allowed : (last tag : ℕ) → Kind last tag → mem tag (allowed_after last) ≡ true
kind-allowed last tag (number-next a e) = ap (mem tag) (allowed-number last a) ∙ mem_head tag (last + 1) [] e
kind-allowed last tag (node-next a b e) = ap (mem tag) (allowed-node last a b) ∙ mem_head tag 4 (5 ∷ []) e
kind-allowed last tag (row_next a e) =
    let five = mem_head tag 5 [] e in
    ⊎_elim (λ b. ap (mem tag) (allowed-node last a b) ∙ mem_tail tag 4 (5 ∷ []) five) (λ b. ap (mem tag) (allowed-row last b) ∙ five) (lt_or_ge last 5)

pub tag_range : (last tag : ℕ) → Kind last tag → (1 ≤ tag) × (tag ≤ 5)
tag_range last tag (number-next a e) = (omega arith, omega arith)
tag_range last tag (node-next a b e) = (omega arith, omega arith)
tag_range last tag (row_next a e) = (omega arith, omega arith)

-- ---- the lengths

module _ {n at : ℕ} {allowed : List ℕ} {tag start len : ℕ} (w : Whole n at allowed 0 tag start len) where
  -- A field of the tags 1, 2 and 3 has one byte,
  pub one_byte : 1 ≤ tag → tag ≤ 3 → len ≡ 1
  unfolding rule_of
  one_byte a b = go tag a b w.least w.greatest
    where
      go : (k : ℕ) → 1 ≤ k → k ≤ 3 → (rule_of k).least ≤ len → len ≤ (rule_of k).greatest → len ≡ 1
      go zero a b x y = absurd (omega arith)
      go (suc zero) a b x y = omega arith
      go (suc (suc zero)) a b x y = omega arith
      go (suc (suc (suc zero))) a b x y = omega arith
      go (suc (suc (suc (suc k)))) a b x y = absurd (omega arith)

  -- that of a node has those of a node,
  pub node-length : tag ≡ 4 → len ≡ node_width
  unfolding rule_of
  node-length e =
      let a : node_width ≤ len = subst (λ (k : ℕ). (rule_of k).least ≤ len) e w.least in
      let b : len ≤ node_width = subst (λ (k : ℕ). len ≤ (rule_of k).greatest) e w.greatest in
      omega arith

  -- and that of a row two, and four for each of one to eight ids.
  pub row-bytes : tag ≡ 5 → (row_width 1 ≤ len) × (len ≤ row_width most_copies) × (len ≡ row_width ((len - 2) / 4))
  unfolding rule_of
  row-bytes e =
      let a : row_width 1 ≤ len = subst (λ (k : ℕ). (rule_of k).least ≤ len) e w.least in
      let b : len ≤ row_width most_copies = subst (λ (k : ℕ). len ≤ (rule_of k).greatest) e w.greatest in
      let c : (len - row_width 1) % 4 ≡ 0 = subst (λ (k : ℕ). (len - (rule_of k).least) % (rule_of k).step ≡ 0) e w.step in
      (a, b, omega arith)

-- ---- what holds of a reading

-- The cluster so far is accepted, and so are the rows; what was not read yet is as before the first field.
pub record Well (r : Reading) : Type 0 where
  pub accepted : Accepted r.cluster
  pub alone : r.last < 3 → r.cluster.redundancy ≡ 1
  pub no_nodes_lem : r.last < 4 → r.cluster.nodes ≡ []
  pub no_rows : r.last < 5 → r.former ≡ []
  pub last_le : r.last ≤ 5
  pub rows_le : length r.former ≤ partitions r.cluster
  pub row-ids : (p : ℕ) → rising (row r.former p) ≡ true
  pub row_few : (p : ℕ) → length (row r.former p) ≤ most_copies

-- There are at most as many rows as a buffer has.
pub rows_few : (r : Reading) → Well r → length r.former ≤ buffer_rows
rows_few r w = omega (arith, w.rows_le, few_partitions r.cluster.bits w.accepted.bits)

pub well_nothing : Well nothing_read
unfolding nothing_read ids_of
well_nothing = record {
  accepted = record { bits = omega arith; replication = (omega arith, omega arith); redundancy = (omega arith, omega arith); few = omega arith; ids = rising_none 0; ceilings = λ b. omega arith };
  alone = λ l. refl;
  no_nodes_lem = λ l. refl;
  no_rows = λ l. refl;
  last_le = omega arith;
  rows_le = omega arith;
  row-ids = λ p. rising_none 0;
  row_few = λ p. omega arith;
}

-- Each field without fault keeps it.
module _ (r : Reading) (tag : ℕ) (w : Well r) where
  well_bits : (k : ℕ) → r.last ≡ 0 → tag ≡ 1 → fault_in r.cluster (length r.former) (of_bits k) ≡ 0 → Well (reading_with r tag (of_bits k))
  unfolding reading_with with_item former_with fault_in
  well_bits k z e f =
      record {
        accepted = record { bits = ltb-false most_bits k (in_range_lem (ltb most_bits k) f); replication = w.accepted.replication; redundancy = w.accepted.redundancy; few = w.accepted.few; ids = w.accepted.ids; ceilings = w.accepted.ceilings };
        alone = λ l. w.alone (omega arith);
        no_nodes_lem = λ l. w.no_nodes_lem (omega arith);
        no_rows = λ l. w.no_rows (omega arith);
        last_le = omega arith;
        rows_le = omega (arith, ap length (w.no_rows (omega arith)));
        row-ids = w.row-ids;
        row_few = w.row_few;
      }

  well_replication : (k : ℕ) → r.last ≡ 1 → tag ≡ 2 → fault_in r.cluster (length r.former) (of_replication k) ≡ 0 → Well (reading_with r tag (of_replication k))
  unfolding reading_with with_item former_with fault_in
  well_replication k z e f =
      let n = neither (eqb k 0) (ltb most_copies k) (in_range_lem (eqb k 0 || ltb most_copies k) f) in
      let some : (k ≡ 0 → ⊥) = eqb-false k 0 n.0 in
      record {
        accepted = record { bits = w.accepted.bits; replication = (omega arith, ltb-false most_copies k n.1); redundancy = (w.accepted.redundancy.0, omega (arith, w.alone (omega arith))); few = w.accepted.few; ids = w.accepted.ids; ceilings = w.accepted.ceilings };
        alone = λ l. w.alone (omega arith);
        no_nodes_lem = λ l. w.no_nodes_lem (omega arith);
        no_rows = λ l. w.no_rows (omega arith);
        last_le = omega arith;
        rows_le = w.rows_le;
        row-ids = w.row-ids;
        row_few = w.row_few;
      }

  well_redundancy : (k : ℕ) → r.last ≡ 2 → tag ≡ 3 → fault_in r.cluster (length r.former) (of_redundancy k) ≡ 0 → Well (reading_with r tag (of_redundancy k))
  unfolding reading_with with_item former_with fault_in
  well_redundancy k z e f =
      let n = neither (eqb k 0) (ltb r.cluster.replication k) (in_range_lem (eqb k 0 || ltb r.cluster.replication k) f) in
      let some : (k ≡ 0 → ⊥) = eqb-false k 0 n.0 in
      record {
        accepted = record { bits = w.accepted.bits; replication = w.accepted.replication; redundancy = (omega arith, ltb-false r.cluster.replication k n.1); few = w.accepted.few; ids = w.accepted.ids; ceilings = w.accepted.ceilings };
        alone = λ l. absurd (omega arith);
        no_nodes_lem = λ l. w.no_nodes_lem (omega arith);
        no_rows = λ l. w.no_rows (omega arith);
        last_le = omega arith;
        rows_le = w.rows_le;
        row-ids = w.row-ids;
        row_few = w.row_few;
      }

  well_node : (n : Node) → r.last < 5 → tag ≡ 4 → fault_in r.cluster (length r.former) (of_node n) ≡ 0 → Well (reading_with r tag (of_node n))
  unfolding reading_with with_item former_with
  well_node n z e f =
      let l : List Node = r.cluster.nodes in
      let h = sound_node r.cluster (length r.former) n f in
      record {
        accepted = record {
          bits = w.accepted.bits;
          replication = w.accepted.replication;
          redundancy = w.accepted.redundancy;
          few = omega (arith, length-append l (n ∷ []), h.1);
          ids = ap rising (ids_snoc l n) ∙ rising_snoc 0 (ids_of l) n.id w.accepted.ids h.0;
          ceilings = every_snoc (λ (x : Node). x.ceiling ≤ most_ceiling) no_node l n w.accepted.ceilings h.2 (omega arith);
        };
        alone = λ l. absurd (omega arith);
        no_nodes_lem = λ l. absurd (omega arith);
        no_rows = λ l. w.no_rows z;
        last_le = omega arith;
        rows_le = w.rows_le;
        row-ids = w.row-ids;
        row_few = w.row_few;
      }

  well_row : (p : ℕ) (l : List ℕ) → tag ≡ 5 → length l ≤ most_copies → fault_in r.cluster (length r.former) (of_former_row p l) ≡ 0 → Well (reading_with r tag (of_former_row p l))
  unfolding reading_with with_item former_with
  well_row p l e few f =
      let F : Layout = r.former in
      let h = sound_row r.cluster (length F) p l f in
      record {
        accepted = w.accepted;
        alone = λ l. absurd (omega arith);
        no_nodes_lem = λ l. absurd (omega arith);
        no_rows = λ l. absurd (omega arith);
        last_le = omega arith;
        rows_le = omega (arith, length-next F p l h.1, h.0);
        row-ids = every_snoc (λ (x : List ℕ). rising x ≡ true) [] (up_to p F) l
            (λ q. ap rising (row-up_to p F q) ∙ w.row-ids q) h.2 (rising_none 0);
        row_few = every_snoc (λ (x : List ℕ). length x ≤ most_copies) [] (up_to p F) l
            (λ q. subst (λ (x : List ℕ). length x ≤ most_copies) (sym (row-up_to p F q)) (w.row_few q)) few (omega arith);
      }

pub well_step : (s : List ℕ) (r : Reading) (tag start len : ℕ) → Well r → Kind r.last tag → (tag ≡ 5 → len ≤ row_width most_copies)
    → fault_in r.cluster (length r.former) (item_in s tag start len) ≡ 0 → Well (reading_with r tag (item_in s tag start len))
well_step s r tag start len w (number-next a e) few =
    ⊎_elim (λ l. by (item_bits s start len tag (omega arith)) (well_bits r tag w (number_at s start 1) (omega arith) (omega arith)))
    (λ g. ⊎_elim (λ l. by (item_replication s start len tag (omega arith)) (well_replication r tag w (number_at s start 1) (omega arith) (omega arith)))
    (λ k. by (item_redundancy s start len tag (omega arith)) (well_redundancy r tag w (number_at s start 1) (omega arith) (omega arith)))
    (lt_or_ge r.last 2))
    (lt_or_ge r.last 1)
  where
    by : {i : Item} → item_in s tag start len ≡ i → (fault_in r.cluster (length r.former) i ≡ 0 → Well (reading_with r tag i))
        → fault_in r.cluster (length r.former) (item_in s tag start len) ≡ 0 → Well (reading_with r tag (item_in s tag start len))
    by q h = subst (λ (i : Item). fault_in r.cluster (length r.former) i ≡ 0 → Well (reading_with r tag i)) (sym q) h
well_step s r tag start len w (node-next a b e) few =
    subst (λ (i : Item). fault_in r.cluster (length r.former) i ≡ 0 → Well (reading_with r tag i)) (sym (item_node s start len tag e))
    (well_node r tag w (node_at_byte s start) b e)
well_step s r tag start len w (row_next a e) few =
    subst (λ (i : Item). fault_in r.cluster (length r.former) i ≡ 0 → Well (reading_with r tag i)) (sym (item_five s start len tag e))
    (well_row r tag w (number_at s start 2) (ids_at s (start + 2) ((len - 2) / 4)) e (omega (arith, few e, length_ids s (start + 2) ((len - 2) / 4))))
