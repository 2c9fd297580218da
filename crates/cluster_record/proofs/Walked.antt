-- What the walk over the fields has in hand at a byte: what was read so far, as a cluster in its slots and rows in their cells.
-- Assumes nothing.
use Prim.Native.Nat.{ℕ, ◌+◌, ◌-◌, ◌/◌, ◌≤◌, ◌<◌}
use mathlib.Core.Path.{◌≡◌, refl, sym, ap, ap₂, ◌∙◌, subst}
use mathlib.Core.Bool.{Bool, true, false}
use mathlib.Core.List.{List}
use native.Mathlib.Omega.{arith}
use lib.ListN.{length, replicate}
use lib.Dec.{ltb}
use Rattle.cluster.specs.Terms.{most_bits, most_copies, most_nodes, buffer_rows, layout_cells, Topology, topology, partitions, Layout, cells_of}
use Rattle.std.specs.Prelude.{Result, Ok, Err, IsOk}
use Rattle.cluster.specs.declared.Cluster.{Cluster}
use Rattle.cluster.specs.declared.refusal.Refusal.{Refusal}
use Rattle.cluster.specs.TermsRefusal.{number_of}
use Rattle.fields.specs.declared.Refused.{Refused as Halt}
use Rattle.cluster.specs.TermsReading.{no_nodes, slots_of}
use Rattle.cell_rows.proofs.CellLayouts.{length-cells_of}
use Rattle.fields.specs.RecordField.{number_at, row_width, field_at, Whole, node_at_byte, ids_at}
use Rattle.fields.specs.declared.Field.TheVariants.{Body, Refused}
use Rattle.fields.proofs.RecordField.{whole}
use Rattle.cluster_fields.specs.RecordClusterFaults.{Item, item_in, with_item, former_with, fault_in}
use Rattle.cluster_reading.specs.RecordClusterReading.{Reading, ClusterRead, nothing_read, allowed_after, reading_with, cluster_refused, ended, walk, read_cluster}
use Rattle.cluster_record.specs.RecordClusterAnswer.{ReadCluster, read_as, cluster_answer}
use Rattle.cluster_fields.proofs.Items.{item_node, item_five, former-kept, sound_node, sound_row}
use Rattle.cluster_fields.proofs.FieldFaults.{RowFault, row-fault}
use Rattle.cluster.proofs.Accepting.{few_partitions}
use Rattle.cluster_fields.proofs.Rows.{cells-none, cells-up_to}
use Rattle.cluster.proofs.Slots.{topology-slots}
use Rattle.cluster_reading.proofs.Walks.{walk_ends, walk_refused, walk-fault, walk-on}
use Rattle.cluster_reading.proofs.Readings.{Kind, kind, tag_range, row-bytes, Well, well_nothing, well_step}

pub record Walked (s rows : List ℕ) (c : Cluster) (last next at : ℕ) : Type 0 where
  pub reading : Reading
  pub fuel : ℕ
  pub here : read_cluster s ≡ walk fuel s at reading
  pub enough : length s ≤ at + fuel
  pub inside : at ≤ length s
  pub well : Well reading
  pub tag_read : last ≡ reading.last
  pub slots : c ≡ slots_of reading.cluster
  pub passed : next ≡ length reading.former
  pub cells : rows ≡ cells_of reading.former

-- Before the first field.
pub walked_start : (s rows : List ℕ) (c : Cluster) → c ≡ no_nodes → rows ≡ replicate layout_cells 0 → Walked s rows c 0 0 0
unfolding read_cluster nothing_read slots_of
walked_start s rows c e z = record {
  reading = nothing_read;
  fuel = length s;
  here = refl;
  enough = omega arith;
  inside = omega arith;
  well = well_nothing;
  tag_read = refl;
  slots = e;
  passed = refl;
  cells = z ∙ sym cells-none;
}

-- An answer is no refusal.
ok-zero : (answer : Result Cluster Halt) → IsOk answer → (read_as answer).refusal ≡ 0
ok-zero (Ok c) h = refl
ok-zero (Err r) h = cc

-- What the walk says in the end: the answer and, unless it is a refusal, the rows.
abbrev pub Says : List ℕ → Result Cluster Halt → List ℕ → Type 0
Says s answer rows = (read_as answer ≡ cluster_answer (read_cluster s)) × (IsOk answer → rows ≡ cells_of (read_cluster s).former)

pub says_refused : (s rows : List ℕ) (r : Halt) → read_cluster s ≡ cluster_refused (number_of r.refusal) r.at → Says s (Err r) rows
unfolding cluster_answer slots_of
says_refused s rows r e = (ap cluster_answer (sym e), λ none. cc)

module _ {s rows : List ℕ} {c : Cluster} {last next at : ℕ} (w : Walked s rows c last next at) where
  -- The nodes in use are those read so far.
  pub walked_topology : topology c ≡ w.reading.cluster
  walked_topology = ap (λ (k : Cluster). topology k) w.slots ∙ topology-slots w.reading.cluster

  pub walked_bits : c.bits ≤ most_bits
  unfolding slots_of
  walked_bits = subst (λ (k : Cluster). k.bits ≤ most_bits) (sym w.slots) w.well.accepted.bits

  pub walked_count : c.count ≤ most_nodes
  unfolding slots_of
  walked_count = subst (λ (k : Cluster). k.count ≤ most_nodes) (sym w.slots) w.well.accepted.few

  pub walked_length : length rows ≡ layout_cells
  walked_length = ap length w.cells ∙ length-cells_of w.reading.former

  -- At the end the rows are what was asked for, unless a field is missing.
  walked_end : length s ≤ at → read_cluster s ≡ ended s w.reading
  walked_end h = w.here ∙ walk_ends s at w.fuel w.reading h

  walked_cells : length s ≤ at → (read_cluster s).refusal ≡ 0 → rows ≡ cells_of (read_cluster s).former
  unfolding ended
  walked_cells h none = by_test (ltb w.reading.last 3) refl
    where
      by_test : (t : Bool) → ltb w.reading.last 3 ≡ t → rows ≡ cells_of (read_cluster s).former
      by_test true e =
          let seven : (ended s w.reading).refusal ≡ 7 = simp e in
          absurd (omega (arith, sym none ∙ (ap (λ (o : ClusterRead). o.refusal) (walked_end h) ∙ seven)))
      by_test false e =
          w.cells
          ∙ (sym (cells-up_to (partitions w.reading.cluster) w.reading.former)
          ∙ sym (ap (λ (o : ClusterRead). cells_of o.former) (walked_end h) ∙ simp e))

  pub says_ended : length s ≤ at → (answer : Result Cluster Halt)
      → ((k : Reading) → last ≡ k.last → c ≡ slots_of k.cluster → read_as answer ≡ cluster_answer (ended s k)) → Says s answer rows
  unfolding cluster_answer
  says_ended h answer e =
      let is : read_as answer ≡ cluster_answer (read_cluster s) = e w.reading w.tag_read w.slots ∙ ap cluster_answer (sym (walked_end h)) in
      (is, λ z. walked_cells h (sym (ap (λ (k : ReadCluster). k.refusal) is) ∙ ok-zero answer z))

  -- A field that cannot be taken whole.
  pub walked_refused : at < length s → {refusal : Refusal} {byte : ℕ} → field_at s at (allowed_after last) 0 ≡ Refused refusal byte
      → read_cluster s ≡ cluster_refused (number_of refusal) byte
  walked_refused more {refusal} {byte} d =
      w.here
      ∙ walk_refused s at w.fuel w.reading more w.enough refusal byte (ap (λ (l : ℕ). field_at s at (allowed_after l) 0) (sym w.tag_read) ∙ d)

-- The same where a whole field stands at the byte.
pub record Met (s rows : List ℕ) (c : Cluster) (last next at tag start len : ℕ) : Type 0 where
  pub walked : Walked s rows c last next at
  pub more : at < length s
  pub field : field_at s at (allowed_after last) 0 ≡ Body tag start len

module _ {s rows : List ℕ} {c : Cluster} {last next at tag start len : ℕ} (m : Met s rows c last next at tag start len) where
  field-read : field_at s at (allowed_after m.walked.reading.last) 0 ≡ Body tag start len
  field-read = ap (λ (l : ℕ). field_at s at (allowed_after l) 0) (sym m.walked.tag_read) ∙ m.field

  walked_whole : Whole (length s) at (allowed_after m.walked.reading.last) 0 tag start len
  walked_whole = whole s at (allowed_after m.walked.reading.last) 0 tag start len field-read

  walked_kind : Kind m.walked.reading.last tag
  walked_kind = kind m.walked.reading.last tag walked_whole.member

  pub walked_tag : (1 ≤ tag) × (tag ≤ 5)
  walked_tag = tag_range m.walked.reading.last tag walked_kind

  pub walked_inside : (start ≡ at + 3) × (start + len ≤ length s)
  walked_inside = (walked_whole.begins, walked_whole.ends)

  pub walked_row : tag ≡ 5 → (row_width 1 ≤ len) × (len ≤ row_width most_copies)
  walked_row q = let b = row-bytes walked_whole q in (b.0, b.1)

  pub walked_row-fault : tag ≡ 5 → {x : ℕ} → RowFault s c.bits next start len x → x ≡ fault_in (topology c) next (item_in s tag start len)
  walked_row-fault q {x} f = row-fault (topology c) next s tag start len x q f

  module _ {x : ℕ} (g : x ≡ fault_in (topology c) next (item_in s tag start len)) where
    fault-read : fault_in m.walked.reading.cluster (length m.walked.reading.former) (item_in s tag start len) ≡ x
    fault-read = sym (g ∙ ap₂ (λ (t : Topology) (n : ℕ). fault_in t n (item_in s tag start len)) (walked_topology m.walked) m.walked.passed)

    -- A fault of what it says.
    pub walked_fault : (x ≡ 0 → ⊥) → read_cluster s ≡ cluster_refused x at
    walked_fault n =
        m.walked.here
        ∙ (walk-fault s at m.walked.fuel m.walked.reading m.more m.walked.enough tag start len field-read (λ z. n (sym fault-read ∙ z))
        ∙ ap (λ (k : ℕ). cluster_refused k at) fault-read)

    module _ (none : x ≡ 0) where
      -- What is known without fault: a node has a slot, and a row is one of the cluster's and not passed.
      pub walked_room : tag ≡ 4 → c.count < most_nodes
      unfolding slots_of
      walked_room q =
          let t : Topology = m.walked.reading.cluster in
          let next : ℕ = length m.walked.reading.former in
          subst (λ (k : Cluster). k.count < most_nodes) (sym m.walked.slots)
          (sound_node t next (node_at_byte s start) (ap (fault_in t next) (sym (item_node s start len tag q)) ∙ (fault-read ∙ none))).1

      row_tests : tag ≡ 5 → (number_at s start 2 < partitions m.walked.reading.cluster) × (length m.walked.reading.former ≤ number_at s start 2)
      row_tests q =
          let t : Topology = m.walked.reading.cluster in
          let next : ℕ = length m.walked.reading.former in
          let n = sound_row t next (number_at s start 2) (ids_at s (start + 2) ((len - 2) / 4))
          (ap (fault_in t next) (sym (item_five s start len tag q)) ∙ (fault-read ∙ none)) in
          (n.0, n.1)

      pub walked_partition : tag ≡ 5 → number_at s start 2 < buffer_rows
      walked_partition q = omega (arith, (row_tests q).0, few_partitions m.walked.reading.cluster.bits m.walked.well.accepted.bits)

      -- One field further, where the cluster and the rows are those with what it says.
      walked_on : {rows' : List ℕ} {c' : Cluster} {next' : ℕ} → c' ≡ slots_of (with_item m.walked.reading.cluster (item_in s tag start len))
          → rows' ≡ cells_of (former_with m.walked.reading.former (item_in s tag start len)) → next' ≡ length (former_with m.walked.reading.former (item_in s tag start len))
          → Walked s rows' c' tag next' (start + len)
      unfolding reading_with
      walked_on slots cells passed =
          let z = fault-read ∙ none in
          record {
            reading = reading_with m.walked.reading tag (item_in s tag start len);
            fuel = m.walked.fuel - 1;
            here = m.walked.here ∙ walk-on s at m.walked.fuel m.walked.reading m.more m.walked.enough tag start len field-read z;
            enough = omega (arith, walked_inside, m.walked.enough);
            inside = walked_inside.1;
            well = well_step s m.walked.reading tag start len m.walked.well walked_kind (λ q. (walked_row q).1) z;
            tag_read = refl;
            slots = slots;
            passed = passed;
            cells = cells;
          }

      -- A row leaves the cluster as it is,
      pub walked_on-row : tag ≡ 5 → (rows' : List ℕ) (next' : ℕ)
          → ((F : Layout) → rows ≡ cells_of F → length F ≤ number_at s start 2
          → (rows' ≡ cells_of (former_with F (item_in s 5 start len))) × (next' ≡ length (former_with F (item_in s 5 start len))))
          → Walked s rows' c tag next' (start + len)
      unfolding with_item
      walked_on-row q rows' next' taken =
          let F : Layout = m.walked.reading.former in
          let b = taken F m.walked.cells (row_tests q).1 in
          let e : item_in s 5 start len ≡ item_in s tag start len = ap (λ (k : ℕ). item_in s k start len) (sym q) in
          walked_on
          (m.walked.slots ∙ ap (λ (i : Item). slots_of (with_item m.walked.reading.cluster i)) (sym (item_five s start len tag q)))
          (b.0 ∙ ap (λ (i : Item). cells_of (former_with F i)) e)
          (b.1 ∙ ap (λ (i : Item). length (former_with F i)) e)

      -- and any other field the rows.
      pub walked_on_other : tag ≤ 4 → (c' : Cluster) → ((t : Topology) (len : ℕ) → c ≡ slots_of t → c' ≡ slots_of (with_item t (item_in s tag start len)))
          → Walked s rows c' tag next (start + len)
      walked_on_other q c' with_it =
          let F : Layout = m.walked.reading.former in
          let kept = sym (former-kept s start len F tag walked_tag.0 q) in
          walked_on (with_it m.walked.reading.cluster len m.walked.slots) (m.walked.cells ∙ ap cells_of kept) (m.walked.passed ∙ ap (λ (l : Layout). length l) kept)
