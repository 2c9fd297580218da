-- The longest record, and that the first 10,001 bytes decide every reading.
-- Assumes nothing.
use Prim.Native.Nat.{ℕ, suc, ◌+◌, ◌-◌, ◌*◌, ◌/◌, ◌≤◌, ◌<◌, min}
use mathlib.Core.Path.{◌≡◌, refl, sym, ap, ◌∙◌}
use mathlib.Core.Bool.{cond}
use mathlib.Core.List.{List, [], ◌∷◌, ◌++◌}
use mathlib.Core.Logic.{⊎_elim}
use native.Mathlib.Omega.{arith}
use lib.Dec.{ltb, eqb}
use lib.ListN.{length, take, drop, replicate, length-append, length-take}
use lib.Seq.{take_all}
use Rattle.sums.proofs.Sum.{lt_or_ge}
use Rattle.cluster.specs.declared.Node.{Node}
use Rattle.cluster.specs.Terms.{most_copies, layout_cells, cells_of, Topology, Layout, row, IsFormer}
use Rattle.cluster.specs.TermsReading.{Accepted}
use Rattle.fields.specs.RecordField.{node_width, node_bytes, row_width, head_width, longest_field, bytes_of, number_at, field, field_at, Whole, node_at_byte, id_bytes, ids_at}
use Rattle.fields.specs.declared.Field.TheVariants.{Body}
use Rattle.node_bytes.proofs.Nodes.{length-node}
use Rattle.fields.proofs.Cut.{number_same, ids_same, node_same, field_same}
use Rattle.numbers.proofs.Numbers.{length-bytes}
use Rattle.fields.proofs.RecordField.{whole, length-field, refused-some}
use Rattle.cluster_record.specs.RecordCluster.{bits_field, replication_field, redundancy_field, node_field, node_fields, former_field, former_fields, cluster_record, longest_record, deciding_bytes}
use Rattle.cluster_fields.specs.RecordClusterFaults.{Item, of_bits, of_replication, of_redundancy, of_node, of_former_row, item_in, with_item, up_to, former_with, fault_in}
use Rattle.cluster_reading.specs.RecordClusterReading.{Reading, ClusterRead, nothing_read, allowed_after, reading_with, cluster_refused, walk, read_cluster}
use Rattle.cluster_record.specs.RecordClusterAnswer.{cluster_outcome, cluster_answer, read_cluster_of, former_read}
use Rattle.cluster_fields.proofs.Items.{item_node, item_five, sound_row}
use Rattle.cluster.proofs.Accepting.{few_partitions}
use Rattle.cluster_fields.proofs.Rows.{length-next}
use Rattle.cluster_reading.proofs.Walks.{walk_refused, walk-fault, walk-on, walk-holds}
use Rattle.cluster_reading.proofs.Readings.{Kind, number-next, node-next, row_next, kind, one_byte, node-length, row-bytes, Well, well_nothing, well_step, rows_few}
use Rattle.id_bytes.proofs.IdBytes.{length-id-bytes}

-- ---- the longest record

length-nodes : (l : List Node) → length (node_fields l) ≡ length l * (head_width + node_width)
unfolding node_fields node_field
length-nodes [] = refl
length-nodes (n ∷ l) =
    omega (arith, length-append (field 4 (node_bytes n)) (node_fields l), length-field 4 (node_bytes n), length-node n, length-nodes l)

length-row : (p : ℕ) (l : List ℕ) → length l ≤ most_copies → length (former_field p l) ≤ longest_field
unfolding former_field
length-row p [] h = omega arith
length-row p (i ∷ l) h =
    let body = bytes_of 2 p ++ id_bytes (i ∷ l) in
    omega (arith, length-field 5 body, length-append (bytes_of 2 p) (id_bytes (i ∷ l)), length-bytes 2 p, length-id-bytes (i ∷ l))

length-rows : (p : ℕ) (F : Layout) → ((q : ℕ) → q < length F → length (row F q) ≤ most_copies) → length (former_fields p F) ≤ length F * longest_field
unfolding former_fields
length-rows p [] h = omega arith
length-rows p (r ∷ F) h =
    omega (arith, length-append (former_field p r) (former_fields (suc p) F), length-row p r (h 0 (omega arith)), length-rows (suc p) F (λ q l. h (suc q) (omega arith)))

-- No record has more than 9,964 bytes.
pub longest : (t : Topology) (F : Layout) → Accepted t → IsFormer t F → length (cluster_record t F) ≤ longest_record
unfolding cluster_record bits_field replication_field redundancy_field
longest t F a f =
    let b = field 1 (bytes_of 1 t.bits) in
    let c = field 2 (bytes_of 1 t.replication) in
    let d = field 3 (bytes_of 1 t.redundancy) in
    let rest = node_fields t.nodes ++ former_fields 0 F in
    omega (
      arith,
      length-append b (c ++ (d ++ rest)),
      length-append c (d ++ rest),
      length-append d rest,
      length-append (node_fields t.nodes) (former_fields 0 F),
      length-field 1 (bytes_of 1 t.bits),
      length-field 2 (bytes_of 1 t.replication),
      length-field 3 (bytes_of 1 t.redundancy),
      length-bytes 1 t.bits,
      length-bytes 1 t.replication,
      length-bytes 1 t.redundancy,
      length-nodes t.nodes,
      length-rows 0 F (λ q l. f.few q (omega (arith, f.partition_rows))),
      f.partition_rows,
      few_partitions t.bits a.bits,
      a.few,
    )

-- ---- how far the walk comes

-- The byte that a reading has come to, by what it has read.
Small : ℕ → Reading → Type 0
Small at r = at ≤ (head_width + 1) * min 3 r.last + length r.cluster.nodes * (head_width + node_width) + length r.former * longest_field

-- No more than the longest record.
small_far : (at : ℕ) (r : Reading) → Well r → Small at r → at ≤ longest_record
unfolding Small
small_far at r w h = omega (arith, w.accepted.few, rows_few r w)

-- No field takes anything away.
nodes_grow : (t : Topology) (i : Item) → length t.nodes ≤ length (with_item t i).nodes
unfolding with_item
nodes_grow t (of_bits k) = omega arith
nodes_grow t (of_replication k) = omega arith
nodes_grow t (of_redundancy k) = omega arith
nodes_grow t (of_node n) = omega (arith, length-append t.nodes (n ∷ []))
nodes_grow t (of_former_row p l) = omega arith

rows_grow : (F : Layout) (i : Item) → length F ≤ length (former_with F i)
unfolding former_with up_to
rows_grow F (of_bits k) = omega arith
rows_grow F (of_replication k) = omega arith
rows_grow F (of_redundancy k) = omega arith
rows_grow F (of_node n) = omega arith
rows_grow F (of_former_row p l) = omega (arith, length-append (F ++ replicate (p - length F) []) (l ∷ []), length-append F (replicate (p - length F) []))

-- Each field has its share of the bytes.
small_step : (s : List ℕ) (at : ℕ) (r : Reading) (tag start len : ℕ) → Small at r → Whole (length s) at (allowed_after r.last) 0 tag start len → Kind r.last tag
    → fault_in r.cluster (length r.former) (item_in s tag start len) ≡ 0 → Small (start + len) (reading_with r tag (item_in s tag start len))
unfolding Small reading_with with_item former_with
small_step s at r tag start len h f (number-next a e) none =
    omega (arith, f.begins, one_byte f (omega arith) (omega arith), nodes_grow r.cluster (item_in s tag start len), rows_grow r.former (item_in s tag start len))
small_step s at r tag start len h f (node-next a b e) none =
    let i : Item = item_in s tag start len in
    let n : length (with_item r.cluster i).nodes ≡ length r.cluster.nodes + 1 =
    ap (λ (x : Item). length (with_item r.cluster x).nodes) (item_node s start len tag e) ∙ length-append r.cluster.nodes (node_at_byte s start ∷ []) in
    omega (arith, f.begins, node-length f e, n, rows_grow r.former i)
small_step s at r tag start len h f (row_next a e) none =
    let i : Item = item_in s tag start len in
    let F : Layout = r.former in
    let p : ℕ = number_at s start 2 in
    let l : List ℕ = ids_at s (start + 2) ((len - 2) / 4) in
    let passed = (sound_row r.cluster (length F) p l (ap (fault_in r.cluster (length F)) (sym (item_five s start len tag e)) ∙ none)).1 in
    let n : length (former_with F i) ≡ p + 1 = ap (λ (x : Item). length (former_with F x)) (item_five s start len tag e) ∙ length-next F p l passed in
    omega (arith, f.begins, row-bytes f e, n, nodes_grow r.cluster i)

-- ---- the bytes that decide

module _ (s : List ℕ) (n : ℕ) where
  -- What a field says is the same after the cut.
  item_same : (tag start len : ℕ) → start + row_width most_copies ≤ n → start + row_width most_copies ≤ length s → len ≤ row_width most_copies → item_in (take n s) tag start len ≡ item_in s tag start len
  unfolding item_in
  item_same tag start len h k few =
      simp (
        number_same s n start 1 (omega arith) (omega arith),
        node_same s n start (omega arith) (omega arith),
        number_same s n start 2 (omega arith) (omega arith),
        ids_same s n (start + 2) ((len - 2) / 4) (omega arith) (omega arith),
      )

  -- The walk over the cut record comes to the same.
  record Same (at : ℕ) (r : Reading) : Type 0 where
    well : Well r
    small : Small at r
    fuel : ℕ
    enough : length (take n s) ≤ at + fuel
    here : read_cluster (take n s) ≡ walk fuel (take n s) at r

  abbrev Decides : ClusterRead → Type 0
  Decides o = (read_cluster (take n s) ≡ o) × (o.refusal ≡ 0 → ⊥)

  module _ (long : deciding_bytes ≤ length s) (cut-long : deciding_bytes ≤ n) where
    near : (at : ℕ) (r : Reading) → Same at r → at + longest_field ≤ deciding_bytes
    near at r q = omega (arith, small_far at r q.well q.small)

    before_end : (at : ℕ) (r : Reading) → Same at r → at < length (take n s)
    before_end at r q = omega (arith, near at r q, length-take n s)

    same_field : (at : ℕ) (r : Reading) → Same at r → field_at (take n s) at (allowed_after r.last) 0 ≡ field_at s at (allowed_after r.last) 0
    same_field at r q = field_same s n at (allowed_after r.last) 0 (omega (arith, near at r q)) (omega (arith, near at r q))

    module _ (at : ℕ) (r : Reading) (q : Same at r) (tag start len : ℕ) (e : field_at s at (allowed_after r.last) 0 ≡ Body tag start len) where
      met : Whole (length s) at (allowed_after r.last) 0 tag start len
      met = whole s at (allowed_after r.last) 0 tag start len e

      kind_met : Kind r.last tag
      kind_met = kind r.last tag met.member

      short : (k : Kind r.last tag) → len ≤ row_width most_copies
      short (number-next a d) = omega (arith, one_byte met (omega arith) (omega arith))
      short (node-next a b d) = omega (arith, node-length met d)
      short (row_next a d) = (row-bytes met d).1

      same_item : item_in (take n s) tag start len ≡ item_in s tag start len
      same_item = item_same tag start len (omega (arith, near at r q, met.begins)) (omega (arith, near at r q, met.begins)) (short kind_met)

      same_fault : (fault_in r.cluster (length r.former) (item_in s tag start len) ≡ 0 → ⊥)
          → Decides (cluster_refused (fault_in r.cluster (length r.former) (item_in s tag start len)) at)
      same_fault some =
          let d = ap (fault_in r.cluster (length r.former)) same_item in (
            q.here
                ∙ (walk-fault (take n s) at q.fuel r (before_end at r q) q.enough tag start len (same_field at r q ∙ e) (λ z. some (sym d ∙ z))
                ∙ ap (λ (k : ℕ). cluster_refused k at) d),
            some,
          )

      same_on : fault_in r.cluster (length r.former) (item_in s tag start len) ≡ 0 → Same (start + len) (reading_with r tag (item_in s tag start len))
      same_on none = record {
        well = well_step s r tag start len q.well kind_met (λ d. (row-bytes met d).1) none;
        small = small_step s at r tag start len q.small met kind_met none;
        fuel = q.fuel - 1;
        enough = omega (arith, q.enough, met.begins, before_end at r q);
        here = q.here
            ∙ (walk-on (take n s) at q.fuel r (before_end at r q) q.enough tag start len (same_field at r q ∙ e) (ap (fault_in r.cluster (length r.former)) same_item ∙ none)
            ∙ ap (λ (i : Item). walk (q.fuel - 1) (take n s) (start + len) (reading_with r tag i)) same_item);
      }

    -- A record of 10,001 bytes or more is refused, and any 10,001 of its first bytes are refused in the same way.
    pub decided : (read_cluster (take n s) ≡ read_cluster s) × ((read_cluster s).refusal ≡ 0 → ⊥)
    unfolding read_cluster
    decided =
        walk-holds s Same Decides (λ at r q h. absurd (omega (arith, near at r q)))
        (λ at r q refusal byte e. (
          q.here ∙ walk_refused (take n s) at q.fuel r (before_end at r q) q.enough refusal byte (same_field at r q ∙ e),
          λ z. omega (arith, refused-some s at (allowed_after r.last) 0 refusal byte e),
        ))
        (λ at r q tag start len e some. same_fault at r q tag start len e some)
        (λ at r q tag start len e none. same_on at r q tag start len e none)
        (length s) 0 nothing_read (omega arith)
        (record { well = well_nothing; small = unfold Small in omega arith; fuel = length (take n s); enough = omega arith; here = refl })

-- The first bytes of a record, 10,001 or more, are read as the whole: the same refusal and byte, or the same cluster and former layout.
pub first-bytes : (s : List ℕ) (n : ℕ) → deciding_bytes ≤ n → read_cluster (take n s) ≡ read_cluster s
first-bytes s n h =
    ⊎_elim (λ l. (decided s n (omega arith) h).0) (λ g. ap read_cluster (take_all n s g)) (lt_or_ge n (length s))

-- So are the answer and the lent cells.
pub first-answer : (s former : List ℕ) (n : ℕ) → deciding_bytes ≤ n
    → (read_cluster_of (take n s) former ≡ read_cluster_of s former) × (former_read (take n s) former ≡ former_read s former)
first-answer s former n h = let e = first-bytes s n h in (answer e, cells e)
  where
    answer : read_cluster (take n s) ≡ read_cluster s → read_cluster_of (take n s) former ≡ read_cluster_of s former
    answer e = unfold read_cluster_of cluster_outcome in ap (λ (o : ClusterRead). cluster_answer (cond (ltb (length former) layout_cells) (cluster_refused 8 0) o)) e

    cells : read_cluster (take n s) ≡ read_cluster s → former_read (take n s) former ≡ former_read s former
    cells e = unfold former_read cluster_outcome in
        ap (λ (o : ClusterRead). let x = cond (ltb (length former) layout_cells) (cluster_refused 8 0) o in cond (eqb x.refusal 0) (cells_of x.former ++ drop layout_cells former) former) e
