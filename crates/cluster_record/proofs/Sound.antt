-- What is accepted is a record: the bytes that were read are always those of the fields so far.
-- Assumes nothing.
use Prim.Native.Nat.{ℕ, zero, suc, ◌+◌, ◌-◌, ◌*◌, ◌/◌, ◌^◌, ◌≤◌, ◌<◌}
use mathlib.Core.Path.{◌≡◌, refl, sym, ap, ap₂, ◌∙◌, subst}
use mathlib.Core.Bool.{Bool, true, false, cond}
use mathlib.Core.List.{List, [], ◌∷◌, ◌++◌, append_assoc, append-nil}
use native.Mathlib.Omega.{arith}
use lib.Dec.{ltb, eqb}
use lib.ListN.{length, take, get_or}
use lib.Seq.{take_all}
use borrow.Author.Tests.{ltb-false}
use Rattle.cluster.specs.declared.Node.{Node}
use Rattle.cluster.specs.Terms.{most_copies, Topology, partitions, Layout, no_node, rising, IsFormer}
use Rattle.fields.specs.RecordField.{bytes_of, Bytes, part, number_at, node_width, FitsNode, field, field_at, Whole, node_at_byte, id_bytes, ids_at}
use Rattle.fields.specs.declared.Field.TheVariants.{Body}
use Rattle.id_bytes.proofs.IdBytes.{ids-back, ids_words, length_ids}
use Rattle.node_bytes.proofs.Nodes.{node-bytes, fits-none, fits-node}
use Rattle.numbers.proofs.Numbers.{bytes_there, part-append}
use Rattle.fields.proofs.RecordField.{whole, refused-some}
use Rattle.cluster_record.specs.RecordCluster.{bits_field, replication_field, redundancy_field, node_field, node_fields, former_field, former_fields, cluster_record, FitsRecord, IsClusterRecord}
use Rattle.cluster_fields.specs.RecordClusterFaults.{Item, of_bits, of_replication, of_redundancy, of_node, of_former_row, item_in, with_item, up_to, former_with, fault_in}
use Rattle.cluster_reading.specs.RecordClusterReading.{Reading, ClusterRead, nothing_read, allowed_after, reading_with, cluster_refused, ended, read_cluster}
use Rattle.cluster_fields.proofs.Items.{item_node, item_five, sound_row}
use Rattle.cluster_fields.proofs.Rows.{every_snoc, row-up_to, length-up_to}
use Rattle.cluster_reading.proofs.Walks.{walk-holds}
use Rattle.cluster_reading.proofs.Readings.{Kind, number-next, node-next, row_next, kind, one_byte, node-length, row-bytes, Well, well_nothing, well_step}
use Rattle.cluster_record.proofs.RecordBytes.{nodes_snoc, rows-up_to, rows_next, bytes_next}

-- ---- the numbers fit

-- The numbers of one field fit the bytes that a record has for them.
abbrev FitsItem : Item → Type 0
FitsItem (of_bits k) = Unit
FitsItem (of_replication k) = Unit
FitsItem (of_redundancy k) = Unit
FitsItem (of_node n) = FitsNode n
FitsItem (of_former_row p l) = (j : ℕ) → get_or l j 0 < 2 ^ 32

fits_item : (s : List ℕ) → Bytes s → (tag start len : ℕ) → FitsItem (item_in s tag start len)
unfolding item_in
fits_item s b tag start len = go (eqb tag 1) (eqb tag 2) (eqb tag 3) (eqb tag 4)
  where
    go : (w x y z : Bool) → FitsItem (cond w (of_bits (number_at s start 1)) (cond x (of_replication (number_at s start 1)) (cond y (of_redundancy (number_at s start 1))
        (cond z (of_node (node_at_byte s start)) (of_former_row (number_at s start 2) (ids_at s (start + 2) ((len - 2) / 4)))))))
    go true x y z = tt
    go false true y z = tt
    go false false true z = tt
    go false false false true = fits-node s start b
    go false false false false = λ j. ids_words s (start + 2) ((len - 2) / 4) j b

fits-with : (t : Topology) (F : Layout) (i : Item) → FitsRecord t F → FitsItem i → FitsRecord (with_item t i) (former_with F i)
unfolding with_item former_with
fits-with t F (of_bits k) f g = record { nodes = f.nodes; former = f.former }
fits-with t F (of_replication k) f g = record { nodes = f.nodes; former = f.former }
fits-with t F (of_redundancy k) f g = record { nodes = f.nodes; former = f.former }
fits-with t F (of_node n) f g = record {
  nodes = every_snoc FitsNode no_node t.nodes n f.nodes g fits-none;
  former = f.former;
}
fits-with t F (of_former_row p l) f g = record {
  nodes = f.nodes;
  former = every_snoc (λ (x : List ℕ). (j : ℕ) → get_or x j 0 < 2 ^ 32) [] (up_to p F) l
      (λ q j. subst (λ (x : List ℕ). get_or x j 0 < 2 ^ 32) (sym (row-up_to p F q)) (f.former q j)) g (λ j. omega arith);
}

-- ---- the bytes of what was read

-- The fields of the numbers, as far as they were read.
unfoldable heads : ℕ → Topology → List ℕ
heads zero t = []
heads (suc zero) t = bits_field t
heads (suc (suc zero)) t = bits_field t ++ replication_field t
heads (suc (suc (suc n))) t = bits_field t ++ (replication_field t ++ redundancy_field t)

-- The bytes of a reading.
unfoldable so_far : Reading → List ℕ
so_far r = heads r.last r.cluster ++ (node_fields r.cluster.nodes ++ former_fields 0 r.former)

-- Once the numbers are read, their fields are there.
heads_all : (last : ℕ) (t : Topology) → 3 ≤ last → heads last t ≡ bits_field t ++ (replication_field t ++ redundancy_field t)
unfolding heads
heads_all zero t h = absurd (omega arith)
heads_all (suc zero) t h = absurd (omega arith)
heads_all (suc (suc zero)) t h = absurd (omega arith)
heads_all (suc (suc (suc n))) t h = refl

-- Before that there is nothing else.
early : (r : Reading) → Well r → r.last < 4 → so_far r ≡ heads r.last r.cluster
unfolding so_far node_fields former_fields
early r w h =
    ap₂ (λ (l : List Node) (F : Layout). heads r.last r.cluster ++ (node_fields l ++ former_fields 0 F)) (w.no_nodes_lem h) (w.no_rows (omega arith))
    ∙ append-nil (heads r.last r.cluster)

-- One number more.
heads_next : (s : List ℕ) (t : Topology) (start len last : ℕ) → last < 3
    → heads (last + 1) (with_item t (item_in s (last + 1) start len)) ≡ heads last t ++ field (last + 1) (bytes_of 1 (number_at s start 1))
unfolding heads with_item item_in bits_field replication_field redundancy_field
heads_next s t start len zero h = refl
heads_next s t start len (suc zero) h = refl
heads_next s t start len (suc (suc zero)) h =
    sym (append_assoc (field 1 (bytes_of 1 t.bits)) (field 2 (bytes_of 1 t.replication)) (field 3 (bytes_of 1 (number_at s start 1))))
heads_next s t start len (suc (suc (suc n))) h = absurd (omega arith)

-- One node more.
nodes-next : (r : Reading) (tag : ℕ) (n : Node) → Well r → 3 ≤ r.last → r.last < 5 → tag ≡ 4 → so_far (reading_with r tag (of_node n)) ≡ so_far r ++ node_field n
unfolding so_far reading_with with_item former_with bits_field replication_field redundancy_field
nodes-next r tag n w a c e =
    let t : Topology = r.cluster in
    ap₂ (λ (x y : List ℕ). x ++ (y ++ former_fields 0 r.former)) (heads_all tag (with_item t (of_node n)) (omega arith) ∙ sym (heads_all r.last t a)) (nodes_snoc t.nodes n)
    ∙ regroup (heads r.last t) (node_fields t.nodes) (node_field n) (former_fields 0 r.former) no_fields
  where
    no_fields : former_fields 0 r.former ≡ []
    no_fields = ap (former_fields 0) (w.no_rows c) ∙ rows_none
      where
        rows_none : former_fields 0 [] ≡ []
        rows_none = unfold former_fields in refl

    regroup : (x y z q : List ℕ) → q ≡ [] → x ++ (y ++ z ++ q) ≡ x ++ (y ++ q) ++ z
    regroup x y z q d =
        let g : x ++ (y ++ z ++ []) ≡ x ++ (y ++ []) ++ z = simp (append-nil, append_assoc) in
        ap (λ (k : List ℕ). x ++ (y ++ z ++ k)) d ∙ (g ∙ sym (ap (λ (k : List ℕ). x ++ (y ++ k) ++ z) d))

-- One row more.
rows_more : (r : Reading) (tag p : ℕ) (l : List ℕ) → 3 ≤ r.last → tag ≡ 5 → length r.former ≤ p → so_far (reading_with r tag (of_former_row p l)) ≡ so_far r ++ former_field p l
unfolding so_far reading_with with_item former_with
rows_more r tag p l a e h =
    let t : Topology = r.cluster in
    ap₂ (λ (x y : List ℕ). x ++ (node_fields t.nodes ++ y)) (heads_all tag t (omega arith) ∙ sym (heads_all r.last t a)) (rows_next p r.former l h)
    ∙ simp append_assoc

row-some : (p : ℕ) (l : List ℕ) → 0 < length l → former_field p l ≡ field 5 (bytes_of 2 p ++ id_bytes l)
unfolding former_field
row-some p [] h = absurd (omega arith)
row-some p (i ∷ l) h = refl

module _ (s : List ℕ) (b : Bytes s) (r : Reading) (at tag start len : ℕ) (w : Well r) (f : Whole (length s) at (allowed_after r.last) 0 tag start len)
    (none : fault_in r.cluster (length r.former) (item_in s tag start len) ≡ 0) where
  -- Each field taken in adds its bytes.
  so_far_next : Kind r.last tag → Well (reading_with r tag (item_in s tag start len)) → so_far (reading_with r tag (item_in s tag start len)) ≡ so_far r ++ field tag (part s start len)
  unfolding reading_with
  so_far_next (number-next a e) v =
      let l : ℕ = r.last in
      let t : Topology = r.cluster in
      let one : len ≡ 1 = one_byte f (omega arith) (omega arith) in
      early (reading_with r tag (item_in s tag start len)) v (omega arith)
      ∙ (ap (λ (k : ℕ). heads k (with_item t (item_in s k start len))) e
      ∙ (heads_next s t start len l a
      ∙ ap₂ (λ (x y : List ℕ). x ++ y) (sym (early r w (omega arith)))
      (ap₂ field (sym e) (bytes_there s start 1 b (omega (arith, f.ends)) ∙ ap (part s start) (sym one)))))
  so_far_next (node-next a c e) v =
      let long : len ≡ node_width = node-length f e in
      ap (λ (i : Item). so_far (reading_with r tag i)) (item_node s start len tag e)
      ∙ (nodes-next r tag (node_at_byte s start) w a c e
      ∙ ap (λ (x : List ℕ). so_far r ++ x) (node-field (omega (arith, f.ends)) ∙ ap₂ (λ (k n : ℕ). field k (part s start n)) (sym e) (sym long)))
    where
      node-field : start + node_width ≤ length s → node_field (node_at_byte s start) ≡ field 4 (part s start node_width)
      node-field h = unfold node_field in ap (field 4) (node-bytes s start b h)
  so_far_next (row_next a e) v =
      let p : ℕ = number_at s start 2 in
      let m : ℕ = (len - 2) / 4 in
      let l : List ℕ = ids_at s (start + 2) m in
      let long = row-bytes f e in
      let n = sound_row r.cluster (length r.former) p l (ap (fault_in r.cluster (length r.former)) (sym (item_five s start len tag e)) ∙ none) in
      ap (λ (i : Item). so_far (reading_with r tag i)) (item_five s start len tag e)
      ∙ (rows_more r tag p l a e n.1
      ∙ ap (λ (x : List ℕ). so_far r ++ x)
      (row-some p l (omega (arith, length_ids s (start + 2) m))
      ∙ ap₂ field (sym e)
      (ap₂ (λ (x y : List ℕ). x ++ y) (bytes_there s start 2 b (omega (arith, f.ends))) (ids-back s (start + 2) m b (omega (arith, f.ends)))
      ∙ (sym (part-append s start 2 (4 * m)) ∙ ap (part s start) (sym long.2)))))

-- ---- what holds at every byte of the walk

record Sound (s : List ℕ) (at : ℕ) (r : Reading) : Type 0 where
  well : Well r
  fits : FitsRecord r.cluster r.former
  bytes : take at s ≡ so_far r
  inside : at ≤ length s

sound_nothing : (s : List ℕ) → Sound s 0 nothing_read
unfolding nothing_read so_far heads node_fields former_fields
sound_nothing s = record {
  well = well_nothing;
  fits = record { nodes = λ b. fits-none; former = λ p j. omega arith };
  bytes = refl;
  inside = omega arith;
}

sound_step : (s : List ℕ) → Bytes s → (at : ℕ) (r : Reading) (tag start len : ℕ) → Sound s at r
    → field_at s at (allowed_after r.last) 0 ≡ Body tag start len → fault_in r.cluster (length r.former) (item_in s tag start len) ≡ 0
    → Sound s (start + len) (reading_with r tag (item_in s tag start len))
unfolding reading_with
sound_step s b at r tag start len q e none =
    let f = whole s at (allowed_after r.last) 0 tag start len e in
    let k = kind r.last tag f.member in
    let v = well_step s r tag start len q.well k (λ d. (row-bytes f d).1) none in
    record {
      well = v;
      fits = fits-with r.cluster r.former (item_in s tag start len) q.fits (fits_item s b tag start len);
      bytes = bytes_next s b at (allowed_after r.last) 0 tag start len e
          ∙ (ap (λ (l : List ℕ). l ++ field tag (part s start len)) q.bytes ∙ sym (so_far_next s b r at tag start len q.well f none k v));
      inside = f.ends;
    }

-- The rows that a reading has taken, up to P, are a former layout of its cluster.
pub well_former : (r : Reading) → Well r → IsFormer r.cluster (up_to (partitions r.cluster) r.former)
well_former r w =
    let P : ℕ = partitions r.cluster in
    record {
      partition_rows = length-up_to P r.former w.rows_le;
      ids = λ p k. ap rising (row-up_to P r.former p) ∙ w.row-ids p;
      few = λ p k. subst (λ (x : List ℕ). length x ≤ most_copies) (sym (row-up_to P r.former p)) (w.row_few p);
    }

-- At the end, after field 3, the whole is a record.
sound_end : (s : List ℕ) (at : ℕ) (r : Reading) → Sound s at r → length s ≤ at → 3 ≤ r.last → IsClusterRecord s r.cluster (up_to (partitions r.cluster) r.former)
sound_end s at r q h l =
    let t : Topology = r.cluster in
    let P : ℕ = partitions t in
    let F : Layout = r.former in
    let w = q.well in
    record {
      bytes = sym (take_all at s h) ∙ (q.bytes ∙ whole_record);
      accepted = w.accepted;
      former = well_former r w;
      fits = record {
        nodes = q.fits.nodes;
        former = λ p j. subst (λ (x : List ℕ). get_or x j 0 < 2 ^ 32) (sym (row-up_to P F p)) (q.fits.former p j);
      };
    }
  where
    whole_record : so_far r ≡ cluster_record r.cluster (up_to (partitions r.cluster) r.former)
    whole_record =
        unfold so_far cluster_record in
        (ap₂ (λ (x y : List ℕ). x ++ (node_fields r.cluster.nodes ++ y)) (heads_all r.last r.cluster l) (sym (rows-up_to (partitions r.cluster) r.former))
        ∙ simp append_assoc)

-- ---- the walk

-- What an outcome accepts is a record.
abbrev Accepts : List ℕ → ClusterRead → Type 0
Accepts s o = o.refusal ≡ 0 → IsClusterRecord s o.cluster o.former

accepts_end : (s : List ℕ) (at : ℕ) (r : Reading) → Sound s at r → length s ≤ at → Accepts s (ended s r)
unfolding ended
accepts_end s at r q h = go (ltb r.last 3) refl
  where
    go : (x : Bool) → ltb r.last 3 ≡ x
        → Accepts s (cond x (cluster_refused 7 (length s)) (record { refusal = 0; byte = 0; cluster = r.cluster; former = up_to (partitions r.cluster) r.former }))
    go true e z = absurd (omega arith)
    go false e z = sound_end s at r q h (ltb-false r.last 3 e)

-- What a reading accepts is the record of the cluster and the former layout that it yields.
pub reads_records : (s : List ℕ) → Bytes s → (read_cluster s).refusal ≡ 0 → IsClusterRecord s (read_cluster s).cluster (read_cluster s).former
unfolding read_cluster
reads_records s b =
    walk-holds s (Sound s) (Accepts s) (λ at r q h. accepts_end s at r q h)
    (λ at r q refusal byte e z. absurd (omega (arith, refused-some s at (allowed_after r.last) 0 refusal byte e)))
    (λ at r q tag start len e some z. absurd (some z))
    (λ at r q tag start len e none. sound_step s b at r tag start len q e none)
    (length s) 0 nothing_read (omega arith) (sound_nothing s)
