-- Every record is accepted: the walk takes in its fields one after the other and yields the cluster and the former layout.
-- Assumes nothing.
use Prim.Native.Nat.{ℕ, suc, ◌+◌, ◌-◌, ◌*◌, ◌/◌, ◌^◌, ◌≤◌, ◌<◌}
use mathlib.Core.Path.{◌≡◌, refl, sym, ap, ap₂, ◌∙◌, subst}
use mathlib.Core.Bool.{true}
use mathlib.Core.Logic.{⊎_elim}
use mathlib.Core.List.{List, [], ◌∷◌, ◌++◌, append_assoc, append-nil}
use native.Mathlib.Omega.{arith}
use lib.ListN.{length, drop, get_or, replicate, length-append, length-drop, replicate-append-replicate, get_or-eq_default}
use lib.Seq.{append_snoc}
use borrow.Author.Tests.{le-ltb, ne_eqb}
use Rattle.sums.proofs.Sum.{lt_or_ge}
use Rattle.cluster.specs.declared.Node.{Node}
use Rattle.cluster.specs.Terms.{most_bits, most_copies, most_nodes, most_ceiling, Topology, partitions, Layout, no_node, row, ids_of, rising, rising_from}
use Rattle.cluster.specs.TermsReading.{Accepted}
use Rattle.cluster.proofs.Lists.{rising_head, rising_tail, rising_none}
use Rattle.fields.specs.RecordField.{bytes_of, node_bytes, FitsNode, field, field_at, rule_of, legal, id_bytes, ids_at}
use Rattle.fields.specs.declared.Field.TheVariants.{Body}
use Rattle.numbers.proofs.Numbers.{length-bytes, number_here, after-number}
use Rattle.node_bytes.proofs.Nodes.{length-node, node_here}
use Rattle.fields.proofs.RecordField.{legal-true, legal-any, length-field, body_here, rest_here, field_here}
use Rattle.cluster_record.specs.RecordCluster.{bits_field, replication_field, redundancy_field, node_field, node_fields, former_field, former_fields, cluster_record, IsClusterRecord}
use Rattle.cluster_fields.specs.RecordClusterFaults.{Item, of_bits, of_replication, of_redundancy, of_node, of_former_row, item_in, with_item, up_to, former_with, last_of, fault_in}
use Rattle.cluster_reading.specs.RecordClusterReading.{Reading, nothing_read, allowed_after, reading_with, ended, walk, read_cluster}
use Rattle.id_bytes.proofs.IdBytes.{length-id-bytes, ids_here}
use Rattle.cluster_fields.proofs.Items.{item_bits, item_replication, item_redundancy, item_node, item_five, node_sound, row_sound}
use Rattle.cluster.proofs.Accepting.{few_partitions}
use Rattle.cluster_fields.proofs.Rows.{up_to-full, length-next}
use Rattle.cluster_reading.proofs.Walks.{walk_ends, walk-on}
use Rattle.cluster_reading.proofs.Readings.{Kind, number-next, node-next, row_next, kind-allowed}

-- The walk over s has come so far, and the bytes `rest` are left.
record Reaches (s : List ℕ) (r : Reading) (rest : List ℕ) : Type 0 where
  at : ℕ
  fuel : ℕ
  enough : length s ≤ at + fuel
  left : drop at s ≡ rest
  here : read_cluster s ≡ walk fuel s at r

-- A field that is allowed, has a legal length and no fault is taken in.
reach_field : (s : List ℕ) (r : Reading) (rest body : List ℕ) (tag : ℕ) (i : Item) → Reaches s r (field tag body ++ rest) → Kind r.last tag
    → legal tag (length body) ≡ true → ((at : ℕ) → drop at s ≡ body ++ rest → item_in s tag at (length body) ≡ i) → fault_in r.cluster (length r.former) i ≡ 0
    → Reaches s (reading_with r tag i) rest
reach_field s r rest body tag i q k l read none =
    let at : ℕ = q.at in
    let long : length s - at ≡ 3 + length body + length rest =
    sym (length-drop at s) ∙ (ap length q.left ∙ (length-append (field tag body) rest ∙ ap (λ (n : ℕ). n + length rest) (length-field tag body))) in
    let e : field_at s at (allowed_after r.last) 0 ≡ Body tag (at + 3) (length body) =
    field_here s rest body at tag q.left (allowed_after r.last) 0 (kind-allowed r.last tag k) (legal-any tag (length body) ∙ l) in
    let d = read (at + 3) (body_here s rest body at tag q.left) in
    record {
      at = at + 3 + length body;
      fuel = q.fuel - 1;
      enough = omega (arith, q.enough);
      left = rest_here s rest body at tag q.left;
      here = q.here
          ∙ (walk-on s at q.fuel r (omega arith) q.enough tag (at + 3) (length body) e (ap (fault_in r.cluster (length r.former)) d ∙ none)
          ∙ ap (λ (x : Item). walk (q.fuel - 1) s (at + 3 + length body) (reading_with r tag x)) d);
    }

-- A record begins so.
reach_start : (s : List ℕ) → Reaches s nothing_read s
unfolding read_cluster
reach_start s = record { at = 0; fuel = length s; enough = omega arith; left = refl; here = refl }

-- ---- the numbers

-- A reading of a cluster with some of its nodes.
abbrev with_nodes : ℕ → Topology → List Node → Reading
with_nodes last t l = record { last = last; cluster = record { bits = t.bits; replication = t.replication; redundancy = t.redundancy; nodes = l }; former = [] }

reach_numbers : (s rest : List ℕ) (t : Topology) → Accepted t → Reaches s nothing_read (bits_field t ++ (replication_field t ++ (redundancy_field t ++ rest)))
    → Reaches s (with_nodes 3 t []) rest
unfolding nothing_read reading_with with_item former_with bits_field replication_field redundancy_field fault_in legal rule_of
reach_numbers s rest t a q =
    let k : ℕ = t.bits in
    let m : ℕ = t.replication in
    let z : ℕ = t.redundancy in
    let r₁ = reading_with nothing_read 1 (of_bits k) in
    let r₂ = reading_with r₁ 2 (of_replication m) in
    let q₁ = reach_field s nothing_read (field 2 (bytes_of 1 m) ++ (field 3 (bytes_of 1 z) ++ rest)) (bytes_of 1 k) 1 (of_bits k) q (number-next (omega arith) refl) (one-legal 1 k refl)
    (λ at e. item_bits s at (length (bytes_of 1 k)) 1 refl ∙ ap of_bits (number_here s (field 2 (bytes_of 1 m) ++ (field 3 (bytes_of 1 z) ++ rest)) at 1 k e (omega (arith, a.bits))))
    (simp (le-ltb most_bits k a.bits)) in
    let q₂ = reach_field s r₁ (field 3 (bytes_of 1 z) ++ rest) (bytes_of 1 m) 2 (of_replication m) q₁ (number-next (omega arith) refl) (one-legal 2 m refl)
    (λ at e. item_replication s at (length (bytes_of 1 m)) 2 refl ∙ ap of_replication (number_here s (field 3 (bytes_of 1 z) ++ rest) at 1 m e (omega (arith, a.replication))))
    (simp (ne_eqb m 0 (λ e. omega (arith, a.replication)), le-ltb most_copies m a.replication.1)) in
    reach_field s r₂ rest (bytes_of 1 z) 3 (of_redundancy z) q₂ (number-next (omega arith) refl) (one-legal 3 z refl)
    (λ at e. item_redundancy s at (length (bytes_of 1 z)) 3 refl ∙ ap of_redundancy (number_here s rest at 1 z e (omega (arith, a.replication, a.redundancy))))
    (simp (ne_eqb z 0 (λ e. omega (arith, a.redundancy)), le-ltb m z a.redundancy.1))
  where
    one-legal : (tag n : ℕ) → legal tag 1 ≡ true → legal tag (length (bytes_of 1 n)) ≡ true
    one-legal tag n e = ap (legal tag) (length-bytes 1 n) ∙ e

-- ---- the nodes

-- A node that stands after others has an id above theirs.
above : (k : ℕ) (l : List Node) (n : Node) (ns : List Node) → rising_from k (ids_of (l ++ (n ∷ ns))) ≡ true → last_of k (ids_of l) < n.id
unfolding ids_of last_of
above k [] n ns h = rising_head k n.id (ids_of ns) h
above k (x ∷ l) n ns h = above x.id l n ns (rising_tail k x.id (ids_of (l ++ (n ∷ ns))) h)

reach_nodes : (s rest : List ℕ) (t : Topology) (ns l : List Node) (last : ℕ) → 3 ≤ last → last < 5 → rising (ids_of (l ++ ns)) ≡ true → length (l ++ ns) ≤ most_nodes
    → ((b : ℕ) → (get_or ns b no_node).ceiling ≤ most_ceiling) → ((b : ℕ) → FitsNode (get_or ns b no_node)) → Reaches s (with_nodes last t l) (node_fields ns ++ rest)
    → (m : ℕ) × (3 ≤ m) × (m < 5) × Reaches s (with_nodes m t (l ++ ns)) rest
unfolding node_fields
reach_nodes s rest t [] l last a b up few low fit q = (last, a, b, subst (λ (x : List Node). Reaches s (with_nodes last t x) rest) (sym (append-nil l)) q)
reach_nodes s rest t (n ∷ ns) l last a b up few low fit q =
    let e : l ++ (n ∷ []) ++ ns ≡ l ++ (n ∷ ns) = append_snoc l n ns in
    let h = reach_nodes s rest t ns (l ++ (n ∷ [])) 4 (omega arith) (omega arith) (ap (λ (x : List Node). rising (ids_of x)) e ∙ up) (omega (arith, ap (λ (x : List Node). length x) e))
    (λ j. low (suc j)) (λ j. fit (suc j)) (one (subst (Reaches s (with_nodes last t l)) (append_assoc (node_field n) (node_fields ns) rest) q)) in
    (h.0, h.1, h.2, subst (λ (x : List Node). Reaches s (with_nodes h.0 t x) rest) e h.3)
  where
    r : Reading
    r = with_nodes last t l

    none : fault_in r.cluster 0 (of_node n) ≡ 0
    none = node_sound r.cluster 0 n (above 0 l n ns up) (omega (arith, length-append l (n ∷ ns))) (low 0)

    lawful : legal 4 (length (node_bytes n)) ≡ true
    lawful = ap (legal 4) (length-node n) ∙ (unfold legal rule_of in refl)

    one : Reaches s r (node_field n ++ (node_fields ns ++ rest)) → Reaches s (with_nodes 4 t (l ++ (n ∷ []))) (node_fields ns ++ rest)
    one q' =
        unfold node_field reading_with with_item former_with in
        reach_field s r (node_fields ns ++ rest) (node_bytes n) 4 (of_node n) q' (node-next a b refl) lawful
        (λ at d. item_node s at (length (node_bytes n)) 4 refl ∙ ap of_node (node_here s (node_fields ns ++ rest) n at d (fit 0))) none

-- ---- the rows

-- One empty row more.
up_to_suc : (p : ℕ) (G : Layout) → length G ≤ p → up_to (suc p) G ≡ up_to p G ++ ([] ∷ [])
unfolding up_to
up_to_suc p G h =
    let e : suc p - length G ≡ (p - length G) + 1 = omega arith in
    ap (λ (n : ℕ). G ++ replicate n []) e
    ∙ (ap (λ (x : Layout). G ++ x) (more (p - length G)) ∙ sym (append_assoc G (replicate (p - length G) []) ([] ∷ [])))
  where
    more : (n : ℕ) → ◌≡◌ {A = Layout} (replicate (n + 1) []) (replicate n [] ++ ([] ∷ []))
    more n = sym (replicate-append-replicate {A = List ℕ} n 1 [])

-- The walk ends with the cluster and the rows.
reach_end : (s : List ℕ) (t : Topology) (G : Layout) (last : ℕ) → 3 ≤ last → Reaches s (record { last = last; cluster = t; former = G }) []
    → read_cluster s ≡ record { refusal = 0; byte = 0; cluster = t; former = up_to (partitions t) G }
unfolding ended
reach_end s t G last a q =
    let r : Reading = record { last = last; cluster = t; former = G } in
    q.here ∙ (walk_ends s q.at q.fuel r (omega (arith, length-drop q.at s, ap length q.left)) ∙ simp (le-ltb last 3 a))

-- What holds of the rows that are left.
record Rows (l : Layout) : Type 0 where
  ids : (q : ℕ) → rising (row l q) ≡ true
  few : (q : ℕ) → length (row l q) ≤ most_copies
  fits : (q j : ℕ) → get_or (row l q) j 0 < 2 ^ 32

reach_rows : (s : List ℕ) (t : Topology) (F : Layout) → t.bits ≤ most_bits → (l G : Layout) (p last : ℕ) → 3 ≤ last → length G ≤ p → p + length l ≡ partitions t
    → up_to p G ++ l ≡ F → Rows l → Reaches s (record { last = last; cluster = t; former = G }) (former_fields p l)
    → read_cluster s ≡ record { refusal = 0; byte = 0; cluster = t; former = F }
unfolding former_fields former_field
reach_rows s t F k [] G p last a h n e w q =
    let m : partitions t ≡ p = omega arith in
    reach_end s t G last a q
    ∙ ap (λ (x : Layout). record { refusal = 0; byte = 0; cluster = t; former = x }) (ap (λ (j : ℕ). up_to j G) m ∙ (sym (append-nil (up_to p G)) ∙ e))
reach_rows s t F k ([] ∷ l) G p last a h n e w q =
    reach_rows s t F k l G (suc p) last a (omega arith) (omega arith)
    (ap (λ (x : Layout). x ++ l) (up_to_suc p G h) ∙ (append_snoc (up_to p G) [] l ∙ e))
    (record { ids = λ j. w.ids (suc j); few = λ j. w.few (suc j); fits = λ j. w.fits (suc j) }) q
reach_rows s t F k ((i ∷ x) ∷ l) G p last a h n e w q =
    let m : suc p ≤ length (up_to p G ++ ((i ∷ x) ∷ [])) = omega (arith, length-next G p (i ∷ x) h) in
    reach_rows s t F k l (up_to p G ++ ((i ∷ x) ∷ [])) (suc p) 5 (omega arith) (omega (arith, length-next G p (i ∷ x) h)) (omega arith)
    (ap (λ (y : Layout). y ++ l) (up_to-full (suc p) (up_to p G ++ ((i ∷ x) ∷ [])) m) ∙ (append_snoc (up_to p G) (i ∷ x) l ∙ e))
    (record { ids = λ j. w.ids (suc j); few = λ j. w.few (suc j); fits = λ j. w.fits (suc j) }) (one q)
  where
    r : Reading
    r = record { last = last; cluster = t; former = G }

    ids : List ℕ
    ids = i ∷ x

    body : List ℕ
    body = bytes_of 2 p ++ id_bytes ids

    long : length body ≡ 2 + 4 * length ids
    long = omega (arith, length-append (bytes_of 2 p) (id_bytes ids), length-bytes 2 p, length-id-bytes ids)

    none : fault_in t (length G) (of_former_row p ids) ≡ 0
    none = row_sound t (length G) p ids (omega arith) h (w.ids 0)

    lawful : legal 5 (length body) ≡ true
    lawful = unfold rule_of in
        legal-true 5 (length body) (omega (arith, long)) (omega (arith, long, w.few 0)) (omega (arith, long))

    read : (at : ℕ) → drop at s ≡ body ++ former_fields (suc p) l → item_in s 5 at (length body) ≡ of_former_row p ids
    read at d =
        let d₁ : drop at s ≡ bytes_of 2 p ++ (id_bytes ids ++ former_fields (suc p) l) = (d ∙ append_assoc (bytes_of 2 p) (id_bytes ids) (former_fields (suc p) l)) in
        let m : (length body - 2) / 4 ≡ length ids = omega (arith, long) in
        item_five s at (length body) 5 refl
        ∙ ap₂ of_former_row (number_here s (id_bytes ids ++ former_fields (suc p) l) at 2 p d₁ (omega (arith, few_partitions t.bits k)))
        (ap (ids_at s (at + 2)) m ∙ ids_here s (former_fields (suc p) l) (at + 2) ids (after-number s (id_bytes ids ++ former_fields (suc p) l) at 2 p d₁) (w.fits 0))

    one : Reaches s r (field 5 (bytes_of 2 p ++ id_bytes (i ∷ x)) ++ former_fields (suc p) l) → Reaches s (record { last = 5; cluster = t; former = up_to p G ++ ((i ∷ x) ∷ []) }) (former_fields (suc p) l)
    one q' =
        unfold reading_with with_item former_with in
        reach_field s r (former_fields (suc p) l) body 5 (of_former_row p ids) q' (row_next a refl) lawful read none

-- Reading the record of an accepted cluster and its former layout yields them.
pub records_read : (s : List ℕ) (t : Topology) (F : Layout) → IsClusterRecord s t F → read_cluster s ≡ record { refusal = 0; byte = 0; cluster = t; former = F }
unfolding cluster_record up_to
records_read s t F q =
    let a = q.accepted in
    let w = q.former in
    let start = reach_numbers s (node_fields t.nodes ++ former_fields 0 F) t a (subst (Reaches s nothing_read) q.bytes (reach_start s)) in
    let n = reach_nodes s (former_fields 0 F) t t.nodes [] 3 (omega arith) (omega arith) a.ids a.few
    a.ceilings q.fits.nodes start in
    reach_rows s t F a.bits F [] 0 n.0 n.1 (omega arith) (omega (arith, w.partition_rows)) refl
    (record {
      ids = λ p. ⊎_elim (λ l. w.ids p (omega (arith, w.partition_rows))) (λ g. ap rising (get_or-eq_default F [] g) ∙ rising_none 0) (lt_or_ge p (length F));
      few = λ p. ⊎_elim (λ l. w.few p (omega (arith, w.partition_rows))) (λ g. omega (arith, ap length (get_or-eq_default F [] g))) (lt_or_ge p (length F));
      fits = q.fits.former;
    })
    n.3
