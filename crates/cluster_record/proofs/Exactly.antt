-- A cluster reading accepts exactly the records, and what it yields.
-- Assumes nothing.
use Prim.Native.Nat.{ℕ, ◌≤◌}
use mathlib.Core.Path.{◌≡◌, sym, ap, ap₂, ◌∙◌, subst}
use mathlib.Core.Bool.{Bool, true, false, cond}
use mathlib.Core.List.{List, ◌++◌}
use native.Mathlib.Omega.{arith}
use lib.Dec.{ltb}
use lib.ListN.{length, drop}
use Rattle.cluster.specs.Terms.{most_nodes, layout_cells, Topology, topology, partitions, Layout, IsFormer, cells_of, rows_in}
use Rattle.cluster.specs.TermsReading.{Accepted, slots_of}
use Rattle.cluster.proofs.Accepting.{no_fault, few_partitions}
use Rattle.cell_rows.specs.ModelRows.{FitsCells}
use Rattle.cell_rows.proofs.CellLayouts.{rows_in-written}
use Rattle.fields.specs.RecordField.{Bytes}
use Rattle.fields.proofs.RecordField.{whole, refused-some}
use Rattle.cluster_record.specs.RecordCluster.{IsClusterRecord}
use Rattle.cluster_fields.specs.RecordClusterFaults.{up_to}
use Rattle.cluster_reading.specs.RecordClusterReading.{Reading, ClusterRead, nothing_read, allowed_after, cluster_refused, ended, read_cluster}
use Rattle.cluster_record.specs.RecordClusterAnswer.{ReadCluster, cluster_outcome, cluster_answer, read_cluster_of, former_read}
use Rattle.cluster_record.specs.RecordClusterClaims.{ReadsCluster, AnswersCluster, Yielded}
use Rattle.cluster.proofs.Slots.{topology-slots}
use Rattle.cluster_reading.proofs.Walks.{walk-holds}
use Rattle.cluster_reading.proofs.Readings.{kind, row-bytes, Well, well_nothing, well_step}
use Rattle.cluster_record.proofs.Answers.{long_answer, accepted_former}
use Rattle.cluster_record.proofs.Sound.{well_former, reads_records}
use Rattle.cluster_record.proofs.Complete.{records_read}

-- A cluster reading accepts exactly the records, and yields what they are records of.
pub reads_exactly : (s : List ℕ) → Bytes s → (t : Topology) (F : Layout) → (ReadsCluster s t F → IsClusterRecord s t F) × (IsClusterRecord s t F → ReadsCluster s t F)
reads_exactly s b t F = (
  λ q. subst (λ (x : Layout). IsClusterRecord s t x) q.former
      (subst (λ (x : Topology). IsClusterRecord s x (read_cluster s).former) q.cluster (reads_records s b q.refusal)),
  λ q. let e = records_read s t F q in
      record { refusal = ap (λ (o : ClusterRead). o.refusal) e; cluster = ap (λ (o : ClusterRead). o.cluster) e; former = ap (λ (o : ClusterRead). o.former) e },
)

-- ---- the answer and the cells

-- A former layout of an accepted cluster fits its cells.
pub former-fits : (t : Topology) (F : Layout) → Accepted t → IsFormer t F → FitsCells F
former-fits t F a f = record {
  few_rows = omega (arith, f.partition_rows, few_partitions t.bits a.bits);
  ids = λ p l. f.ids p (omega (arith, f.partition_rows));
  few = λ p l. f.few p (omega (arith, f.partition_rows));
}

module _ (s former : List ℕ) (long : layout_cells ≤ length former) where
  -- A record is accepted, and its cluster and former layout are answered.
  pub record_answer : (t : Topology) (F : Layout) → IsClusterRecord s t F → AnswersCluster s former t F
  unfolding cluster_answer
  record_answer t F q =
      let e = records_read s t F q in
      record {
        answer = long_answer s former long ∙ ap cluster_answer e;
        after = accepted_former s former long (ap (λ (o : ClusterRead). o.refusal) e) ∙ ap (λ (o : ClusterRead). cells_of o.former ++ drop layout_cells former) e;
      }

  -- What is accepted is a record: that of the cluster answered and of the rows that stand in the cells.
  pub answer_record : Bytes s → (read_cluster_of s former).refusal ≡ 0
      → let t = topology (read_cluster_of s former).cluster in IsClusterRecord s t (rows_in (partitions t) (former_read s former))
  unfolding cluster_answer
  answer_record b z =
      let e = long_answer s former long in
      let z₁ : (read_cluster s).refusal ≡ 0 = sym (ap (λ (r : ReadCluster). r.refusal) e) ∙ z in
      let q = reads_records s b z₁ in
      let t : Topology = (read_cluster s).cluster in
      let F : Layout = (read_cluster s).former in
      let c : t ≡ topology (read_cluster_of s former).cluster = sym (ap (λ (r : ReadCluster). topology r.cluster) e ∙ topology-slots t) in
      let f : F ≡ rows_in (partitions t) (former_read s former) =
      sym (rows_in-written F (drop layout_cells former) (former-fits t F q.accepted q.former)) ∙ ap₂ rows_in q.former.partition_rows (sym (accepted_former s former long z₁)) in
      subst (λ (x : Topology). IsClusterRecord s x (rows_in (partitions x) (former_read s former))) c (subst (λ (x : Layout). IsClusterRecord s t x) f q)

-- ---- every cluster that is answered

-- Each reading yields a cluster without fault, refused ones the cluster with no nodes; one that is not refused yields a former layout of it too.
abbrev Yields : ClusterRead → Type 0
Yields o = Accepted o.cluster × (o.refusal ≡ 0 → IsFormer o.cluster o.former)

pub reads_yield : (s : List ℕ) → Yields (read_cluster s)
unfolding read_cluster
reads_yield s =
    walk-holds s (λ at r. Well r) Yields (λ at r w h. at_end r w)
    (λ at r w refusal byte e. (none, λ z. absurd (omega (arith, refused-some s at (allowed_after r.last) 0 refusal byte e))))
    (λ at r w tag start len e some. (none, λ z. absurd (some z)))
    (λ at r w tag start len e z. let f = whole s at (allowed_after r.last) 0 tag start len e in
    well_step s r tag start len w (kind r.last tag f.member) (λ d. (row-bytes f d).1) z)
    (length s) 0 nothing_read (omega arith) well_nothing
  where
    none : Accepted (cluster_refused 0 0).cluster
    none = unfold nothing_read in well_nothing.accepted

    at_end : (r : Reading) → Well r → Yields (ended s r)
    at_end r w = unfold ended in go (ltb r.last 3)
      where
        go : (x : Bool) → Yields (cond x (cluster_refused 7 (length s)) (record { refusal = 0; byte = 0; cluster = r.cluster; former = up_to (partitions r.cluster) r.former }))
        go true = (none, λ z. absurd (omega arith))
        go false = (w.accepted, λ z. well_former r w)

-- Each cluster that is answered is without fault.
yielded : (t : Topology) → Accepted t → Yielded (slots_of t)
yielded t a = record {
  slots = ap slots_of (sym (topology-slots t));
  few = few;
  sound = no_fault (slots_of t) few (subst Accepted (sym (topology-slots t)) a);
}
  where
    few : (slots_of t).count ≤ most_nodes
    few = unfold slots_of in a.few

pub answer_yields : (s former : List ℕ) → Yielded (read_cluster_of s former).cluster
unfolding read_cluster_of cluster_answer cluster_outcome
answer_yields s former = go (ltb (length former) layout_cells)
  where
    go : (x : Bool) → Yielded (slots_of (cond x (cluster_refused 8 0) (read_cluster s)).cluster)
    go true = yielded (cluster_refused 8 0).cluster (unfold nothing_read in well_nothing.accepted)
    go false = yielded (read_cluster s).cluster (reads_yield s).0
