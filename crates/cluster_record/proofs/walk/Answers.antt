-- `cluster_record::walk` meets its contract: a field that cannot be taken whole, or that has a fault, ends the walk with its refusal;
-- any other is taken into the cluster or the rows (`Walked.antt`).
-- Assumes nothing.
use Prim.Native.Nat.{ℕ, ◌<◌}
use mathlib.Core.Path.{◌≡◌, refl, sym, ap, ap₂, ◌∙◌, subst}
use mathlib.Core.List.{List}
use native.Mathlib.Omega.{arith}
use lib.ListN.{length}
use Rattle.cluster.specs.declared.Cluster.{Cluster}
use Rattle.std.specs.Prelude.{Err}
use Rattle.cluster.specs.declared.refusal.Refusal.{Refusal}
use Rattle.cluster.specs.TermsRefusal.{number_of, refusal_of as refusal_number}
use Rattle.fields.specs.declared.Refused.{Refused as Halt}
use Rattle.fields.proofs.RecordField.{refusal-some}
use Rattle.fields.specs.ModelTags.{tags_of}
use Rattle.fields.specs.RecordField.{field_at, refusal_of, place_of}
use Rattle.fields.specs.declared.Field.TheVariants.{Body}
use Rattle.cluster_reading.specs.RecordClusterReading.{allowed_after, cluster_refused}
use Rattle.cluster_record.proofs.Walked.{Walked, Met, Says, says_refused, says_ended, walked_start, walked_bits, walked_count, walked_length, walked_refused, walked_tag, walked_inside, walked_row, walked_row-fault, walked_fault, walked_room, walked_partition, walked_on-row, walked_on_other}
use Rattle.cluster_record.proofs.walk.Goals as goal
use Rattle.cluster_record.proofs.walk.Goals.{then-tag-eq5+in_default-row_fault, else-tag-eq5+in_default-field_fault}

-- A whole field at the reader's byte.
met_here : {s rows : List ℕ} {c : Cluster} {last next at tag start len : ℕ} (al : ℕ) → Walked s rows c last next at → at < length s
    → tags_of al ≡ allowed_after last → Body tag start len ≡ field_at s at (tags_of al) 0 → Met s rows c last next at tag start len
met_here {s = s} {at = at} al w h a e = record { walked = w; more = h; field = ap (λ (k : List ℕ). field_at s at k 0) (sym a) ∙ sym e }

-- The same, with equal rows, cluster and partition.
moved : {s rows rows' : List ℕ} {c c' : Cluster} {last next next' at : ℕ} → rows' ≡ rows → c' ≡ c → next' ≡ next
    → Walked s rows c last next at → Walked s rows' c' last next' at
moved {s = s} {rows = rows} {c = c} {c' = c'} {last = last} {next' = next'} {at = at} a b d w =
    subst (λ (r : List ℕ). Walked s r c' last next' at) (sym a)
    (subst (λ (k : Cluster). Walked s rows k last next' at) (sym b) (subst (λ (n : ℕ). Walked s rows c last n at) (sym d) w))

refusal-none : (r : Refusal) → number_of r ≡ 0 → ⊥
refusal-none r z = absurd (omega (arith, refusal-some r))

pub loop-r-init : goal.loop-r-init
loop-r-init c = record { source = refl; read = walked_start c.args.bytes.now c.args.rows.now c.none-c.result c.none-c.ensures c.requires }

pub returns-in_default : goal.returns-in_default
returns-in_default c =
    let s : List ℕ = c.loop-r.r.src.now in
    let d = walked_refused c.loop-r.invariant.read c.loop-r-test.true
    (ap (λ (k : List ℕ). field_at s c.loop-r.r.at k 0) (sym c.allowed_after.ensures) ∙ sym c.in_default.ensures.0) in
    subst (λ (t : List ℕ). Says t (Err c.refused.result) c.loop-r.rows) c.loop-r.invariant.source
    (says_refused s c.loop-r.rows c.refused.result
    (d ∙ ap₂ cluster_refused (sym (c.refused.ensures.0 ∙ ap refusal_of c.in_default.is)) (sym (c.refused.ensures.1 ∙ ap place_of c.in_default.is))))

pub row_fault-requires : goal.row_fault-requires
row_fault-requires c =
    let m = met_here c.allowed_after.result c.loop-r.invariant.read c.loop-r-test.true c.allowed_after.ensures c.in-Body.ensures.0 in
    let wide = walked_row m c.if-tag-eq5.true in
    (walked_bits m.walked, omega (arith, wide), omega (arith, wide, (walked_inside m).1))

pub returns-in-Err : goal.returns-in-Err
returns-in-Err c =
    let s : List ℕ = c.loop-r.r.src.now in
    let m = met_here c.allowed_after.result c.loop-r.invariant.read c.loop-r-test.true c.allowed_after.ensures c.in-Body.ensures.0 in
    let r : Halt = record { refusal = c.in-Err.refusal; at = c.loop-r.r.at } in
    subst (λ (t : List ℕ). Says t (Err r) c.loop-r.rows) c.loop-r.invariant.source
    (says_refused s c.loop-r.rows r (walked_fault m (walked_row-fault m c.if-tag-eq5.true c.in-Err.ensures) (refusal-none c.in-Err.refusal)))

pub take_row-next-requires : goal.take_row-next-requires
take_row-next-requires c =
    let m = met_here c.allowed_after.result c.loop-r.invariant.read c.loop-r-test.true c.allowed_after.ensures c.in-Body.ensures.0 in
    let five = c.if-tag-eq5.true in
    let wide = walked_row m five in
    let fits = walked_row-fault m five c.row_fault.ensures in
    (walked_length m.walked, walked_partition m fits (ap refusal_number c.in_default-row_fault.is) five, wide.0, wide.1, (walked_inside m).1)

pub field_fault-requires : goal.field_fault-requires
field_fault-requires c =
    let m = met_here c.allowed_after.result c.loop-r.invariant.read c.loop-r-test.true c.allowed_after.ensures c.in-Body.ensures.0 in
    (walked_count m.walked, (walked_tag m).0, omega (arith, walked_tag m, c.if-tag-eq5.false))

pub returns-in-Err-field_fault : goal.returns-in-Err-field_fault
returns-in-Err-field_fault c =
    let s : List ℕ = c.loop-r.r.src.now in
    let m = met_here c.allowed_after.result c.loop-r.invariant.read c.loop-r-test.true c.allowed_after.ensures c.in-Body.ensures.0 in
    let r : Halt = record { refusal = c.in-Err-field_fault.refusal; at = c.loop-r.r.at } in
    subst (λ (t : List ℕ). Says t (Err r) c.loop-r.rows) c.loop-r.invariant.source
    (says_refused s c.loop-r.rows r
    (walked_fault m (c.in-Err-field_fault.ensures c.loop-r.next c.in-Body.len) (refusal-none c.in-Err-field_fault.refusal)))

pub cluster_with-c-requires : goal.cluster_with-c-requires
cluster_with-c-requires c =
    let m = met_here c.allowed_after.result c.loop-r.invariant.read c.loop-r-test.true c.allowed_after.ensures c.in-Body.ensures.0 in (
      (walked_tag m).0,
      omega (arith, walked_tag m, c.if-tag-eq5.false),
      walked_room m (c.field_fault.ensures c.loop-r.next c.in-Body.len) (ap refusal_number c.in_default-field_fault.is),
    )

pub loop-r-preserved : goal.loop-r-preserved
loop-r-preserved c =
    let m = met_here c.allowed_after.result c.loop-r.invariant.read c.loop-r-test.true c.allowed_after.ensures c.in-Body.ensures.0 in
    record {
      source = c.loop-r.invariant.source;
      read = elim c.if-tag-eq5.branch [
        | then-tag-eq5+in_default-row_fault w ↦ moved w.rows-is w.c-is w.next-is
            (walked_on-row m (walked_row-fault m w.if-tag-eq5.true w.row_fault.ensures) (ap refusal_number w.in_default-row_fault.is) w.if-tag-eq5.true
            w.take_row-next.new.rows w.take_row-next.result w.take_row-next.ensures)
        | else-tag-eq5+in_default-field_fault w ↦ moved w.rows-is w.c-is w.next-is
            (walked_on_other m (w.field_fault.ensures c.loop-r.next c.in-Body.len) (ap refusal_number w.in_default-field_fault.is)
            (omega (arith, walked_tag m, w.if-tag-eq5.false)) w.cluster_with-c.result w.cluster_with-c.ensures)
      ];
    }

pub returns : goal.returns
returns c =
    subst (λ (t : List ℕ). Says t c.ended.result c.loop-r.rows) c.loop-r.invariant.source
    (says_ended c.loop-r.invariant.read c.loop-r-test.false c.ended.result c.ended.ensures)
