-- What the call owes beside its answer: a refused change alters nothing, an accepted one leaves a sound cluster, and its reverse brings the nodes back.
-- Assumes nothing.
use Prim.Native.Nat.{ℕ, ◌+◌, ◌-◌, ◌≤◌, ◌<◌}
use mathlib.Core.Path.{◌≡◌, refl, sym, ap, ap₂, ◌∙◌, subst}
use mathlib.Core.List.{List, [], ◌++◌, append-nil}
use mathlib.Core.Logic.{◌⊎◌, inl, inr, ⊎_elim}
use native.Mathlib.Omega.{arith}
use lib.ListN.{length, take, drop, length-append, length-drop}
use borrow.Author.Tests.{eq-eqb, ne_eqb, le-leb, lt-leb}
use Rattle.sums.proofs.Sum.{eq_or_ne, lt_or_ge}
use Rattle.cluster.specs.Terms.{Topology, topology, fault_of}
use Rattle.cluster.specs.TermsReading.{slots_of, Accepted}
use Rattle.cluster.specs.declared.Cluster.{Cluster}
use Rattle.cluster.specs.declared.Node.{Node}
use Rattle.cluster.proofs.Accepting.{accepted, no_fault}
use Rattle.cluster.proofs.Slots.{topology-slots}
use Rattle.cluster.specs.TermsRefusal.{number_of}
use Rattle.fields.specs.RecordField.{Bytes, part, head_width, field_at}
use Rattle.fields.specs.declared.Field.{Field}
use Rattle.fields.specs.declared.Field.TheVariants.{Body, Refused}
use Rattle.fields.proofs.RecordField.{refused-some}
use Rattle.splices.specs.TermsReplaced.{with_nodes}
use Rattle.change_fields.specs.RecordChange.{change_field, change_tags, change_in, FitsChange}
use Rattle.change_fields.specs.declared.Change.{Change}
use Rattle.change_fields.proofs.Changes.{length-change, change_pos, reverse-given, change_here, change-back}
use Rattle.making.specs.TermsMaking.{changed_nodes, reverse_of, change_fault}
use Rattle.making.proofs.Changing.{changed-rising, changed_few, changed_ceilings, reverse-made, changed-fit, reverse-fit}
use Rattle.changes.specs.TermsChanges.{Made, change_refused, change_made, change_read, change_at, change_of}
use Rattle.changes.specs.TermsUndo.{Accepts, cluster_after, byte_after, reverse_given, FitsNodes, Sound, Undone, Owed}

-- ---- the call, case by case

-- What an accepted change is: the field of it is whole, and it is without fault.
pub record Taken (c : Cluster) (s : List ℕ) (at : ℕ) : Type 0 where
  pub tag : ℕ
  pub start : ℕ
  pub len : ℕ
  pub sound : fault_of c ≡ 0
  pub inside : at < length s
  pub body : field_at s at change_tags 0 ≡ Body tag start len
  pub good : change_fault (topology c).nodes (change_in s tag start) ≡ 0

-- The call then makes it.
pub taken_made : (c : Cluster) (s : List ℕ) (at : ℕ) (t : Taken c s at) → change_of c s at ≡ change_made c (change_in s t.tag t.start) (t.start + t.len)
unfolding change_of change_at change_read
taken_made c s at t =
    let fault = change_fault (topology c).nodes (change_in s t.tag t.start) in
    simp (eq-eqb (fault_of c) 0 t.sound, lt-leb (length s) at t.inside, t.body, eq-eqb fault 0 t.good)

-- A call that refuses says so by a number that is not 0.
abbrev RefusedHere : Cluster → List ℕ → ℕ → Type 0
RefusedHere c s at = (1 ≤ (change_of c s at).answer.refusal) × (change_of c s at ≡ change_refused c (change_of c s at).answer.refusal at)

module _ (c : Cluster) (s : List ℕ) (at : ℕ) where
  refused_as : (r : ℕ) → 1 ≤ r → change_of c s at ≡ change_refused c r at → RefusedHere c s at
  refused_as r p e =
      let same : (change_of c s at).answer.refusal ≡ r = ap (λ (m : Made). m.answer.refusal) e in
      (omega arith, e ∙ ap (λ (k : ℕ). change_refused c k at) (sym same))

  -- Every call takes the change or refuses it.
  taken_or_refused : Taken c s at ⊎ RefusedHere c s at
  unfolding change_of change_at change_read
  taken_or_refused =
      ⊎_elim
      (λ sound. ⊎_elim (λ inside. field_of sound inside (field_at s at change_tags 0) refl)
      (λ past. inr (refused_as 7 (omega arith) (simp (eq-eqb (fault_of c) 0 sound, le-leb (length s) at past)))) (lt_or_ge at (length s)))
      (λ fault. inr (refused_as (fault_of c) (omega arith) (simp (ne_eqb (fault_of c) 0 fault))))
      (eq_or_ne (fault_of c) 0)
    where
      field_of : fault_of c ≡ 0 → at < length s → (f : Field) → field_at s at change_tags 0 ≡ f → Taken c s at ⊎ RefusedHere c s at
      field_of sound inside (Refused refusal byte) e =
          inr (refused_as (number_of refusal) (refused-some s at change_tags 0 refusal byte e).0 (simp (eq-eqb (fault_of c) 0 sound, lt-leb (length s) at inside, e)))
      field_of sound inside (Body tag start len) e =
          let fault = change_fault (topology c).nodes (change_in s tag start) in
          ⊎_elim (λ good. inl (record { tag = tag; start = start; len = len; sound = sound; inside = inside; body = e; good = good }))
          (λ bad. inr (refused_as fault (omega arith) (simp (eq-eqb (fault_of c) 0 sound, lt-leb (length s) at inside, e, ne_eqb fault 0 bad))))
          (eq_or_ne fault 0)

  -- What an accepted call took.
  pub taken : Accepts c s at → Taken c s at
  taken a = ⊎_elim (λ t. t) (λ r. absurd (omega (arith, r.0, a))) taken_or_refused

  -- "A refused change alters nothing and gives no reverse; .. and the byte answered is the given one."
  pub refused : (Accepts c s at → ⊥) → change_of c s at ≡ change_refused c (change_of c s at).answer.refusal at
  unfolding change_made
  refused n = ⊎_elim (λ t. absurd (n (ap (λ (m : Made). m.answer.refusal) (taken_made c s at t)))) (λ r. r.1) taken_or_refused

-- ---- the cluster that it leaves

-- A cluster with a change of its nodes made.
abbrev left : Cluster → Change → Topology
left c x = with_nodes (topology c) (changed_nodes (topology c).nodes x)

-- A change without fault of a cluster without fault leaves one without fault, and its unused slots are zero.
left_sound : (c : Cluster) (x : Change) → fault_of c ≡ 0 → change_fault (topology c).nodes x ≡ 0 → Sound c (slots_of (left c x))
unfolding slots_of
left_sound c x sound good =
    let t = topology c in
    let a = accepted c sound in
    let few = changed_few t.nodes x a.ids good a.few in
    let kept : Accepted (left c x) =
    record {
      bits = a.bits;
      replication = a.replication;
      redundancy = a.redundancy;
      few = few;
      ids = changed-rising t.nodes x a.ids good;
      ceilings = changed_ceilings t.nodes x good a.ceilings;
    } in
    record {
      sound = no_fault (slots_of (left c x)) few (subst Accepted (sym (topology-slots (left c x))) kept);
      slots = ap slots_of (sym (topology-slots (left c x)));
      bits = refl;
      replication = refl;
      redundancy = refl;
    }

-- The four parts of the answer where the change is taken.
module _ (c : Cluster) (s : List ℕ) (at : ℕ) (t : Taken c s at) where
  taken_accepted : Accepts c s at
  unfolding change_made
  taken_accepted = ap (λ (m : Made). m.answer.refusal) (taken_made c s at t)

  taken-cluster : cluster_after c s at ≡ slots_of (left c (change_in s t.tag t.start))
  unfolding change_made
  taken-cluster = ap (λ (m : Made). m.cluster) (taken_made c s at t)

  pub taken_byte : byte_after c s at ≡ t.start + t.len
  unfolding change_made
  taken_byte = ap (λ (m : Made). m.answer.byte) (taken_made c s at t)

  taken-reverse : reverse_given c s at ≡ change_field (reverse_of (topology c).nodes (change_in s t.tag t.start))
  unfolding change_made
  taken-reverse =
      let y = reverse_of (topology c).nodes (change_in s t.tag t.start) in
      ap (λ (m : Made). take m.answer.reverse.len m.answer.reverse.bytes) (taken_made c s at t) ∙ reverse-given (change_field y) (length-change y)

-- "An accepted change leaves unused slots zero", and a cluster without fault.
pub stays_accepted : (c : Cluster) (s : List ℕ) (at : ℕ) → Accepts c s at → Sound c (cluster_after c s at)
stays_accepted c s at a =
    let t = taken c s at a in
    subst (Sound c) (sym (taken-cluster c s at t)) (left_sound c (change_in s t.tag t.start) t.sound t.good)

-- ---- the reverse, made where it stands

-- The reverse v of a change stands at byte b of the bytes u, and is made on the cluster d that the change left: it brings back the cluster c, box for
-- box, and its own reverse is the field w of the change.
pub record UndoneAt (c d : Cluster) (u : List ℕ) (b : ℕ) (v w : List ℕ) : Type 0 where
  pub accepted : Accepts d u b
  pub whole : byte_after d u b ≡ b + length v
  pub back : cluster_after d u b ≡ slots_of (topology c)
  pub again : reverse_given d u b ≡ w

-- The reverse of a change as a value is taken where it stands, on the cluster that the change left.
undo_taken : (c : Cluster) (x : Change) (u rest : List ℕ) (b : ℕ) → fault_of c ≡ 0 → change_fault (topology c).nodes x ≡ 0
    → FitsChange (reverse_of (topology c).nodes x) → drop b u ≡ change_field (reverse_of (topology c).nodes x) ++ rest
    → UndoneAt c (slots_of (left c x)) u b (change_field (reverse_of (topology c).nodes x)) (change_field x)
undo_taken c x u rest b sound good fit e =
    let l = (topology c).nodes in
    let d = slots_of (left c x) in
    let y = reverse_of l x in
    let a = accepted c sound in
    let r = reverse-made l x a.few a.ids a.ceilings good in
    let f = change_here u rest y b e fit in
    let read : change_in u f.0 (b + head_width) ≡ y = f.1.1.1.0 in
    let same : topology d ≡ left c x = topology-slots (left c x) in
    let long : length u - b ≡ length (change_field y) + length rest = sym (length-drop b u) ∙ (ap length e ∙ length-append (change_field y) rest) in
    let t : Taken d u b = record {
      tag = f.0;
      start = b + head_width;
      len = f.1.0;
      sound = (left_sound c x sound good).sound;
      inside = omega (arith, long, change_pos y);
      body = f.1.1.0;
      good = ap₂ change_fault (ap (λ (k : Topology). k.nodes) same) read ∙ r.good;
    } in
    record {
      accepted = taken_accepted d u b t;
      whole = taken_byte d u b t ∙ omega (arith, f.1.1.1.1);
      back =
          taken-cluster d u b t
          ∙ (ap₂ (λ (k : Topology) (z : Change). slots_of (with_nodes k (changed_nodes k.nodes z))) same read
          ∙ ap (λ (k : List Node). slots_of (with_nodes (topology c) k)) r.back);
      again = taken-reverse d u b t ∙ ap change_field (ap₂ (λ (k : Topology) (z : Change). reverse_of k.nodes z) same read ∙ r.again);
    }

-- The reverse that a call gave, wherever it stands.
pub undone_at : (c : Cluster) (s : List ℕ) (at : ℕ) (u rest : List ℕ) (b : ℕ) → Bytes s → FitsNodes (topology c) → Accepts c s at
    → drop b u ≡ reverse_given c s at ++ rest
    → UndoneAt c (cluster_after c s at) u b (reverse_given c s at) (part s at (byte_after c s at - at))
undone_at c s at u rest b bytes fits a e =
    let t = taken c s at a in
    let x = change_in s t.tag t.start in
    let k = change-back s at t.tag t.start t.len bytes t.body in
    let v : reverse_given c s at ≡ change_field (reverse_of (topology c).nodes x) = taken-reverse c s at t in
    let wide : byte_after c s at - at ≡ head_width + t.len = omega (arith, taken_byte c s at t, k.1) in
    let w : part s at (byte_after c s at - at) ≡ change_field x = ap (part s at) wide ∙ k.0 in
    let r = undo_taken c x u rest b t.sound t.good (reverse-fit (topology c).nodes x fits k.3) (e ∙ ap (λ (h : List ℕ). h ++ rest) v) in
    subst (λ (d : Cluster). UndoneAt c d u b (reverse_given c s at) (part s at (byte_after c s at - at))) (sym (taken-cluster c s at t))
    (subst (λ (h : List ℕ). UndoneAt c (slots_of (left c x)) u b h (part s at (byte_after c s at - at))) (sym v)
    (subst (λ (h : List ℕ). UndoneAt c (slots_of (left c x)) u b (change_field (reverse_of (topology c).nodes x)) h) (sym w) r))

-- The same of its bytes alone.
pub undone : (c : Cluster) (s : List ℕ) (at : ℕ) → Bytes s → FitsNodes (topology c) → Accepts c s at
    → Undone c (cluster_after c s at) (reverse_given c s at) (part s at (byte_after c s at - at))
undone c s at bytes fits a =
    let v = reverse_given c s at in
    let r = undone_at c s at v [] 0 bytes fits a (sym (append-nil v)) in
    record { accepted = r.accepted; whole = r.whole ∙ omega arith; back = r.back; again = r.again }

-- The reverse of the reverse is the field that was read.
pub redone : (c : Cluster) (s : List ℕ) (at : ℕ) → Bytes s → FitsNodes (topology c) → Accepts c s at
    → reverse_given (cluster_after c s at) (reverse_given c s at) 0 ≡ part s at (byte_after c s at - at)
redone c s at bytes fits a = (undone c s at bytes fits a).again

-- Where the numbers of the nodes fit their bytes, those of the nodes that a change leaves fit theirs.
pub fits_after : (c : Cluster) (s : List ℕ) (at : ℕ) → Bytes s → FitsNodes (topology c) → Accepts c s at → FitsNodes (topology (cluster_after c s at))
fits_after c s at bytes fits a =
    let t = taken c s at a in
    let x = change_in s t.tag t.start in
    let k = change-back s at t.tag t.start t.len bytes t.body in
    subst FitsNodes (sym (ap topology (taken-cluster c s at t) ∙ topology-slots (left c x))) (changed-fit (topology c).nodes x fits k.3)

pub owed : (c : Cluster) (s : List ℕ) (at : ℕ) → Owed c s at
owed c s at = record { refused = refused c s at; accepted = stays_accepted c s at; undone = undone c s at }
