-- One turn of the walk over the fields: it ends, it is refused, or it goes on.
-- Assumes nothing.
use Prim.Native.Nat.{ℕ, zero, suc, ◌+◌, ◌-◌, ◌≤◌, ◌<◌}
use mathlib.Core.Path.{◌≡◌, refl, sym, ap, ◌∙◌, subst}
use mathlib.Core.Bool.{Bool, cond}
use mathlib.Core.List.{List}
use mathlib.Core.Logic.{⊎_elim}
use native.Mathlib.Omega.{arith}
use lib.ListN.{length}
use borrow.Author.Tests.{le-leb, lt-leb, eq-eqb, ne_eqb}
use Rattle.sums.proofs.Sum.{lt_or_ge, eq_or_ne}
use Rattle.cluster.specs.declared.refusal.Refusal.{Refusal}
use Rattle.cluster.specs.TermsRefusal.{number_of}
use Rattle.fields.specs.RecordField.{field_at}
use Rattle.fields.specs.declared.Field.{Field}
use Rattle.fields.specs.declared.Field.TheVariants.{Body, Refused}
use Rattle.fields.proofs.RecordField.{whole}
use Rattle.cluster_fields.specs.RecordClusterFaults.{item_in, fault_in}
use Rattle.cluster_reading.specs.RecordClusterReading.{Reading, ClusterRead, cluster_refused, allowed_after, reading_with, ended, after_field, walk}

module _ (s : List ℕ) (at k : ℕ) (r : Reading) where
  -- At the end of the bytes the walk has ended.
  pub walk_ends : length s ≤ at → walk k s at r ≡ ended s r
  unfolding walk
  walk_ends h = go k
    where
      go : (k : ℕ) → walk k s at r ≡ ended s r
      go zero = refl
      go (suc k) =
          ap (λ (b : Bool). cond b (ended s r) (after_field (λ next q. walk k s next q) s at r (field_at s at (allowed_after r.last) 0)))
          (le-leb (length s) at h)

  module _ (more : at < length s) (enough : length s ≤ at + k) where
    -- Before the end a field decides.
    walk_field : walk k s at r ≡ after_field (λ next q. walk (k - 1) s next q) s at r (field_at s at (allowed_after r.last) 0)
    unfolding walk
    walk_field =
        let e : k ≡ suc (k - 1) = omega arith in
        ap (λ (j : ℕ). walk j s at r) e
        ∙ ap (λ (b : Bool). cond b (ended s r) (after_field (λ next q. walk (k - 1) s next q) s at r (field_at s at (allowed_after r.last) 0)))
        (lt-leb (length s) at more)

    -- A field that cannot be taken whole ends the walk.
    pub walk_refused : (refusal : Refusal) (byte : ℕ) → field_at s at (allowed_after r.last) 0 ≡ Refused refusal byte → walk k s at r ≡ cluster_refused (number_of refusal) byte
    unfolding after_field
    walk_refused refusal byte e = walk_field ∙ ap (λ (f : Field). after_field (λ next q. walk (k - 1) s next q) s at r f) e

    module _ (tag start len : ℕ) (e : field_at s at (allowed_after r.last) 0 ≡ Body tag start len) where
      walk_body : walk k s at r ≡ after_field (λ next q. walk (k - 1) s next q) s at r (Body tag start len)
      walk_body = walk_field ∙ ap (λ (f : Field). after_field (λ next q. walk (k - 1) s next q) s at r f) e

      -- A whole field with a fault ends the walk,
      pub walk-fault : (fault_in r.cluster (length r.former) (item_in s tag start len) ≡ 0 → ⊥)
          → walk k s at r ≡ cluster_refused (fault_in r.cluster (length r.former) (item_in s tag start len)) at
      unfolding after_field
      walk-fault h =
          let n = fault_in r.cluster (length r.former) (item_in s tag start len) in
          walk_body
          ∙ ap (λ (b : Bool). cond b (walk (k - 1) s (start + len) (reading_with r tag (item_in s tag start len))) (cluster_refused n at)) (ne_eqb n 0 h)

      -- and one without a fault is taken in, and the walk goes on after it.
      pub walk-on : fault_in r.cluster (length r.former) (item_in s tag start len) ≡ 0
          → walk k s at r ≡ walk (k - 1) s (start + len) (reading_with r tag (item_in s tag start len))
      unfolding after_field
      walk-on h =
          let n = fault_in r.cluster (length r.former) (item_in s tag start len) in
          walk_body
          ∙ ap (λ (b : Bool). cond b (walk (k - 1) s (start + len) (reading_with r tag (item_in s tag start len))) (cluster_refused n at)) (eq-eqb n 0 h)

-- As many fields as there are bytes left are enough: the walk has ended by then, and any more change nothing.
pub walk_enough : (s : List ℕ) (j k at : ℕ) (r : Reading) → length s ≤ at + j → length s ≤ at + k → walk j s at r ≡ walk k s at r
walk_enough s zero k at r a b = walk_ends s at 0 r (omega arith) ∙ sym (walk_ends s at k r (omega arith))
walk_enough s (suc j) k at r a b =
    ⊎_elim (λ more. go (walk_enough s j) more (field_at s at (allowed_after r.last) 0) refl)
    (λ g. walk_ends s at (suc j) r g ∙ sym (walk_ends s at k r g)) (lt_or_ge at (length s))
  where
    go : ((k at : ℕ) (r : Reading) → length s ≤ at + j → length s ≤ at + k → walk j s at r ≡ walk k s at r) → at < length s
        → (f : Field) → field_at s at (allowed_after r.last) 0 ≡ f → walk (suc j) s at r ≡ walk k s at r
    go rec more (Refused refusal byte) e = walk_refused s at (suc j) r more a refusal byte e ∙ sym (walk_refused s at k r more b refusal byte e)
    go rec more (Body tag start len) e =
        ⊎_elim
        (λ none. let w = whole s at (allowed_after r.last) 0 tag start len e in
        let q = reading_with r tag (item_in s tag start len) in
        let d : suc j - 1 ≡ j = omega arith in
        walk-on s at (suc j) r more a tag start len e none
        ∙ (ap (λ (i : ℕ). walk i s (start + len) q) d
        ∙ (rec (k - 1) (start + len) q (omega (arith, w.begins)) (omega (arith, w.begins)) ∙ sym (walk-on s at k r more b tag start len e none))))
        (λ some. walk-fault s at (suc j) r more a tag start len e some ∙ sym (walk-fault s at k r more b tag start len e some))
        (eq_or_ne (fault_in r.cluster (length r.former) (item_in s tag start len)) 0)

-- What holds at every byte that the walk comes to, and of every way in which it can end, holds of its outcome.
module _ (s : List ℕ) (Q : ℕ → Reading → Type 0) (A : ClusterRead → Type 0)
    (ends : (at : ℕ) (r : Reading) → Q at r → length s ≤ at → A (ended s r))
    (refuses : (at : ℕ) (r : Reading) → Q at r → (refusal : Refusal) (byte : ℕ) → field_at s at (allowed_after r.last) 0 ≡ Refused refusal byte → A (cluster_refused (number_of refusal) byte))
    (faults : (at : ℕ) (r : Reading) → Q at r → (tag start len : ℕ) → field_at s at (allowed_after r.last) 0 ≡ Body tag start len
    → (fault_in r.cluster (length r.former) (item_in s tag start len) ≡ 0 → ⊥)
    → A (cluster_refused (fault_in r.cluster (length r.former) (item_in s tag start len)) at))
    (goes_on : (at : ℕ) (r : Reading) → Q at r → (tag start len : ℕ) → field_at s at (allowed_after r.last) 0 ≡ Body tag start len
    → fault_in r.cluster (length r.former) (item_in s tag start len) ≡ 0 → Q (start + len) (reading_with r tag (item_in s tag start len))) where
  pub walk-holds : (k at : ℕ) (r : Reading) → length s ≤ at + k → Q at r → A (walk k s at r)
  walk-holds zero at r enough q = subst A (sym (walk_ends s at 0 r (omega arith))) (ends at r q (omega arith))
  walk-holds (suc k) at r enough q =
      ⊎_elim (λ more. go (walk-holds k) more (field_at s at (allowed_after r.last) 0) refl)
      (λ h. subst A (sym (walk_ends s at (suc k) r h)) (ends at r q h))
      (lt_or_ge at (length s))
    where
      go : ((at : ℕ) (r : Reading) → length s ≤ at + k → Q at r → A (walk k s at r)) → at < length s
          → (f : Field) → field_at s at (allowed_after r.last) 0 ≡ f → A (walk (suc k) s at r)
      go rec more (Refused refusal byte) e = subst A (sym (walk_refused s at (suc k) r more enough refusal byte e)) (refuses at r q refusal byte e)
      go rec more (Body tag start len) e =
          ⊎_elim
          (λ none. let w = whole s at (allowed_after r.last) 0 tag start len e in
          let d : suc k - 1 ≡ k = omega arith in
          subst A
          (sym (walk-on s at (suc k) r more enough tag start len e none ∙ ap (λ (j : ℕ). walk j s (start + len) (reading_with r tag (item_in s tag start len))) d))
          (rec (start + len) (reading_with r tag (item_in s tag start len)) (omega (arith, w.begins)) (goes_on at r q tag start len e none)))
          (λ some. subst A (sym (walk-fault s at (suc k) r more enough tag start len e some)) (faults at r q tag start len e some))
          (eq_or_ne (fault_in r.cluster (length r.former) (item_in s tag start len)) 0)
