-- What a change makes of a cluster in hand, and what the call answers: document 02, requests 2026-04 and 2026-05. "Box" in the papers is a node here.
-- Assumes nothing.
use Rattle.std.specs.Prelude.{ℕ, ◌+◌, cond, List, leb, eqb, length, Result, Ok, Err}
use Rattle.cluster.specs.Terms.{topology, fault_of}
use Rattle.cluster.specs.TermsReading.{slots_of}
use Rattle.cluster.specs.declared.Cluster.{Cluster}
use Rattle.cluster.specs.declared.refusal.Refusal.{Refusal}
use Rattle.cluster.specs.TermsRefusal.{number_of}
use Rattle.fields.specs.RecordField.{field_at}
use Rattle.fields.specs.declared.Field.{Field}
use Rattle.fields.specs.declared.Field.TheVariants.{Body, Refused}
use Rattle.splices.specs.TermsReplaced.{with_nodes}
use Rattle.change_fields.specs.RecordChange.{change_field, change_tags, change_in, reverse_bytes, no_reverse}
use Rattle.change_fields.specs.declared.Change.{Change}
use Rattle.making.specs.TermsMaking.{changed_nodes, reverse_of, change_fault}
use Rattle.change_fields.specs.declared.Reverse.{Reverse}
use Rattle.changes.specs.declared.Done.{Done}

-- What a call answers: the refusal, 0 for none, the byte after the change or, where it is refused, the given one, and the reverse.
pub record Outcome : Type 0 where
  pub refusal : ℕ
  pub byte : ℕ
  pub reverse : Reverse

-- A cluster after a call, with what is answered.
pub record Made : Type 0 where
  pub cluster : Cluster
  pub answer : Outcome

-- "A refused change alters nothing and gives no reverse; .. the byte answered is the given one."
abbrev pub change_refused : Cluster → ℕ → ℕ → Made
change_refused c refusal at = record { cluster = c; answer = record { refusal = refusal; byte = at; reverse = no_reverse } }

-- What `change` answers for the given byte, and what `changed` answers for the given cluster and byte, as these records.
abbrev pub outcome_as : ℕ → Result Done Refusal → Outcome
outcome_as at (Ok done) = record { refusal = 0; byte = done.next; reverse = done.reverse }
outcome_as at (Err refusal) = record { refusal = number_of refusal; byte = at; reverse = no_reverse }

abbrev pub made_as : Cluster → ℕ → Result (Cluster × Done) Refusal → Made
made_as c at (Ok made) = record { cluster = made.0; answer = outcome_as at (Ok made.1) }
made_as c at (Err refusal) = change_refused c (number_of refusal) at

-- "Each accepted change gives back, as the bytes of its field, the change that reverses it"; it "leaves unused slots zero", and the call
-- "answers the next byte too".
unfoldable pub change_made : Cluster → Change → ℕ → Made
change_made c x next =
    let l = (topology c).nodes in
    record {
      cluster = slots_of (with_nodes (topology c) (changed_nodes l x));
      answer = record { refusal = 0; byte = next; reverse = reverse_bytes (change_field (reverse_of l x)) };
    }

-- A change that was read at byte `at` and ends before byte `next`.
unfoldable pub change_read : Cluster → Change → ℕ → ℕ → Made
change_read c x at next =
    let fault = change_fault (topology c).nodes x in
    cond (eqb fault 0) (change_made c x next) (change_refused c fault at)

-- The same, where the field at byte `at` may be at fault.
unfoldable pub change_at : Cluster → List ℕ → ℕ → Field → Made
change_at c s at (Refused refusal byte) = change_refused c (number_of refusal) at
change_at c s at (Body tag start len) = change_read c (change_in s tag start) at (start + len)

-- "One call makes the change at a given byte": the change of the record s at byte `at`, made on the cluster c. "The call refuses first a cluster
-- that planning would refuse with 6, 4 or 5 (former rows apart)"; "at or past the record's end, 7"; then "the faults of a field", then those of `change_fault`.
unfoldable pub change_of : Cluster → List ℕ → ℕ → Made
change_of c s at =
    cond (eqb (fault_of c) 0)
    (cond (leb (length s) at) (change_refused c 7 at) (change_at c s at (field_at s at change_tags 0)))
    (change_refused c (fault_of c) at)
