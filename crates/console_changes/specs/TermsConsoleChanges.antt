-- What the C function of a change answers, leaves in every lent slice and owes, for all bytes, numbers and lengths.
-- Assumes nothing.
use Rattle.std.specs.Prelude.{ℕ, ◌+◌, ◌*◌, ◌≤◌, ◌≡◌, cond, List, ◌∷◌, ◌++◌, eqb, drop, Result, Ok, Err}
use Rattle.cluster.specs.Terms.{most_nodes}
use Rattle.cluster_record.specs.RecordClusterAnswer.{ReadCluster}
use Rattle.change_fields.specs.RecordChange.{longest_change}
use Rattle.cluster.specs.declared.Cluster.{Cluster}
use Rattle.cluster.specs.TermsRefusal.{number_of}
use Rattle.fields.specs.declared.Refused.{Refused}
use Rattle.changes.specs.TermsChanges.{Outcome, Made, change_refused, change_of}
use Rattle.changes.specs.declared.Done.{Done}
use Rattle.changes.specs.TermsUndo.{Owed}
use Rattle.answers.specs.TermsAnswers.{halves, node_cells_width, node_cells, unless_short, after_reading, reading}

-- ---- what the call comes to

-- The change of the record s at byte `at`, made on the cluster that was read; a refused reading is a refused change.
unfoldable pub made_read : ReadCluster → List ℕ → ℕ → Made
made_read r s at = after_reading r (change_refused r.cluster r.refusal at) (change_of r.cluster s at)

-- What reading and the change answer together, with the cluster that is left, as these numbers; and the byte of the reading, 0 where it is not refused.
abbrev pub changed_as : ℕ → Cluster → Result Done Refused → Made
changed_as at c (Ok done) = record { cluster = c; answer = record { refusal = 0; byte = done.next; reverse = done.reverse } }
changed_as at c (Err r) = change_refused c (number_of r.refusal) at

abbrev pub byte_as : Result Done Refused → ℕ
byte_as (Ok _) = 0
byte_as (Err r) = r.at

-- ---- lent slices

-- The cells before the nodes: byte of the reading (two cells), byte answered (two cells), length of the reverse, bits, replication, redundancy,
-- number of nodes.
abbrev pub head_cells : ℕ
head_cells = 9

abbrev pub change_cells : ℕ
change_cells = head_cells + node_cells_width * most_nodes

-- What is answered, or left in a lent slice, where `answer` or `reverse` is too short, which is 8 with nothing touched, and where both are
-- long enough.
abbrev pub unless_either : {A : Type 0} → List ℕ → List ℕ → A → A → A
unless_either reverse answer short x = unless_short change_cells answer short (unless_short longest_change reverse short x)

-- The bytes `reverse` afterwards, where they are long enough: the reverse from byte 0 on, zero past its length; refused, they are kept.
unfoldable pub reverse_after : List ℕ → Outcome → List ℕ
reverse_after lent o = cond (eqb o.refusal 0) (o.reverse.bytes ++ drop longest_change lent) lent

-- "byte of the reading (2), byte answered (2), length of the reverse, bits, replication, redundancy, number, nodes": `byte` is that of the reading.
abbrev pub change_numbers : ℕ → Made → List ℕ
change_numbers byte m =
    let c = m.cluster in
    halves byte
    ++ (halves m.answer.byte
    ++ (m.answer.reverse.len ∷ c.bits ∷ c.replication ∷ c.redundancy ∷ c.count ∷ node_cells c.nodes))

-- ---- what is owed

-- What is owed to a call whose record is read and whose slices are long enough, of the cluster that the record carries.
abbrev pub ChangeOwed : List ℕ → List ℕ → ℕ → ℕ → ℕ → Type 0
ChangeOwed s changes at reverse answer =
    (reading s).refusal ≡ 0 → longest_change ≤ reverse → change_cells ≤ answer → Owed (reading s).cluster changes at
