-- Reading the fields before the rows of a layout record: the faults and their order, held against "Read a layout" of document 01.
-- Assumes nothing.
use Rattle.std.specs.Prelude.{ℕ, ◌+◌, cond, List, [], ◌∷◌, ◌++◌, leb, length}
use Rattle.cluster.specs.declared.refusal.Refusal.TheVariants.{Missing}
use Rattle.cluster.specs.TermsRefusal.{number_of}
use Rattle.fields.specs.RecordField.{number_at, field_at}
use Rattle.fields.specs.declared.Field.{Field}
use Rattle.fields.specs.declared.Field.TheVariants.{Body, Refused}
use Rattle.layout_head.specs.declared.Numbers.{Numbers}
use Rattle.layout_head.specs.declared.table.Entry.{Entry}
use Rattle.layout_head.specs.RecordHead.{numbers_of, numbers_from, holds}

-- The field at byte `at`, which has to have this tag: "7 when a field or row is missing", with the record's length; else as fields are taken.
unfoldable pub next_field : List ℕ → ℕ → ℕ → ℕ → Field
next_field s at tag exact = cond (leb (length s) at) (Refused Missing (length s)) (field_at s at (tag ∷ []) exact)

-- What the fields before the rows say: the numbers with the byte after them, or a refusal with its byte.
pub data HeadRead : Type 0 where
  head_ends : Numbers → ℕ → HeadRead
  head_refused : ℕ → ℕ → HeadRead

-- A field with the number of an entry, and what comes after it: "4, a value outside its range", with the byte at which the field begins; else
-- the reading goes on with the value, from the byte after the field.
abbrev pub head_number : (ℕ → ℕ → HeadRead) → List ℕ → ℕ → Entry → Field → HeadRead
head_number go s at e (Refused refusal byte) = head_refused (number_of refusal) byte
head_number go s at e (Body tag start len) =
    cond (holds e (number_at s start len)) (go (start + len) (number_at s start len)) (head_refused 4 at)

-- The numbers of the entries, one field each, from byte `at` on, after the numbers vs: "the first fault decides".
unfoldable pub head_from : List Entry → List ℕ → ℕ → List ℕ → HeadRead
head_from [] s at vs = head_ends (numbers_from vs) at
head_from (e ∷ es) s at vs = head_number (λ next v. head_from es s next (vs ++ (v ∷ []))) s at e (next_field s at e.tag 0)

-- The numbers of a refused reading.
abbrev pub no_numbers : Numbers
no_numbers = numbers_of 0 0 0 0 0 0
