-- What `read_layout` and `write_layout` answer, and what the lent cells and bytes then hold.
-- Assumes nothing.
use Rattle.std.specs.Prelude.{ℕ, ◌^◌, cond, List, ◌++◌, ltb, eqb, length, drop, Result, Ok, Err}
use Rattle.cluster.specs.Terms.{layout_cells, cells_of, rows_in}
use Rattle.cluster.specs.declared.refusal.Refusal.{Refusal}
use Rattle.cluster.specs.TermsRefusal.{number_of}
use Rattle.fields.specs.declared.Refused.{Refused}
use Rattle.fields.specs.RecordField.{over}
use Rattle.layout_head.specs.declared.Numbers.{Numbers}
use Rattle.layout_head.specs.RecordHeadFaults.{no_numbers}
use Rattle.layout_rows.specs.RecordLayout.{layout_record, record_length}
use Rattle.layout_rows.specs.RecordLayoutFaults.{LayoutRead, layout_refused, read_layout, write_fault}

-- What a reading yields: the refusal, 0 for none, with its byte, and the numbers.
pub record ReadLayout : Type 0 where
  pub refusal : ℕ
  pub byte : ℕ
  pub numbers : Numbers

-- What `read_layout` answers, as the paper's numbers: a refused reading yields no numbers.
abbrev pub read_as : Result Numbers Refused → ReadLayout
read_as (Ok n) = record { refusal = 0; byte = 0; numbers = n }
read_as (Err r) = record { refusal = number_of r.refusal; byte = r.at; numbers = no_numbers }

-- What writing yields: the refusal, 0 for none, and the record's length.
pub record Written : Type 0 where
  pub refusal : ℕ
  pub length : ℕ

-- What `write_layout` answers, as the paper's numbers.
abbrev pub written_as : Result ℕ Refusal → Written
written_as (Ok n) = record { refusal = 0; length = n }
written_as (Err refusal) = record { refusal = number_of refusal; length = 0 }

-- "8 for the assignment buffer", with byte 0; then field by field.
unfoldable pub layout_outcome : List ℕ → List ℕ → LayoutRead
layout_outcome s cells = cond (ltb (length cells) layout_cells) (layout_refused 8 0) (read_layout s)

-- What an outcome answers.
unfoldable pub layout_answer : LayoutRead → ReadLayout
layout_answer o = record { refusal = o.refusal; byte = o.byte; numbers = o.numbers }

-- The answer for the bytes s and the lent cells.
unfoldable pub read_layout_of : List ℕ → List ℕ → ReadLayout
read_layout_of s cells = layout_answer (layout_outcome s cells)

-- "On success, reading sets all 2,048 assignment cells. On refusal these cells keep what was lent"; "Cells beyond these numbers are never
-- touched."
unfoldable pub assignment_read : List ℕ → List ℕ → List ℕ
assignment_read s cells =
    cond (eqb (layout_outcome s cells).refusal 0) (cells_of (layout_outcome s cells).layout ++ drop layout_cells cells) cells

-- "It answers the record's length."
unfoldable pub write_answer : Numbers → List ℕ → List ℕ → Written
write_answer n cells out = record {
  refusal = write_fault n cells (length out);
  length = cond (eqb (write_fault n cells (length out)) 0) (record_length n.bits n.replication) 0;
}

-- "Refused, the output keeps its bytes; bytes after the record always keep theirs."
unfoldable pub out_after : Numbers → List ℕ → List ℕ → List ℕ
out_after n cells out =
    cond (eqb (write_fault n cells (length out)) 0) (over (layout_record n (rows_in (2 ^ n.bits) cells)) out) out
