-- Reading and writing a layout record: the faults and their order, held against "Read a layout" and "Write a layout" of document 01.
-- Assumes nothing.
use Rattle.std.specs.Prelude.{ℕ, zero, suc, ◌+◌, ◌*◌, ◌^◌, Bool, not, ◌&&◌, ◌||◌, cond, List, [], ◌∷◌, ◌++◌, ltb, leb, eqb, length}
use Rattle.sums.specs.TermsSums.{every_to}
use Rattle.cluster.specs.Terms.{buffer_rows, layout_cells, Layout, mem, rising, row_at, ids_in, blank, formed}
use Rattle.cluster.specs.TermsRefusal.{number_of}
use Rattle.fields.specs.RecordField.{number_at, ids_at, field_at, refusal_of, place_of}
use Rattle.fields.specs.declared.Field.{Field}
use Rattle.fields.specs.declared.Field.TheVariants.{Body, Refused}
use Rattle.layout_head.specs.declared.Numbers.{Numbers}
use Rattle.layout_head.specs.RecordHead.{head_table, in_range}
use Rattle.layout_head.specs.RecordHeadFaults.{next_field, HeadRead, head_ends, head_refused, head_from, no_numbers}
use Rattle.layout_rows.specs.RecordLayout.{record_length}

-- ---- reading

-- What a reading yields: the refusal, 0 for none, with its byte; the numbers and the layout.
pub record LayoutRead : Type 0 where
  pub refusal : ℕ
  pub byte : ℕ
  pub numbers : Numbers
  pub layout : Layout

-- A refusal: "every number for which nothing is laid down here is 0"
abbrev pub layout_refused : ℕ → ℕ → LayoutRead
layout_refused refusal byte = record { refusal = refusal; byte = byte; numbers = no_numbers; layout = [] }

-- A reading without a fault.
abbrev pub layout_accepted : Numbers → Layout → LayoutRead
layout_accepted n L = record { refusal = 0; byte = 0; numbers = n; layout = L }

-- "4, a value outside its range (id 0 and partition at or above P included); 5, id not rising", "5 also for a row that isn't the next
-- partition".
unfoldable pub layout_row_fault : ℕ → ℕ → ℕ → List ℕ → ℕ
layout_row_fault partitions next p ids = cond (leb partitions p || mem 0 ids) 4 (cond (not (eqb p next) || not (rising ids)) 5 0)

-- After the last row: the record ends, or is refused: "2 also for any field after the last row", and 1 where one or two bytes are left. No tag
-- is allowed there.
unfoldable pub end_in : List ℕ → ℕ → Numbers → Layout → LayoutRead
end_in s at n L =
    cond (leb (length s) at) (layout_accepted n L) (layout_refused (refusal_of (field_at s at [] 0)) (place_of (field_at s at [] 0)))

-- A row, and what comes after it. L has the rows before it; "for field 10 only 2 + 4R with this record's R is legal".
abbrev pub row_in : (ℕ → Layout → LayoutRead) → List ℕ → ℕ → Numbers → Layout → Field → LayoutRead
row_in go s at n L (Refused refusal byte) = layout_refused (number_of refusal) byte
row_in go s at n L (Body tag start len) =
    cond (eqb (layout_row_fault (2 ^ n.bits) (length L) (number_at s start 2) (ids_at s (start + 2) n.replication)) 0)
    (go (start + len) (L ++ (ids_at s (start + 2) n.replication ∷ [])))
    (layout_refused (layout_row_fault (2 ^ n.bits) (length L) (number_at s start 2) (ids_at s (start + 2) n.replication)) at)

-- The rows from byte `at` on, k of them, after those of L.
unfoldable pub rows_from : ℕ → List ℕ → ℕ → Numbers → Layout → LayoutRead
rows_from zero s at n L = end_in s at n L
rows_from (suc k) s at n L = row_in (λ next M. rows_from k s next n M) s at n L (next_field s at 10 (2 + 4 * n.replication))

-- "then P fields 10"
abbrev pub rows_after : List ℕ → HeadRead → LayoutRead
rows_after s (head_refused refusal byte) = layout_refused refusal byte
rows_after s (head_ends n end) = rows_from (2 ^ n.bits) s end n []

-- Reading the record s into a buffer that is long enough: the numbers of the table, then the rows.
unfoldable pub read_layout : List ℕ → LayoutRead
read_layout s = rows_after s (head_from head_table s 0 [])

-- ---- writing

-- Whether row p of the cells is "R rising non-zero ids then zeros", and from P on zero.
unfoldable pub row_fits : List ℕ → ℕ → ℕ → ℕ → Bool
row_fits cells partitions replication p =
    cond (ltb p partitions) (formed (row_at cells p) && eqb (length (ids_in (row_at cells p))) replication) (blank (row_at cells p))

-- Whether every row is.
unfoldable pub rows_fit : List ℕ → ℕ → ℕ → Bool
rows_fit cells partitions replication = every_to buffer_rows (row_fits cells partitions replication)

-- "8: assignment too short; 4: a number outside its range above; 10: a row not R rising non-zero ids then zeros, or a non-zero row from P on;
-- 8: output shorter than the record"; 0 where there is no fault.
unfoldable pub write_fault : Numbers → List ℕ → ℕ → ℕ
write_fault n cells room =
    cond (ltb (length cells) layout_cells) 8
    (cond (not (in_range n)) 4
    (cond (not (rows_fit cells (2 ^ n.bits) n.replication)) 10
    (cond (ltb room (record_length n.bits n.replication)) 8 0)))
