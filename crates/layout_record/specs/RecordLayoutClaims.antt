-- What reading and writing achieve: the statements in which the theorems of `proofs/Exact.antt` are put. Their hypotheses are that a record has
-- bytes (`Bytes`) and that cells have words (`Words`), as all in code have.
-- Assumes nothing.
use Rattle.std.specs.Prelude.{ℕ, ◌^◌, ◌≤◌, ◌<◌, ◌≡◌, true, List, ◌++◌, length, take, drop, get_or}
use Rattle.cluster.specs.Terms.{layout_cells, Layout, cells_of}
use Rattle.layout_head.specs.declared.Numbers.{Numbers}
use Rattle.layout_head.specs.RecordHead.{in_range}
use Rattle.layout_rows.specs.RecordLayout.{HasLayout, layout_record, IsLayoutRecord}
use Rattle.layout_rows.specs.RecordLayoutFaults.{layout_accepted, read_layout}
use Rattle.layout_record.specs.RecordLayoutAnswer.{read_layout_of, assignment_read, write_answer, out_after}

-- Cells are numbers of 32 bits.
abbrev pub Words : List ℕ → Type 0
Words l = (i : ℕ) → get_or l i 0 < 2 ^ 32

-- ---- reading

-- What is read without refusal: the record of these numbers and of this layout.
pub record WasRecord (s : List ℕ) : Type 0 where
  pub numbers : Numbers
  pub layout : Layout
  pub outcome : read_layout s ≡ layout_accepted numbers layout
  pub is : IsLayoutRecord s numbers layout

-- What the caller has of a record that is read: its numbers, and all 2,048 cells of its layout.
pub record ReadsLayout (s cells : List ℕ) (n : Numbers) (L : Layout) : Type 0 where
  pub answer : read_layout_of s cells ≡ record { refusal = 0; byte = 0; numbers = n }
  pub after : assignment_read s cells ≡ cells_of L ++ drop layout_cells cells

-- What is answered without refusal was a record, read into a buffer that is long enough.
pub record WasRead (s cells : List ℕ) : Type 0 where
  pub layout : Layout
  pub whole : layout_cells ≤ length cells
  pub is : IsLayoutRecord s (read_layout_of s cells).numbers layout
  pub reads : ReadsLayout s cells (read_layout_of s cells).numbers layout

-- ---- writing

-- What there must be to write: numbers in range, cells that are those of a layout with these numbers, and room for the record.
pub record CanWrite (n : Numbers) (cells out : List ℕ) (L : Layout) : Type 0 where
  pub whole : layout_cells ≤ length cells
  pub ranges : in_range n ≡ true
  pub layout : HasLayout n L
  pub own_cells : take layout_cells cells ≡ cells_of L
  pub room : length (layout_record n L) ≤ length out

-- What the caller then has: the record's length, and the record at the front of the output.
pub record WritesLayout (n : Numbers) (cells out : List ℕ) (L : Layout) : Type 0 where
  pub answer : write_answer n cells out ≡ record { refusal = 0; length = length (layout_record n L) }
  pub after : out_after n cells out ≡ layout_record n L ++ drop (length (layout_record n L)) out

-- What is written without refusal was there to write.
pub record WasWritten (n : Numbers) (cells out : List ℕ) : Type 0 where
  pub layout : Layout
  pub can : CanWrite n cells out layout
  pub writes : WritesLayout n cells out layout
