-- What a layout record is, from the format: the bytes of its numbers, and then those of the rows of a layout.
-- Assumes nothing.
use Rattle.std.specs.Prelude.{ℕ, suc, ◌+◌, ◌*◌, ◌^◌, ◌<◌, ◌≡◌, true, List, [], ◌∷◌, ◌++◌, length, get_or}
use Rattle.cluster.specs.Terms.{Layout, row, rising}
use Rattle.fields.specs.RecordField.{bytes_of, field, id_bytes}
use Rattle.layout_head.specs.declared.Numbers.{Numbers}
use Rattle.layout_head.specs.RecordHead.{in_range, head_fields}

-- ---- the rows

-- A layout that has these numbers: "P fields 10 (.. partition, R rising ids)", an id of 32 bits and never 0.
pub record HasLayout (n : Numbers) (L : Layout) : Type 0 where
  pub partition_rows : length L ≡ 2 ^ n.bits
  pub many : (p : ℕ) → p < length L → length (row L p) ≡ n.replication
  pub ids : (p : ℕ) → p < length L → rising (row L p) ≡ true
  pub words : (p j : ℕ) → get_or (row L p) j 0 < 2 ^ 32

-- "10 (2 + 4R: partition, R rising ids)"
unfoldable pub layout_row_field : ℕ → List ℕ → List ℕ
layout_row_field p r = field 10 (bytes_of 2 p ++ id_bytes r)

-- "partitions 0, 1, 2 and on": the fields of the rows of the partitions p, p + 1 and on.
unfoldable pub layout_row_fields : ℕ → Layout → List ℕ
layout_row_fields p [] = []
layout_row_fields p (r ∷ rs) = layout_row_field p r ++ layout_row_fields (suc p) rs

-- ---- the record

-- "Layout record: 1, 2, then 6, 7, 8, 9, then P fields 10, partitions 0, 1, 2 and on."
unfoldable pub layout_record : Numbers → Layout → List ℕ
layout_record n L = head_fields n ++ layout_row_fields 0 L

-- "Its length is 29 + P times (5 + 4R)."
unfoldable pub record_length : ℕ → ℕ → ℕ
record_length bits replication = 29 + 2 ^ bits * (5 + 4 * replication)

-- s is the record of numbers in their ranges and of a layout that has them.
pub record IsLayoutRecord (s : List ℕ) (n : Numbers) (L : Layout) : Type 0 where
  pub bytes : s ≡ layout_record n L
  pub ranges : in_range n ≡ true
  pub layout : HasLayout n L
