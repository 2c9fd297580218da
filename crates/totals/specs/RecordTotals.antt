-- The totals of a layout record (2026-09), from the format: which ids have one, and the bytes of their fields.
-- Assumes nothing.
use Rattle.std.specs.Prelude.{ℕ, cond, List, [], ◌∷◌, ◌++◌, map, ltb, eqb}
use Rattle.cluster.specs.Terms.{Layout, copies_in}
use Rattle.fields.specs.RecordField.{bytes_of, field}

-- "one for each id in the rows, by rising id": a rising list with an id put in, unless it stands there;
unfoldable pub with_id : ℕ → List ℕ → List ℕ
with_id i [] = i ∷ []
with_id i (x ∷ xs) = cond (ltb i x) (i ∷ x ∷ xs) (x ∷ cond (eqb i x) xs (with_id i xs))

-- with all ids of a row;
unfoldable pub with_ids : List ℕ → List ℕ → List ℕ
with_ids [] l = l
with_ids (i ∷ is) l = with_id i (with_ids is l)

-- the ids of all rows.
unfoldable pub ids_named : Layout → List ℕ
ids_named [] = []
ids_named (r ∷ rs) = with_ids r (ids_named rs)

-- "id (4 bytes, not 0), copies (2, from 1 to 256)"
pub record Total : Type 0 where
  pub id : ℕ
  pub copies : ℕ

abbrev pub total : ℕ → ℕ → Total
total id copies = record { id = id; copies = copies }

-- "how many partitions a box holds": the total of each id.
unfoldable pub totals_of : Layout → List Total
totals_of L = map (λ i. total i (copies_in L i)) (ids_named L)

-- "fields 11 .. : id (4 bytes, not 0), copies (2, from 1 to 256). Each adds nine bytes to the record."
unfoldable pub total_field : Total → List ℕ
total_field t = field 11 (bytes_of 4 t.id ++ bytes_of 2 t.copies)

unfoldable pub total_fields : List Total → List ℕ
total_fields [] = []
total_fields (t ∷ ts) = total_field t ++ total_fields ts
