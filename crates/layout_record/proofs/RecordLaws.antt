-- The bytes of a layout record: their number, and one row more.
-- Assumes nothing.
use Prim.Native.Nat.{ℕ, suc, ◌+◌, ◌*◌, ◌≤◌, ◌<◌}
use mathlib.Core.Path.{◌≡◌, sym, ap, ap₂, ◌∙◌}
use mathlib.Core.List.{List, [], ◌∷◌, ◌++◌, append_assoc, append-nil}
use native.Mathlib.Nat.{add-zero, zero-mul, suc-mul, mul-le-mul_right}
use native.Mathlib.Omega.{arith}
use lib.ListN.{length, length-append}
use Rattle.sums.specs.TermsSums.{tab}
use Rattle.cluster.specs.Terms.{Layout, row, row_at, ids_in, rows_in}
use Rattle.fields.specs.RecordField.{bytes_of, id_bytes}
use Rattle.numbers.proofs.Numbers.{length-bytes}
use Rattle.fields.proofs.RecordField.{length-field}
use Rattle.layout_head.specs.declared.Numbers.{Numbers}
use Rattle.layout_head.specs.RecordHead.{head_fields}
use Rattle.layout_rows.specs.RecordLayout.{HasLayout, layout_row_field, layout_row_fields, layout_record, record_length}
use Rattle.id_bytes.proofs.IdBytes.{length-id-bytes}
use Rattle.layout_head.proofs.NumberFields.{length_head}
use native.Mathlib.Numerals.{add-one}

-- A row's field has five bytes and four for each id.
pub length-row : (p : ℕ) (r : List ℕ) → length (layout_row_field p r) ≡ 5 + 4 * length r
unfolding layout_row_field
length-row p r =
    omega (arith, length-field 10 (bytes_of 2 p ++ id_bytes r), length-append (bytes_of 2 p) (id_bytes r), length-bytes 2 p, length-id-bytes r)

-- The fields of some rows, and of one more.
pub rows_snoc : (p : ℕ) (L : Layout) (r : List ℕ) → layout_row_fields p (L ++ (r ∷ [])) ≡ layout_row_fields p L ++ layout_row_field (p + length L) r
unfolding layout_row_fields
rows_snoc p [] r = append-nil (layout_row_field p r) ∙ ap (λ (k : ℕ). layout_row_field k r) (sym (add-zero p))
rows_snoc p (x ∷ L) r =
    let e : suc p + length L ≡ p + suc (length L) = omega arith in
    ap (λ (l : List ℕ). layout_row_field p x ++ l) (rows_snoc (suc p) L r ∙ ap (λ (k : ℕ). layout_row_fields (suc p) L ++ layout_row_field k r) e)
    ∙ sym (append_assoc (layout_row_field p x) (layout_row_fields (suc p) L) (layout_row_field (p + suc (length L)) r))

-- Rows of so many ids each.
pub length-rows : (p R : ℕ) (L : Layout) → ((q : ℕ) → q < length L → length (row L q) ≡ R) → length (layout_row_fields p L) ≡ length L * (5 + 4 * R)
unfolding layout_row_fields
length-rows p R [] h = sym (zero-mul (5 + 4 * R))
length-rows p R (x ∷ L) h =
    omega (
      arith,
      length-append (layout_row_field p x) (layout_row_fields (suc p) L),
      length-row p x,
      h 0 (omega arith),
      length-rows (suc p) R L (λ q l. h (suc q) (omega arith)),
      suc-mul (length L) (5 + 4 * R),
    )

-- "Its length is 29 + P times (5 + 4R)."
pub length_record : (n : Numbers) (L : Layout) → HasLayout n L → length (layout_record n L) ≡ record_length n.bits n.replication
unfolding layout_record record_length
length_record n L h =
    length-append (head_fields n) (layout_row_fields 0 L)
    ∙ ap₂ ◌+◌ (length_head n)
    (length-rows 0 n.replication L h.many ∙ ap (λ (k : ℕ). k * (5 + 4 * n.replication)) h.partition_rows)

-- One row more is read from cells.
pub rows_in-more : (p : ℕ) (cells : List ℕ) → rows_in (p + 1) cells ≡ rows_in p cells ++ (ids_in (row_at cells p) ∷ [])
unfolding rows_in tab
rows_in-more p cells = ap (λ (k : ℕ). tab (λ q. ids_in (row_at cells q)) k) (add-one p)

-- A row that is not the last ends where there are more.
pub row_ends : (p P w : ℕ) → p < P → p * w + w ≤ P * w
row_ends p P w h = omega (arith, suc-mul p w, mul-le-mul_right w h)
