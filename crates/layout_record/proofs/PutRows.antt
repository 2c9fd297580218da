-- Rows that are put one after the other, and the whole record.
-- Assumes nothing.
use Prim.Native.Nat.{ℕ, ◌+◌, ◌-◌, ◌*◌, ◌^◌, ◌≤◌, ◌<◌}
use mathlib.Core.Path.{◌≡◌, refl, sym, ap, ap₂, ◌∙◌, subst}
use mathlib.Core.Bool.{true}
use mathlib.Core.List.{List, ◌++◌}
use native.Mathlib.Nat.{suc-mul}
use native.Mathlib.Numerals.{add-one}
use native.Mathlib.Omega.{arith}
use lib.ListN.{length, take, drop, replicate, length-append, length-drop}
use lib.Seq.{take_at, take-take, length-take-le}
use Rattle.cluster.specs.Terms.{row_cells, buffer_rows, Layout, row_at, ids_in, formed_from, formed, rows_in}
use Rattle.cell_rows.proofs.CellRows.{formed-cells}
use Rattle.cell_rows.proofs.CellLayouts.{length-rows_in, row-rows_in}
use Rattle.fields.specs.RecordField.{bytes_of, written, over, id_bytes}
use Rattle.numbers.proofs.Numbers.{length-bytes}
use Rattle.numbers.proofs.Written.{written_over, length-written}
use Rattle.id_bytes.proofs.IdBytes.{length-id-bytes}
use Rattle.layout_head.specs.declared.Numbers.{Numbers}
use Rattle.layout_head.specs.RecordHead.{head_fields}
use Rattle.layout_rows.specs.RecordLayout.{layout_row_field, layout_row_fields, layout_record, record_length}
use Rattle.layout_rows.specs.RecordLayoutFaults.{row_fits, rows_fit}
use Rattle.fields.proofs.Puts.{put_next, put_body}
use Rattle.layout_head.proofs.NumberFields.{few_bits, length_head}
use Rattle.layout_record.proofs.RecordLaws.{length-row, rows_snoc, length-rows, rows_in-more}
use Rattle.layout_rows.proofs.RowFaults.{fits-formed, Writable}
use Rattle.cluster.proofs.Accepting.{few_partitions}
use Rattle.sums.proofs.Tests.{every-at}

-- A row: the head of its field, its partition, its ids.
pub put-parts : (s a b r ids : List ℕ) (at p count : ℕ) → length ids ≡ count → at + 5 + 4 * count ≤ length s
    → a ≡ written s at (bytes_of 1 10 ++ bytes_of 2 (2 + 4 * count)) → b ≡ written a (at + 3) (bytes_of 2 p) → r ≡ written b (at + 5) (id_bytes ids)
    → r ≡ written s at (layout_row_field p ids)
unfolding layout_row_field
put-parts s a b r ids at p count k h e1 e2 e3 =
    let la : length a ≡ length s = ap length e1 ∙ length-written s at (bytes_of 1 10 ++ bytes_of 2 (2 + 4 * count)) in
    let li : length (id_bytes ids) ≡ 4 * count = length-id-bytes ids ∙ ap (λ (n : ℕ). 4 * n) k in
    let five : at + 3 + 2 ≡ at + 5 = omega arith in
    e3
    ∙ (put_next a b (bytes_of 2 p) (id_bytes ids) (at + 3) 2 (at + 5) e2 (length-bytes 2 p) five (omega arith)
    ∙ put_body s a (bytes_of 2 p ++ id_bytes ids) at 10 (2 + 4 * count) e1 (omega arith)
    (length-append (bytes_of 2 p) (id_bytes ids) ∙ ap₂ ◌+◌ (length-bytes 2 p) li) (omega arith))

-- The first cells of a formed row with so many ids are its ids.
pub take_ids : (k count : ℕ) (l : List ℕ) → formed_from k l ≡ true → length (ids_in l) ≡ count → take count l ≡ ids_in l
take_ids k count l h e =
    ap (take count) (formed-cells k l h) ∙ take_at (ids_in l) (replicate (length l - length (ids_in l)) 0) count e

-- One row further on.
pub next-at : (p w : ℕ) → p * w + w ≡ (p + 1) * w
next-at p w = sym (suc-mul p w) ∙ ap (λ (k : ℕ). k * w) (sym (add-one p))

-- The parts of a row, with its ids as they stand in the cells.
pub put-cells : (s a b r cells : List ℕ) (at p count : ℕ) → p * row_cells + row_cells ≤ length cells → count ≤ row_cells → at + 5 + 4 * count ≤ length s
    → a ≡ written s at (bytes_of 1 10 ++ bytes_of 2 (2 + 4 * count)) → b ≡ written a (at + 3) (bytes_of 2 p)
    → r ≡ written b (at + 5) (id_bytes (take count (drop (p * row_cells) cells)))
    → r ≡ written s at (layout_row_field p (take count (row_at cells p)))
put-cells s a b r cells at p count h few room e1 e2 e3 =
    let l = drop (p * row_cells) cells in
    put-parts s a b r (take count l) at p count (length-take-le count l (omega (arith, length-drop (p * row_cells) cells))) room e1 e2 e3
    ∙ ap (λ (x : List ℕ). written s at (layout_row_field p x)) (sym (take-take count row_cells l few))

-- Cells whose rows fit.
module _ (cells : List ℕ) (P count : ℕ) (few : P ≤ buffer_rows) (fit : rows_fit cells P count ≡ true) where
  row-fit : (p : ℕ) → p < P → (formed (row_at cells p) ≡ true) × (length (ids_in (row_at cells p)) ≡ count)
  unfolding rows_fit
  row-fit p h = fits-formed cells P count p h (every-at buffer_rows p (row_fits cells P count) fit (omega arith))

  -- The fields of its first rows.
  pub length-first : (p : ℕ) → p ≤ P → length (layout_row_fields 0 (rows_in p cells)) ≡ p * (5 + 4 * count)
  length-first p h =
      length-rows 0 count (rows_in p cells)
      (λ q l. let k : q < p = subst (λ (m : ℕ). q < m) (length-rows_in p cells) l in ap length (row-rows_in p cells q k) ∙ (row-fit q (omega arith)).1)
      ∙ ap (λ (k : ℕ). k * (5 + 4 * count)) (length-rows_in p cells)

  -- One row more is put.
  pub put-row-next : (s r x : List ℕ) (at p : ℕ) → p < P → r ≡ written s 29 (layout_row_fields 0 (rows_in p cells)) → at ≡ 29 + p * (5 + 4 * count)
      → at + 5 + 4 * count ≤ length s → x ≡ written r at (layout_row_field p (take count (row_at cells p)))
      → x ≡ written s 29 (layout_row_fields 0 (rows_in (p + 1) cells))
  put-row-next s r x at p h e a room f =
      let ids = ids_in (row_at cells p) in
      let right = row-fit p h in
      let place : p ≡ 0 + length (rows_in p cells) = omega (arith, length-rows_in p cells) in
      let same : take count (row_at cells p) ≡ ids = take_ids 0 count (row_at cells p) right.0 right.1 in
      f
      ∙ (ap (λ (l : List ℕ). written r at (layout_row_field p l)) same
      ∙ (put_next s r (layout_row_fields 0 (rows_in p cells)) (layout_row_field p ids) 29 (p * (5 + 4 * count)) at e (length-first p (omega arith)) (sym a)
      (omega (arith, length-row p ids, right.1))
      ∙ ap (written s 29)
      (ap (λ (q : ℕ). layout_row_fields 0 (rows_in p cells) ++ layout_row_field q ids) place
      ∙ (sym (rows_snoc 0 (rows_in p cells) ids) ∙ ap (layout_row_fields 0) (sym (rows_in-more p cells))))))

-- The numbers, and then the rows, make the record.
pub put_whole : (s r x : List ℕ) (n : Numbers) (L : Layout) → r ≡ written s 0 (head_fields n) → x ≡ written r 29 (layout_row_fields 0 L)
    → 29 + length (layout_row_fields 0 L) ≤ length s → x ≡ over (layout_record n L) s
unfolding layout_record
put_whole s r x n L e f h =
    f
    ∙ (put_next s r (head_fields n) (layout_row_fields 0 L) 0 29 29 e (length_head n) refl h
    ∙ written_over s 0 (head_fields n ++ layout_row_fields 0 L) (omega (arith, length-append (head_fields n) (layout_row_fields 0 L), length_head n)))

-- Where a record can be written there is room for its numbers, for its rows, and for both.
module _ (n : Numbers) (cells : List ℕ) (room : ℕ) where
  pub head_room : Writable n cells room → 29 ≤ room
  unfolding record_length
  head_room w = omega (arith, w.long)

  module _ (P : ℕ) (e : P ≡ 2 ^ n.bits) (w : Writable n cells room) where
    pub rows-room : 29 + P * (5 + 4 * n.replication) ≤ room
    unfolding record_length
    rows-room = omega (arith, w.long, ap (λ (k : ℕ). k * (5 + 4 * n.replication)) e)

    pub whole_room : 29 + length (layout_row_fields 0 (rows_in P cells)) ≤ room
    whole_room =
        let few : P ≤ buffer_rows = omega (arith, few_partitions n.bits (few_bits n w.fit)) in
        omega (arith, rows-room, length-first cells P n.replication few (ap (λ (k : ℕ). rows_fit cells k n.replication) e ∙ w.rows) P (omega arith))
