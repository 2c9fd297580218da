-- The totals that are put, one after another.
-- Assumes nothing.
use Prim.Native.Nat.{ℕ, ◌+◌, ◌*◌, ◌≤◌, ◌<◌}
use mathlib.Core.Path.{◌≡◌, refl, sym, ap, ap₂, ◌∙◌}
use mathlib.Core.Bool.{true}
use mathlib.Core.List.{List, [], ◌∷◌, ◌++◌, append_assoc, append-nil}
use native.Mathlib.Omega.{arith}
use lib.ListN.{length, take, length-append}
use Rattle.cluster.specs.Terms.{row_cells, row_at, formed, rows_in}
use Rattle.fields.specs.RecordField.{bytes_of, written}
use Rattle.numbers.proofs.Numbers.{length-bytes}
use Rattle.numbers.proofs.Written.{length-written, written_none}
use Rattle.fields.proofs.RecordField.{length-field}
use Rattle.fields.proofs.Puts.{put_next, put_body}
use Rattle.totals.specs.ModelTotals.{least_above, count_in}
use Rattle.totals.specs.RecordTotals.{Total, total, ids_named, totals_of, total_field, total_fields}
use Rattle.totals.specs.RecordTotalsFaults.{total_bytes}
use Rattle.totals.proofs.Next.{ours, ours_all, ours_length, ours_none, ours_next}

-- A total: the head of its field, its id, its copies.
pub put-parts : (s a b r : List ℕ) (at id copies : ℕ) → at + total_bytes ≤ length s
    → a ≡ written s at (bytes_of 1 11 ++ bytes_of 2 6) → b ≡ written a (at + 3) (bytes_of 4 id) → r ≡ written b (at + 7) (bytes_of 2 copies)
    → r ≡ written s at (total_field (total id copies))
unfolding total_field
put-parts s a b r at id copies h e1 e2 e3 =
    let la : length a ≡ length s = ap length e1 ∙ length-written s at (bytes_of 1 11 ++ bytes_of 2 6) in
    let seven : at + 3 + 4 ≡ at + 7 = omega arith in
    e3
    ∙ (put_next a b (bytes_of 4 id) (bytes_of 2 copies) (at + 3) 4 (at + 7) e2 (length-bytes 4 id) seven (omega (arith, la, length-bytes 2 copies))
    ∙ put_body s a (bytes_of 4 id ++ bytes_of 2 copies) at 11 6 e1 (omega arith)
    (length-append (bytes_of 4 id) (bytes_of 2 copies) ∙ ap₂ ◌+◌ (length-bytes 4 id) (length-bytes 2 copies)) (omega arith))

length-total : (t : Total) → length (total_field t) ≡ total_bytes
unfolding total_field
length-total t =
    omega (
      arith,
      length-field 11 (bytes_of 4 t.id ++ bytes_of 2 t.copies),
      length-append (bytes_of 4 t.id) (bytes_of 2 t.copies),
      length-bytes 4 t.id,
      length-bytes 2 t.copies,
    )

pub length-totals : (ts : List Total) → length (total_fields ts) ≡ total_bytes * length ts
unfolding total_fields
length-totals [] = refl
length-totals (t ∷ ts) = omega (arith, length-append (total_field t) (total_fields ts), length-total t, length-totals ts)

fields-last : (ts : List Total) (t : Total) → total_fields (ts ++ (t ∷ [])) ≡ total_fields ts ++ total_field t
unfolding total_fields
fields-last [] t = append-nil (total_field t)
fields-last (x ∷ xs) t = ap (λ (l : List ℕ). total_field x ++ l) (fields-last xs t) ∙ sym (append_assoc (total_field x) (total_fields xs) (total_field t))

module _ (cells : List ℕ) (n : ℕ) (shape : (p : ℕ) → p < n → formed (row_at cells p) ≡ true) where
  -- ---- counting

  pub count_none : length (ids_named (rows_in n cells)) ≡ 0 + length (ours cells n shape 0)
  count_none = omega (arith, ours_length cells n shape)

  pub count_next : (k last id : ℕ) → id ≡ least_above last (take (n * row_cells) cells) → (id ≡ 0 → ⊥)
      → length (ids_named (rows_in n cells)) ≡ k + length (ours cells n shape last) → length (ids_named (rows_in n cells)) ≡ k + 1 + length (ours cells n shape id)
  count_next k last id d z e = omega (arith, e, ap length (ours_next cells n shape last id d z))

  pub count_end : (k last id : ℕ) → id ≡ least_above last (take (n * row_cells) cells) → id ≡ 0
      → length (ids_named (rows_in n cells)) ≡ k + length (ours cells n shape last) → k ≡ length (ids_named (rows_in n cells))
  count_end k last id d z e = omega (arith, e, ap length (ours_none cells n shape last id d z))

  -- ---- writing

  -- The totals up to the id `last` are put, from byte `from` up to `at`.
  pub record Put (lent : List ℕ) (from : ℕ) (out : List ℕ) (last at : ℕ) : Type 0 where
    pub done : List Total
    pub all : done ++ ours cells n shape last ≡ totals_of (rows_in n cells)
    pub place : at ≡ from + total_bytes * length done
    pub bytes : out ≡ written lent from (total_fields done)

  pub put-none : (lent : List ℕ) (from : ℕ) → Put lent from lent 0 from
  unfolding total_fields
  put-none lent from = record { done = []; all = ours_all cells n shape; place = omega arith; bytes = written_none lent from }

  module _ {lent : List ℕ} {from : ℕ} {out : List ℕ} {last at : ℕ} (w : Put lent from out last at) where
    whole : length w.done + length (ours cells n shape last) ≡ length (ids_named (rows_in n cells))
    whole =
        sym (length-append w.done (ours cells n shape last)) ∙ (ap length w.all ∙ (ap length (sym (ours_all cells n shape)) ∙ ours_length cells n shape))

    -- There is room for one more, where there is room for all;
    pub put-room : (id room : ℕ) → id ≡ least_above last (take (n * row_cells) cells) → (id ≡ 0 → ⊥)
        → from + total_bytes * length (ids_named (rows_in n cells)) ≤ room → at + total_bytes ≤ room
    put-room id room d z h = omega (arith, w.place, whole, ap length (ours_next cells n shape last id d z))

    -- it is put behind the others;
    pub put-more : (id copies : ℕ) (r : List ℕ) → id ≡ least_above last (take (n * row_cells) cells) → (id ≡ 0 → ⊥) → copies ≡ count_in id (take (n * row_cells) cells)
        → at + total_bytes ≤ length lent → r ≡ written out at (total_field (total id copies)) → Put lent from r id (at + 9)
    put-more id copies r d z c h e =
        let t = total id copies in
        let next : ours cells n shape last ≡ t ∷ ours cells n shape id = ours_next cells n shape last id d z ∙ ap (λ (x : ℕ). total id x ∷ ours cells n shape id) (sym c) in
        record {
          done = w.done ++ (t ∷ []);
          all = append_assoc w.done (t ∷ []) (ours cells n shape id) ∙ (ap (λ (l : List Total). w.done ++ l) (sym next) ∙ w.all);
          place = omega (arith, w.place, length-append w.done (t ∷ []));
          bytes = e
              ∙ (put_next lent out (total_fields w.done) (total_field t) from (total_bytes * length w.done) at w.bytes (length-totals w.done) (sym w.place)
              (omega (arith, length-total t)) ∙ ap (written lent from) (sym (fields-last w.done t)));
        }

    -- and at the end all are put.
    pub put_end : (id : ℕ) → id ≡ least_above last (take (n * row_cells) cells) → id ≡ 0
        → (at ≡ from + total_bytes * length (ids_named (rows_in n cells))) × (out ≡ written lent from (total_fields (totals_of (rows_in n cells))))
    put_end id d z =
        let none = ours_none cells n shape last id d z in
        let same : w.done ≡ totals_of (rows_in n cells) = sym (append-nil w.done) ∙ (ap (λ (l : List Total). w.done ++ l) (sym none) ∙ w.all) in
        (omega (arith, w.place, whole, ap length none), w.bytes ∙ ap (λ (ts : List Total). written lent from (total_fields ts)) same)
