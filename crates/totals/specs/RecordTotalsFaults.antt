-- Reading the totals of a layout record: the faults and their order, and the copies that they tell (2026-09).
-- Assumes nothing.
use Rattle.std.specs.Prelude.{ℕ, zero, suc, ◌+◌, ◌*◌, Bool, true, false, ◌&&◌, ◌||◌, cond, List, [], ◌∷◌, ◌++◌, ltb, leb, eqb, length}
use Rattle.sums.specs.TermsSums.{tab}
use Rattle.cluster.specs.TermsRefusal.{number_of}
use Rattle.fields.specs.RecordField.{head_width, has, number_at, field_at}
use Rattle.fields.specs.declared.Field.{Field}
use Rattle.fields.specs.declared.Field.TheVariants.{Body, Refused}
use Rattle.totals.specs.RecordTotals.{Total, total}

-- "copies (2, from 1 to 256)"
abbrev pub most_total : ℕ
most_total = 256

-- The total in the body of a field that begins at byte `start`.
abbrev pub total_at : List ℕ → ℕ → Total
total_at s start = total (number_at s start 4) (number_at s (start + 4) 2)

-- "Each adds nine bytes to the record."
abbrev pub total_bytes : ℕ
total_bytes = 9

-- The totals of n fields that stand one after another from byte `from` on.
unfoldable pub totals_at : List ℕ → ℕ → ℕ → List Total
totals_at s from n = tab (λ i. total_at s (from + total_bytes * i + head_width)) n

-- "id (4 bytes, not 0), copies (2, from 1 to 256)": 4 for a value outside its range; "by rising id": 5 for an id not above the last one.
unfoldable pub total_fault : ℕ → Total → ℕ
total_fault last t = cond (eqb t.id 0 || eqb t.copies 0 || ltb most_total t.copies) 4 (cond (ltb last t.id) 0 5)

-- What the fields after field 9 say: the totals with the byte after them, or a refusal with its byte.
pub data TotalsRead : Type 0 where
  totals_end : List Total → ℕ → TotalsRead
  totals_refused : ℕ → ℕ → TotalsRead

-- "a tag 10 allowed there with its three head bytes whole"
unfoldable pub row_begins : List ℕ → ℕ → Bool
row_begins s at = has (length s) at head_width && eqb (number_at s at 1) 10

-- A field 11, and what comes after it.
abbrev pub total_in : (ℕ → Total → TotalsRead) → List ℕ → ℕ → ℕ → Field → TotalsRead
total_in go s at last (Refused refusal byte) = totals_refused (number_of refusal) byte
total_in go s at last (Body tag start len) =
    cond (eqb (total_fault last (total_at s start)) 0) (go (start + len) (total_at s start)) (totals_refused (total_fault last (total_at s start)) at)

-- The totals from byte `at` on, after those of ts, k at most: "stops at a tag 10 allowed there with its three head bytes whole, or at the record's
-- end". As many as there are bytes are enough.
unfoldable pub totals_from : ℕ → List ℕ → ℕ → ℕ → List Total → TotalsRead
totals_from zero s at last ts = totals_end ts at
totals_from (suc k) s at last ts =
    cond (leb (length s) at || row_begins s at) (totals_end ts at)
    (total_in (λ next t. totals_from k s next t.id (ts ++ (t ∷ []))) s at last (field_at s at (11 ∷ []) 0))

-- "The question is then answered from the fields before the first row .. and is 0 for an id without a field."
unfoldable pub copies_for : List Total → ℕ → ℕ
copies_for [] i = 0
copies_for (t ∷ ts) i = cond (eqb t.id i) t.copies (copies_for ts i)

-- Whether two lists of totals are the same.
unfoldable pub same_totals : List Total → List Total → Bool
same_totals [] [] = true
same_totals [] (t ∷ ts) = false
same_totals (u ∷ us) [] = false
same_totals (u ∷ us) (t ∷ ts) = eqb u.id t.id && eqb u.copies t.copies && same_totals us ts
