-- The scans of one row of cells, over plain lists, and what the answers tell of the row.
-- Assumes nothing.
use Prim.Native.Nat.{ℕ, suc, ◌+◌, ◌-◌, ◌*◌, ◌^◌, ◌≤◌, ◌<◌}
use mathlib.Core.Path.{◌≡◌, refl, sym, ap, ap₂, ◌∙◌}
use mathlib.Core.Bool.{Bool, true, false, ◌&&◌, and-false, cond}
use mathlib.Core.List.{List, []}
use native.Mathlib.Nat.{zero-add, add-zero}
use native.Mathlib.Omega.{arith}
use lib.Dec.{ltb, leb, eqb}
use lib.ListN.{length, take, drop, get_or}
use borrow.Author.Tests.{eq-eqb, ne_eqb, lt-ltb, le-ltb, le-leb, lt-leb}
use Rattle.cells.proofs.Cells.{rest_cons}
use Rattle.cluster.specs.Terms.{row_cells, buffer_rows, layout_cells, wide_row_cells, row_at, ids_in, blank, formed_from, formed}
use Rattle.cell_rows.specs.ModelRows.{HoldsRows, ill_formed, has_row, id_count, row_ids}
use Rattle.std.specs.Prelude.{Option, None, Some, unwrap_or, is_some, IfSome}
use Rattle.std.specs.Option.{option_eq}
use Rattle.cell_rows.proofs.CellRows.{blank-ids, blank-formed, ids-length}

-- What the scan of a row answers that has passed `count` ids, `last` the last of them, and has l before it.
unfoldable pub scan : ℕ → ℕ → List ℕ → ℕ
scan last count l = cond (formed_from last l) (count + length (ids_in l)) ill_formed

-- What stands for the last id once there was a 0: above every id.
abbrev pub no_more : ℕ
no_more = 2 ^ 64 - 1

-- The same of a scan that goes on after a 0, where only zeros may follow.
unfoldable pub onward : ℕ → ℕ → List ℕ → ℕ
onward last count l = cond (eqb last no_more) (cond (blank l) count ill_formed) (scan last count l)

-- A row is asked by scanning it from its start.
pub onward_start : (l : List ℕ) → id_count l ≡ onward 0 0 l
unfolding onward scan id_count
onward_start l = ap (λ (n : ℕ). cond (formed l) n ill_formed) (sym (zero-add (length (ids_in l))))

-- A scan that has only zeros before it has passed all ids.
pub scan-blank : (last count : ℕ) (l : List ℕ) → blank l ≡ true → scan last count l ≡ count
unfolding scan
scan-blank last count l h =
    ap₂ (λ (t : Bool) (r : List ℕ). cond t (count + length r) ill_formed) (blank-formed last l h) (blank-ids l h) ∙ add-zero count

-- At the end all ids are passed.
pub onward_end : (last count : ℕ) (l : List ℕ) → l ≡ [] → onward last count l ≡ count
unfolding onward blank
onward_end last count l e = ap (λ (r : List ℕ). onward last count r) e ∙ go (eqb last no_more)
  where
    go : (t : Bool) → cond t count (scan last count []) ≡ count
    go true = refl
    go false = scan-blank last count [] refl

module _ (l : List ℕ) (n i : ℕ) (inside : i < n) (long : n ≤ length l) where
  -- A cell that is not 0: the cells are not blank.
  pub id_not_blank : (get_or l i 0 ≡ 0 → ⊥) → blank (take (n - i) (drop i l)) ≡ false
  unfolding blank
  id_not_blank h =
      ap (λ (r : List ℕ). blank r) (rest_cons l n i 0 inside long)
      ∙ ap (λ (t : Bool). t && blank (take (n - (i + 1)) (drop (i + 1) l))) (ne_eqb (get_or l i 0) 0 h)

  -- A cell that is 0: the cells are blank where the others are.
  pub zero_blank : get_or l i 0 ≡ 0 → blank (take (n - i) (drop i l)) ≡ blank (take (n - (i + 1)) (drop (i + 1) l))
  unfolding blank
  zero_blank e =
      ap (λ (r : List ℕ). blank r) (rest_cons l n i 0 inside long)
      ∙ ap (λ (t : Bool). t && blank (take (n - (i + 1)) (drop (i + 1) l))) (eq-eqb (get_or l i 0) 0 e)

  -- A 0: the scan goes on, and only zeros may follow.
  pub onward_zero : (last count : ℕ) → get_or l i 0 ≡ 0
      → onward last count (take (n - i) (drop i l)) ≡ onward no_more count (take (n - (i + 1)) (drop (i + 1) l))
  unfolding onward scan formed_from ids_in
  onward_zero last count e = go (eqb last no_more)
    where
      go : (t : Bool) → cond t (cond (blank (take (n - i) (drop i l))) count ill_formed) (scan last count (take (n - i) (drop i l)))
          ≡ cond (blank (take (n - (i + 1)) (drop (i + 1) l))) count ill_formed
      go true = ap (λ (t : Bool). cond t count ill_formed) (zero_blank e)
      go false = ap (λ (r : List ℕ). scan last count r) (rest_cons l n i 0 inside long) ∙ simp (eq-eqb (get_or l i 0) 0 e, add-zero count)

  -- An id not above the last: ill formed.
  pub scan_falls : (last count : ℕ) → (get_or l i 0 ≡ 0 → ⊥) → get_or l i 0 ≤ last → scan last count (take (n - i) (drop i l)) ≡ ill_formed
  unfolding scan formed_from
  scan_falls last count h k =
      ap (λ (r : List ℕ). scan last count r) (rest_cons l n i 0 inside long) ∙ simp (ne_eqb (get_or l i 0) 0 h, le-ltb last (get_or l i 0) k)

  -- An id above the last: the scan goes on from it.
  pub scan_rises : (last count : ℕ) → (get_or l i 0 ≡ 0 → ⊥) → last < get_or l i 0
      → scan last count (take (n - i) (drop i l)) ≡ scan (get_or l i 0) (count + 1) (take (n - (i + 1)) (drop (i + 1) l))
  unfolding scan formed_from ids_in
  scan_rises last count h k =
      let r : List ℕ = take (n - (i + 1)) (drop (i + 1) l) in
      let e : count + suc (length (ids_in r)) ≡ count + 1 + length (ids_in r) = omega arith in
      ap (λ (r : List ℕ). scan last count r) (rest_cons l n i 0 inside long)
      ∙ simp (ne_eqb (get_or l i 0) 0 h, lt-ltb last (get_or l i 0) k, e)

  -- The same of a scan that goes on after a 0, which no id is above.
  module _ (last count : ℕ) (some : get_or l i 0 ≡ 0 → ⊥) where
    pub onward_falls : get_or l i 0 ≤ last → onward last count (take (n - i) (drop i l)) ≡ ill_formed
    unfolding onward
    onward_falls h = go (eqb last no_more)
      where
        go : (t : Bool) → cond t (cond (blank (take (n - i) (drop i l))) count ill_formed) (scan last count (take (n - i) (drop i l))) ≡ ill_formed
        go true = ap (λ (t : Bool). cond t count ill_formed) (id_not_blank some)
        go false = scan_falls last count some h

    pub onward_rises : last < get_or l i 0 → get_or l i 0 < no_more
        → onward last count (take (n - i) (drop i l)) ≡ onward (get_or l i 0) (count + 1) (take (n - (i + 1)) (drop (i + 1) l))
    unfolding onward
    onward_rises h k =
        ap (λ (t : Bool). cond t (cond (blank (take (n - i) (drop i l))) count ill_formed) (scan last count (take (n - i) (drop i l))))
        (ne_eqb last no_more (λ e. omega arith))
        ∙ (scan_rises last count some h
        ∙ sym (ap (λ (t : Bool). cond t (cond (blank (take (n - (i + 1)) (drop (i + 1) l))) (count + 1) ill_formed)
        (scan (get_or l i 0) (count + 1) (take (n - (i + 1)) (drop (i + 1) l))))
        (ne_eqb (get_or l i 0) no_more (λ e. omega arith))))

-- ---- what the answers tell

-- There is an answer where the number that is told is not ill_formed,
pub some-told : (answer : Option ℕ) (n : ℕ) → unwrap_or answer ill_formed ≡ n → IfSome answer (λ k. k < ill_formed) → is_some answer ≡ ltb n ill_formed
some-told None n e h = sym (le-ltb n ill_formed (omega arith))
some-told (Some k) n e h = sym (lt-ltb n ill_formed (omega arith))

-- and it is a number below ill_formed where that number is told.
pub same-told : (answer : Option ℕ) (n k : ℕ) → unwrap_or answer ill_formed ≡ n → k < ill_formed → option_eq eqb answer (Some k) ≡ eqb n k
same-told None n k e h = sym (ne_eqb n k (λ q. omega arith))
same-told (Some j) n k e h = ap (λ (i : ℕ). eqb i k) e

-- A row of no more cells than the widest has is answered by less than ill_formed exactly where it is rising ids followed by zeros.
pub count-formed : (l : List ℕ) → length l ≤ wide_row_cells → ltb (id_count l) ill_formed ≡ formed l
unfolding id_count
count-formed l h = go (formed l)
  where
    go : (t : Bool) → ltb (cond t (length (ids_in l)) ill_formed) ill_formed ≡ t
    go true = lt-ltb (length (ids_in l)) ill_formed (omega (arith, ids-length l))
    go false = le-ltb ill_formed ill_formed (omega arith)

module _ (cells : List ℕ) (p : ℕ) where
  -- Past the rows of a buffer there is no row.
  pub row_out : buffer_rows ≤ p → has_row cells p ≡ false
  row_out h = ap (λ (t : Bool). t && leb (p * row_cells + row_cells) (length cells)) (le-ltb p buffer_rows h)

  -- Cells that end before the row does do not have it whole.
  pub row_short : length cells < p * row_cells + row_cells → has_row cells p ≡ false
  row_short h =
      ap (λ (t : Bool). ltb p buffer_rows && t) (lt-leb (p * row_cells + row_cells) (length cells) h) ∙ and-false (ltb p buffer_rows)

  -- Cells that reach past a row of a buffer have it whole.
  pub row_whole : p < buffer_rows → p * row_cells + row_cells ≤ length cells → has_row cells p ≡ true
  row_whole h k = ap₂ ◌&&◌ (lt-ltb p buffer_rows h) (le-leb (p * row_cells + row_cells) (length cells) k)

  -- An answer other than ill_formed: the row is there, is rising ids followed by zeros, and has as many ids.
  pub row-ids-formed : row_ids cells p < ill_formed
      → (has_row cells p ≡ true) × (formed (row_at cells p) ≡ true) × (length (ids_in (row_at cells p)) ≡ row_ids cells p)
  unfolding row_ids id_count
  row-ids-formed h = go (has_row cells p) (formed (row_at cells p)) refl refl h
    where
      go : (s t : Bool) → has_row cells p ≡ s → formed (row_at cells p) ≡ t → cond s (cond t (length (ids_in (row_at cells p))) ill_formed) ill_formed < ill_formed
          → (has_row cells p ≡ true) × (formed (row_at cells p) ≡ true) × (length (ids_in (row_at cells p)) ≡ cond s (cond t (length (ids_in (row_at cells p))) ill_formed) ill_formed)
      go true true d e k = (d, e, refl)
      go true false d e k = absurd (omega arith)
      go false t d e k = absurd (omega arith)

  -- A row that is there and is rising ids followed by zeros is answered by the number of its ids.
  pub formed-row-ids : has_row cells p ≡ true → formed (row_at cells p) ≡ true → row_ids cells p ≡ length (ids_in (row_at cells p))
  unfolding row_ids id_count
  formed-row-ids d e = ap₂ (λ (s t : Bool). cond s (cond t (length (ids_in (row_at cells p))) ill_formed) ill_formed) d e

  -- A row that is not rising ids followed by zeros is answered by ill_formed.
  pub ill_row-ids : formed (row_at cells p) ≡ false → row_ids cells p ≡ ill_formed
  unfolding row_ids id_count
  ill_row-ids e = go (has_row cells p)
    where
      go : (s : Bool) → cond s (cond (formed (row_at cells p)) (length (ids_in (row_at cells p))) ill_formed) ill_formed ≡ ill_formed
      go true = ap (λ (t : Bool). cond t (length (ids_in (row_at cells p))) ill_formed) e
      go false = refl

-- Cells of a whole buffer have each of its rows.
pub row_of_buffer : (cells : List ℕ) (p : ℕ) → layout_cells ≤ length cells → p < buffer_rows → has_row cells p ≡ true
row_of_buffer cells p w h = row_whole cells p h (omega arith)

-- Of cells that hold n rows, each of these is answered by the number of its ids.
pub hold-ids : (n : ℕ) (cells : List ℕ) → HoldsRows n cells → (p : ℕ) → p < n → row_ids cells p ≡ length (ids_in (row_at cells p))
hold-ids n cells h p l = formed-row-ids cells p (row_of_buffer cells p h.whole (omega arith)) (h.ids p l)
