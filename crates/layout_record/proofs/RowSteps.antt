-- The steps of a reading: one row more, the fault that stops it, its end, and what the answers then are.
-- Assumes nothing.
use Prim.Native.Nat.{ℕ, suc, ◌+◌, ◌-◌, ◌*◌, ◌^◌, ◌≤◌, ◌<◌}
use mathlib.Core.Path.{◌≡◌, sym, ap, ap₂, ◌∙◌}
use mathlib.Core.Bool.{Bool, cond}
use mathlib.Core.List.{List, [], ◌∷◌, ◌++◌}
use mathlib.Core.Logic.{⊎_elim}
use native.Mathlib.Omega.{arith}
use lib.Dec.{eqb}
use lib.ListN.{length, drop}
use borrow.Author.Tests.{eq-eqb, ne_eqb, lt-ltb, le-ltb}
use Rattle.sums.proofs.Sum.{lt_or_ge}
use Rattle.cells.specs.ModelCells.{put}
use Rattle.cluster.specs.Terms.{row_cells, buffer_rows, layout_cells, Layout, cells_of, rows_in}
use Rattle.cluster.specs.declared.refusal.Refusal.{Refusal}
use Rattle.cluster.specs.TermsRefusal.{number_of}
use Rattle.fields.specs.RecordField.{number_at, over, ids_at}
use Rattle.fields.specs.declared.Field.{Field}
use Rattle.fields.specs.declared.Field.TheVariants.{Body, Refused}
use Rattle.layout_head.specs.declared.Numbers.{Numbers}
use Rattle.layout_head.specs.RecordHead.{head_table}
use Rattle.layout_rows.specs.RecordLayout.{layout_record, record_length}
use Rattle.layout_head.specs.RecordHeadFaults.{next_field, head_ends, head_refused, head_from}
use Rattle.layout_rows.specs.RecordLayoutFaults.{LayoutRead, layout_refused, layout_row_fault, end_in, row_in, rows_from, rows_after, read_layout, write_fault}
use Rattle.layout_record.specs.RecordLayoutAnswer.{layout_outcome, layout_answer, read_layout_of, assignment_read, write_answer, out_after}
use Rattle.id_bytes.proofs.IdBytes.{length_ids, get_or_ids}
use Rattle.layout_record.proofs.CellsMore.{cells-more}
use Rattle.layout_rows.proofs.RowFaults.{end_whole, end_more}
use Rattle.layout_head.proofs.FieldFaults.{none-refused}

-- ---- the rows

module _ (s : List ℕ) (at : ℕ) (n : Numbers) (L : Layout) (k : ℕ) (some : 0 < k) (f : Field) (read : f ≡ next_field s at 10 (2 + 4 * n.replication)) where
  first : rows_from k s at n L ≡ row_in (λ next M. rows_from (k - 1) s next n M) s at n L f
  unfolding rows_from
  first =
      let e : k ≡ suc (k - 1) = omega arith in
      ap (λ (j : ℕ). rows_from j s at n L) e ∙ ap (row_in (λ next M. rows_from (k - 1) s next n M) s at n L) (sym read)

  -- A field that is not whole stops the reading.
  pub rows_stop : (r : Refusal) (b : ℕ) → f ≡ Refused r b → rows_from k s at n L ≡ layout_refused (number_of r) b
  rows_stop r b e = first ∙ ap (row_in (λ next M. rows_from (k - 1) s next n M) s at n L) e

  module _ (t start len x : ℕ) (whole : f ≡ Body t start len)
      (fault : x ≡ layout_row_fault (2 ^ n.bits) (length L) (number_at s start 2) (ids_at s (start + 2) n.replication)) where
    -- So does a row with a fault.
    pub rows-fault : (x ≡ 0 → ⊥) → rows_from k s at n L ≡ layout_refused x at
    rows-fault h =
        first
        ∙ (ap (row_in (λ next M. rows_from (k - 1) s next n M) s at n L) whole
        ∙ (ap (λ (q : ℕ). cond (eqb q 0) (rows_from (k - 1) s (start + len) n (L ++ (ids_at s (start + 2) n.replication ∷ []))) (layout_refused q at)) (sym fault)
        ∙ simp (ne_eqb x 0 h)))

    -- Else the reading goes on after the row.
    pub rows_on : x ≡ 0 → rows_from k s at n L ≡ rows_from (k - 1) s (start + len) n (L ++ (ids_at s (start + 2) n.replication ∷ []))
    rows_on h =
        first
        ∙ (ap (row_in (λ next M. rows_from (k - 1) s next n M) s at n L) whole
        ∙ (ap (λ (q : ℕ). cond (eqb q 0) (rows_from (k - 1) s (start + len) n (L ++ (ids_at s (start + 2) n.replication ∷ []))) (layout_refused q at)) (sym fault)
        ∙ simp (eq-eqb x 0 h)))

-- No row is left.
pub rows_done : (s : List ℕ) (at : ℕ) (n : Numbers) (L : Layout) (k : ℕ) → k ≡ 0 → rows_from k s at n L ≡ end_in s at n L
unfolding rows_from
rows_done s at n L k e = ap (λ (j : ℕ). rows_from j s at n L) e

-- An end without refusal has the rows.
pub end_layout : (s : List ℕ) (at : ℕ) (n : Numbers) (L : Layout) → (end_in s at n L).refusal ≡ 0 → (end_in s at n L).layout ≡ L
end_layout s at n L h =
    ⊎_elim (λ l. absurd (omega (arith, none-refused s at 0, ap (λ (o : LayoutRead). o.refusal) (end_more s at n L l))))
    (λ g. ap (λ (o : LayoutRead). o.layout) (end_whole s at n L g)) (lt_or_ge at (length s))

-- The ids of a row that is read go into its cells.
pub cells-next : (s cells : List ℕ) (L : Layout) (next start count : ℕ) → length L ≡ next → next < buffer_rows → count ≤ row_cells → cells ≡ cells_of L
    → put (next * row_cells) (λ j. number_at s (start + 4 * j) 4) count cells ≡ cells_of (L ++ (ids_at s start count ∷ []))
cells-next s cells L next start count e inside few c =
    let f : (ℕ → ℕ) = λ j. number_at s (start + 4 * j) 4 in
    let long : length (ids_at s start count) ≡ count = length_ids s start count in
    ap (put (next * row_cells) f count) c
    ∙ (ap₂ (λ (p m : ℕ). put (p * row_cells) f m (cells_of L)) (sym e) (sym long)
    ∙ cells-more L (ids_at s start count) f (omega arith) (omega arith) (λ j l. get_or_ids s start count j (omega arith)))

-- ---- the whole reading

pub read-halted : (s : List ℕ) (r b : ℕ) → head_from head_table s 0 [] ≡ head_refused r b → read_layout s ≡ layout_refused r b
unfolding read_layout
read-halted s r b e = ap (rows_after s) e

pub read-on : (s : List ℕ) (n : Numbers) (end : ℕ) → head_from head_table s 0 [] ≡ head_ends n end → read_layout s ≡ rows_from (2 ^ n.bits) s end n []
unfolding read_layout
read-on s n end e = ap (rows_after s) e

-- ---- the answers of reading

module _ (s cells : List ℕ) where
  outcome_short : length cells < layout_cells → layout_outcome s cells ≡ layout_refused 8 0
  unfolding layout_outcome
  outcome_short h = simp (lt-ltb (length cells) layout_cells h)

  outcome_long : layout_cells ≤ length cells → layout_outcome s cells ≡ read_layout s
  unfolding layout_outcome
  outcome_long h = simp (le-ltb (length cells) layout_cells h)

  -- A buffer that is too short is refused, and keeps its cells.
  pub read_short : length cells < layout_cells → read_layout_of s cells ≡ layout_answer (layout_refused 8 0)
  unfolding read_layout_of
  read_short h = ap layout_answer (outcome_short h)

  pub short_kept : length cells < layout_cells → assignment_read s cells ≡ cells
  unfolding assignment_read
  short_kept h =
      ap (λ (o : LayoutRead). cond (eqb o.refusal 0) (cells_of o.layout ++ drop layout_cells cells) cells) (outcome_short h)

  -- A buffer that is long enough has what the record says.
  pub read_long : layout_cells ≤ length cells → read_layout_of s cells ≡ layout_answer (read_layout s)
  unfolding read_layout_of
  read_long h = ap layout_answer (outcome_long h)

  pub long_set : layout_cells ≤ length cells → (read_layout s).refusal ≡ 0 → assignment_read s cells ≡ cells_of (read_layout s).layout ++ drop layout_cells cells
  unfolding assignment_read
  long_set h e =
      ap (λ (o : LayoutRead). cond (eqb o.refusal 0) (cells_of o.layout ++ drop layout_cells cells) cells) (outcome_long h)
      ∙ simp (eq-eqb (read_layout s).refusal 0 e)

  pub long_kept : layout_cells ≤ length cells → ((read_layout s).refusal ≡ 0 → ⊥) → assignment_read s cells ≡ cells
  unfolding assignment_read
  long_kept h e =
      ap (λ (o : LayoutRead). cond (eqb o.refusal 0) (cells_of o.layout ++ drop layout_cells cells) cells) (outcome_long h)
      ∙ simp (ne_eqb (read_layout s).refusal 0 e)

-- ---- the answers of writing

module _ (n : Numbers) (cells out : List ℕ) where
  pub write-refused : (write_fault n cells (length out) ≡ 0 → ⊥)
      → (write_answer n cells out ≡ record { refusal = write_fault n cells (length out); length = 0 }) × (out_after n cells out ≡ out)
  unfolding write_answer out_after
  write-refused h =
      let t = ne_eqb (write_fault n cells (length out)) 0 h in (
        ap (λ (b : Bool). record { refusal = write_fault n cells (length out); length = cond b (record_length n.bits n.replication) 0 }) t,
        ap (λ (b : Bool). cond b (over (layout_record n (rows_in (2 ^ n.bits) cells)) out) out) t,
      )

  pub write_accepted : write_fault n cells (length out) ≡ 0
      → (write_answer n cells out ≡ record { refusal = 0; length = record_length n.bits n.replication })
      × (out_after n cells out ≡ over (layout_record n (rows_in (2 ^ n.bits) cells)) out)
  unfolding write_answer out_after
  write_accepted e = (
    ap (λ (k : ℕ). record { refusal = k; length = cond (eqb k 0) (record_length n.bits n.replication) 0 }) e,
    ap (λ (k : ℕ). cond (eqb k 0) (over (layout_record n (rows_in (2 ^ n.bits) cells)) out) out) e,
  )
