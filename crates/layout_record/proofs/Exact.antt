-- What reading and writing achieve, of the definitions that the contracts of `read_layout` and `write_layout` cite: a layout record is read
-- exactly where the bytes are one, a record is written exactly where there is a layout to write, and both ways round nothing is lost.
-- Assumes nothing.
use Prim.Native.Nat.{ℕ, ◌+◌, ◌-◌, ◌*◌, ◌^◌, ◌≤◌, ◌<◌}
use mathlib.Core.Path.{◌≡◌, refl, sym, ap, ap₂, ◌∙◌, subst}
use mathlib.Core.Bool.{true}
use mathlib.Core.List.{List, [], ◌++◌}
use mathlib.Core.Logic.{⊎_elim}
use native.Mathlib.Omega.{arith}
use lib.ListN.{length, take, drop, get_or, length-append, length-take, get_or-eq_default}
use lib.Seq.{take_at}
use Rattle.sums.proofs.Sum.{lt_or_ge}
use Rattle.cluster.specs.Terms.{row_cells, buffer_rows, layout_cells, Layout, row, rising, cells_of, row_at, ids_in, formed, blank, rows_in}
use Rattle.cell_rows.specs.ModelRows.{FitsCells, HoldsRows}
use Rattle.cell_rows.proofs.CellRows.{formed-rising, rising-ids}
use Rattle.cell_rows.proofs.CellLayouts.{get_or_row_at, row_at_take, length-rows_in, row-rows_in, length-cells_of, row_at-cells_of, rows_in_take, rows_in-cells_of, holds-cells_of, id-rows_in, cells_of-rows_in}
use Rattle.fields.specs.RecordField.{Bytes, over}
use Rattle.layout_head.specs.declared.Numbers.{Numbers}
use Rattle.layout_head.specs.RecordHead.{head_table, in_range, head_fields}
use Rattle.layout_rows.specs.RecordLayout.{HasLayout, layout_row_fields, layout_record, record_length, IsLayoutRecord}
use Rattle.layout_head.specs.RecordHeadFaults.{HeadRead, head_ends, head_refused, head_from}
use Rattle.layout_rows.specs.RecordLayoutFaults.{LayoutRead, layout_accepted, rows_from, read_layout, row_fits, rows_fit, write_fault}
use Rattle.layout_record.specs.RecordLayoutAnswer.{ReadLayout, Written, layout_answer, read_layout_of, assignment_read, write_answer, out_after}
use Rattle.layout_record.proofs.RecordLaws.{length_record}
use Rattle.layout_record.specs.RecordLayoutClaims.{Words, WasRecord, ReadsLayout, WasRead, CanWrite, WritesLayout, WasWritten}
use Rattle.layout_head.proofs.NumberFields.{few_bits, few_copies}
use Rattle.layout_head.proofs.HeadExact.{head_refused_lem, head_back, head_found}
use Rattle.layout_record.proofs.RowsExact.{rows_back, rows-found}
use Rattle.cluster.proofs.Accepting.{few_partitions}
use Rattle.layout_rows.proofs.RowFaults.{fits-formed, fits_zero, formed-fits, zero_fits, Writable, no_fault, write-none}
use Rattle.sums.proofs.Tests.{every-at, every-all}
use Rattle.layout_record.proofs.RowSteps.{read-halted, read-on, read_short, read_long, long_set, write_accepted}

-- ---- reading

-- A reading without refusal read a record.
pub accepts : (s : List ℕ) → Bytes s → (read_layout s).refusal ≡ 0 → WasRecord s
unfolding layout_record
accepts s b z = go (head_from head_table s 0 []) refl
  where
    go : (h : HeadRead) → head_from head_table s 0 [] ≡ h → WasRecord s
    go (head_refused r y) e = absurd (omega (arith, head_refused_lem s r y e, ap (λ (o : LayoutRead). o.refusal) (read-halted s r y e)))
    go (head_ends n end) e =
        let on = read-on s n end e in
        let r = rows_back s b n (2 ^ n.bits) end [] (sym (ap (λ (o : LayoutRead). o.refusal) on) ∙ z) in
        let h = head_back s n end b e in
        record {
          numbers = n;
          layout = r.rows;
          outcome = on ∙ r.outcome;
          is = record {
            bytes = h.0 ∙ ap (λ (l : List ℕ). head_fields n ++ l) r.bytes;
            ranges = h.1;
            layout = record { partition_rows = r.count; many = r.right.many; ids = r.right.ids; words = r.right.words };
          };
        }

-- The record of numbers in range and of a layout that has them is accepted, with those numbers and that layout.
pub accepted_record : (s : List ℕ) (n : Numbers) (L : Layout) → IsLayoutRecord s n L → read_layout s ≡ layout_accepted n L
unfolding layout_record
accepted_record s n L i =
    let h = head_found s (layout_row_fields 0 L) n i.bytes i.ranges in
    let l = i.layout in
    read-on s n 29 h.0
    ∙ (ap (λ (k : ℕ). rows_from k s 29 n []) (sym l.partition_rows)
    ∙ rows-found s n (few_copies n i.ranges).1 (few_copies n i.ranges).0 (few_partitions n.bits (few_bits n i.ranges)) L [] 29 h.1
    (omega (arith, l.partition_rows)) (record { many = l.many; ids = l.ids; words = l.words }))

-- Reading accepts bytes with numbers n and layout L exactly where the bytes are their record, the numbers are in range and the layout has them.
pub reads_exactly : (s : List ℕ) → Bytes s → (n : Numbers) (L : Layout)
    → (read_layout s ≡ layout_accepted n L → IsLayoutRecord s n L) × (IsLayoutRecord s n L → read_layout s ≡ layout_accepted n L)
reads_exactly s b n L = (
  λ e. let a = accepts s b (ap (λ (o : LayoutRead). o.refusal) e) in
      let same : layout_accepted a.numbers a.layout ≡ layout_accepted n L = sym a.outcome ∙ e in
      subst (λ (m : Numbers). IsLayoutRecord s m L) (ap (λ (o : LayoutRead). o.numbers) same)
      (subst (λ (M : Layout). IsLayoutRecord s a.numbers M) (ap (λ (o : LayoutRead). o.layout) same) a.is),
  λ i. accepted_record s n L i,
)

-- A record is read into a buffer that is long enough.
pub reads_record : (s cells : List ℕ) (n : Numbers) (L : Layout) → layout_cells ≤ length cells → IsLayoutRecord s n L → ReadsLayout s cells n L
unfolding layout_answer
reads_record s cells n L h i =
    let e = accepted_record s n L i in
    record {
      answer = read_long s cells h ∙ ap layout_answer e;
      after =
          long_set s cells h (ap (λ (o : LayoutRead). o.refusal) e)
          ∙ ap (λ (o : LayoutRead). cells_of o.layout ++ drop layout_cells cells) e;
    }

-- And whatever is answered without refusal was a record, in a buffer that is long enough.
pub record_read : (s cells : List ℕ) → Bytes s → (read_layout_of s cells).refusal ≡ 0 → WasRead s cells
unfolding layout_answer
record_read s cells b z =
    ⊎_elim (λ l. absurd (omega (arith, z, ap (λ (r : ReadLayout). r.refusal) (read_short s cells l))))
    (λ g. let a = accepts s b (sym (ap (λ (r : ReadLayout). r.refusal) (read_long s cells g)) ∙ z) in
    let n : a.numbers ≡ (read_layout_of s cells).numbers =
    sym (ap (λ (r : ReadLayout). r.numbers) (read_long s cells g) ∙ ap (λ (o : LayoutRead). o.numbers) a.outcome) in
    let i = subst (λ (m : Numbers). IsLayoutRecord s m a.layout) n a.is in
    record { layout = a.layout; whole = g; is = i; reads = reads_record s cells (read_layout_of s cells).numbers a.layout g i })
    (lt_or_ge (length cells) layout_cells)

-- ---- writing

-- A layout with the numbers of a record fits into cells.
fits-cells : (n : Numbers) (L : Layout) → in_range n ≡ true → HasLayout n L → FitsCells L
fits-cells n L r h = record {
  few_rows = omega (arith, h.partition_rows, few_partitions n.bits (few_bits n r));
  ids = h.ids;
  few = λ p l. omega (arith, h.many p l, (few_copies n r).1);
}

-- The rows of cells that are those of a layout pass their tests.
rows_right : (n : Numbers) (cells : List ℕ) (L : Layout) → length L ≤ buffer_rows → ((p : ℕ) → p < buffer_rows → row_at cells p ≡ row_at (cells_of L) p)
    → FitsCells L → HasLayout n L → rows_fit cells (length L) n.replication ≡ true
unfolding rows_fit
rows_right n cells L few same f h =
    every-all buffer_rows (row_fits cells (length L) n.replication)
    (λ p l. ⊎_elim
    (λ inside. let e = same p l in
    let ids : ids_in (row_at cells p) ≡ row L p =
    ap ids_in (e ∙ row_at-cells_of L p l (f.few p inside)) ∙ rising-ids 0 (row_cells - length (row L p)) (row L p) (h.ids p inside) in
    formed-fits cells (length L) n.replication p inside (ap formed e ∙ (holds-cells_of L f).ids p inside) (ap length ids ∙ h.many p inside))
    (λ out. zero_fits cells (length L) n.replication p out (ap blank (same p l) ∙ (holds-cells_of L f).zeros p out l))
    (lt_or_ge p (length L)))

-- Writing accepts what there is to write, and the output begins with its record.
pub writes-layout : (n : Numbers) (cells out : List ℕ) (L : Layout) → CanWrite n cells out L → WritesLayout n cells out L
unfolding over
writes-layout n cells out L c =
    let h = c.layout in
    let f = fits-cells n L c.ranges h in
    let P = 2 ^ n.bits in
    let few : P ≤ buffer_rows = few_partitions n.bits (few_bits n c.ranges) in
    let same : ((p : ℕ) → p < buffer_rows → row_at cells p ≡ row_at (cells_of L) p) =
    λ p l. sym (row_at_take cells p l) ∙ ap (λ (x : List ℕ). row_at x p) c.own_cells in
    let rows : rows_fit cells P n.replication ≡ true =
    ap (λ (k : ℕ). rows_fit cells k n.replication) (sym h.partition_rows) ∙ rows_right n cells L f.few_rows same f h in
    let long : record_length n.bits n.replication ≡ length (layout_record n L) = sym (length_record n L h) in
    let none : write_fault n cells (length out) ≡ 0 = write-none n cells (length out) c.whole c.ranges rows (omega (arith, c.room, long)) in
    let w = write_accepted n cells out none in
    let back : rows_in P cells ≡ L =
    sym (rows_in_take P cells few) ∙ (ap₂ rows_in (sym h.partition_rows) c.own_cells ∙ rows_in-cells_of L f) in
    record {
      answer = w.0 ∙ ap (λ (k : ℕ). record { refusal = 0; length = k }) long;
      after = w.1 ∙ ap (λ (M : Layout). layout_record n M ++ drop (length (layout_record n M)) out) back;
    }

-- The cells of a row have 32 bits.
row_words : (cells : List ℕ) (p j : ℕ) → Words cells → get_or (row_at cells p) j 0 < 2 ^ 32
row_words cells p j words =
    ⊎_elim (λ l. subst (λ (x : ℕ). x < 2 ^ 32) (sym (get_or_row_at cells p j l)) (words (p * row_cells + j)))
    (λ g. omega (arith, get_or-eq_default (row_at cells p) 0 {n = j} (omega (arith, length-take row_cells (drop (p * row_cells) cells)))))
    (lt_or_ge j row_cells)

-- Rows that pass their tests are those of a layout with the numbers.
can_write : (n : Numbers) (cells out : List ℕ) → Words cells → Writable n cells (length out) → CanWrite n cells out (rows_in (2 ^ n.bits) cells)
unfolding rows_fit
can_write n cells out words w =
    let P = 2 ^ n.bits in
    let few : P ≤ buffer_rows = few_partitions n.bits (few_bits n w.fit) in
    let test : ((p : ℕ) → p < buffer_rows → row_fits cells P n.replication p ≡ true) =
    λ p l. every-at buffer_rows p (row_fits cells P n.replication) w.rows l in
    let formed' : ((p : ℕ) → p < P → (formed (row_at cells p) ≡ true) × (length (ids_in (row_at cells p)) ≡ n.replication)) =
    λ p l. fits-formed cells P n.replication p l (test p (omega arith)) in
    let holds : HoldsRows P cells = record {
      few_rows = few;
      whole = w.whole;
      ids = λ p l. (formed' p l).0;
      zeros = λ p l k. fits_zero cells P n.replication p l (test p k);
    } in
    let has : HasLayout n (rows_in P cells) = record {
      partition_rows = length-rows_in P cells;
      many = λ p l. let k : p < P = subst (λ (m : ℕ). p < m) (length-rows_in P cells) l in ap length (row-rows_in P cells p k) ∙ (formed' p k).1;
      ids = λ p l. let k : p < P = subst (λ (m : ℕ). p < m) (length-rows_in P cells) l in
          ap rising (row-rows_in P cells p k) ∙ formed-rising 0 (row_at cells p) (formed' p k).0;
      words = λ p j. ⊎_elim
          (λ l. subst (λ (x : ℕ). x < 2 ^ 32) (sym (id-rows_in P cells p j holds l)) (row_words cells p j words))
          (λ g. omega (arith, ap (λ (x : List ℕ). get_or x j 0) (get_or-eq_default (rows_in P cells) [] {n = p} (omega (arith, length-rows_in P cells)))))
          (lt_or_ge p buffer_rows);
    } in
    record {
      whole = w.whole;
      ranges = w.fit;
      layout = has;
      own_cells = sym (cells_of-rows_in P cells holds);
      room = omega (arith, w.long, length_record n (rows_in P cells) has);
    }

-- Whatever is written without refusal was there to write.
pub layout-written : (n : Numbers) (cells out : List ℕ) → Words cells → (write_answer n cells out).refusal ≡ 0 → WasWritten n cells out
unfolding write_answer
layout-written n cells out words z =
    let c = can_write n cells out words (no_fault n cells (length out) z) in
    record { layout = rows_in (2 ^ n.bits) cells; can = c; writes = writes-layout n cells out (rows_in (2 ^ n.bits) cells) c }

-- Writing accepts exactly numbers in range and cells that are those of a layout with them, where there is room for the record; the output then
-- begins with it.
pub writes : (n : Numbers) (cells out : List ℕ) → Words cells
    → ((write_answer n cells out).refusal ≡ 0 → (L : Layout) × CanWrite n cells out L) × ((L : Layout) → CanWrite n cells out L → WritesLayout n cells out L)
writes n cells out words = (
  λ z. let w = layout-written n cells out words z in (w.layout, w.can),
  λ L c. writes-layout n cells out L c,
)

-- ---- both ways round

-- What is written reads back: the same numbers, and all 2,048 cells.
pub write-then-read : (n : Numbers) (cells out lent : List ℕ) → Words cells → (write_answer n cells out).refusal ≡ 0 → layout_cells ≤ length lent
    → (read_layout_of (take (write_answer n cells out).length (out_after n cells out)) lent ≡ record { refusal = 0; byte = 0; numbers = n })
    × (assignment_read (take (write_answer n cells out).length (out_after n cells out)) lent ≡ take layout_cells cells ++ drop layout_cells lent)
write-then-read n cells out lent words z h =
    let w = layout-written n cells out words z in
    let L = w.layout in
    let s : take (write_answer n cells out).length (out_after n cells out) ≡ layout_record n L =
    ap₂ take (ap (λ (r : Written). r.length) w.writes.answer) w.writes.after
    ∙ take_at (layout_record n L) (drop (length (layout_record n L)) out) (length (layout_record n L)) refl in
    let r = reads_record (layout_record n L) lent n L h (record { bytes = refl; ranges = w.can.ranges; layout = w.can.layout }) in (
      ap (λ (x : List ℕ). read_layout_of x lent) s ∙ r.answer,
      ap (λ (x : List ℕ). assignment_read x lent) s ∙ (r.after ∙ ap (λ (x : List ℕ). x ++ drop layout_cells lent) (sym w.can.own_cells)),
    )

-- A record that is read is written again byte for byte, with the same length.
pub read-then-write : (s lent out : List ℕ) → Bytes s → (read_layout_of s lent).refusal ≡ 0 → length s ≤ length out
    → (write_answer (read_layout_of s lent).numbers (assignment_read s lent) out ≡ record { refusal = 0; length = length s })
    × (out_after (read_layout_of s lent).numbers (assignment_read s lent) out ≡ s ++ drop (length s) out)
read-then-write s lent out b z h =
    let r = record_read s lent b z in
    let n = (read_layout_of s lent).numbers in
    let L = r.layout in
    let e = r.is.bytes in
    let w = writes-layout n (assignment_read s lent) out L
    (record {
      whole = omega (arith, ap length r.reads.after, length-append (cells_of L) (drop layout_cells lent), length-cells_of L);
      ranges = r.is.ranges;
      layout = r.is.layout;
      own_cells = ap (take layout_cells) r.reads.after ∙ take_at (cells_of L) (drop layout_cells lent) layout_cells (length-cells_of L);
      room = omega (arith, ap length e);
    }) in (
      w.answer ∙ ap (λ (x : List ℕ). record { refusal = 0; length = length x }) (sym e),
      w.after ∙ ap (λ (x : List ℕ). x ++ drop (length x) out) (sym e),
    )
