-- The faults of a row that is read, the end of a record, and the tests of what is to be written.
-- Assumes nothing.
use Prim.Native.Nat.{ℕ, ◌*◌, ◌^◌, ◌≤◌, ◌<◌}
use mathlib.Core.Path.{◌≡◌, sym, ap, ◌∙◌}
use mathlib.Core.Bool.{Bool, true, false, ◌&&◌, or-true, cond}
use mathlib.Core.List.{List, []}
use mathlib.Core.Logic.{⊎_elim}
use native.Mathlib.Nat.{mul-le-mul}
use native.Mathlib.Omega.{arith}
use lib.Dec.{eqb}
use lib.ListN.{length}
use borrow.Author.Tests.{le-leb, lt-leb, lt-ltb, le-ltb, eq-eqb, ne_eqb, eqb-true}
use Rattle.sums.proofs.Sum.{lt_or_ge}
use Rattle.cluster.specs.Terms.{most_copies, buffer_rows, layout_cells, Layout, mem, rising, row_at, ids_in, blank, formed}
use Rattle.cell_rows.specs.ModelRows.{ill_formed, row_ids, row_is_blank}
use Rattle.sums.proofs.Tests.{both, true_or_false}
use Rattle.cell_rows.proofs.RowScans.{formed-row-ids, ill_row-ids, row_of_buffer}
use Rattle.fields.specs.RecordField.{field_at, refusal_of, place_of}
use Rattle.layout_head.specs.declared.Numbers.{Numbers}
use Rattle.layout_head.specs.RecordHead.{in_range}
use Rattle.layout_rows.specs.RecordLayout.{record_length}
use Rattle.layout_rows.specs.RecordLayoutFaults.{layout_accepted, layout_refused, layout_row_fault, end_in, row_fits, rows_fit, write_fault}

-- ---- the faults of a row that is read

module _ (partitions next p : ℕ) (ids : List ℕ) where
  -- A partition at or above P, or an id 0.
  pub fault-partition : partitions ≤ p → layout_row_fault partitions next p ids ≡ 4
  unfolding layout_row_fault
  fault-partition h = simp (le-leb partitions p h)

  pub fault_zero : mem 0 ids ≡ true → layout_row_fault partitions next p ids ≡ 4
  unfolding layout_row_fault
  fault_zero h = simp (h, or-true)

  module _ (inside : p < partitions) (ids-not-zero : mem 0 ids ≡ false) where
    -- A row that is not the next, or ids that do not rise.
    pub fault-next : (p ≡ next → ⊥) → layout_row_fault partitions next p ids ≡ 5
    unfolding layout_row_fault
    fault-next h = simp (lt-leb partitions p inside, ids-not-zero, ne_eqb p next h)

    pub fault_falls : p ≡ next → rising ids ≡ false → layout_row_fault partitions next p ids ≡ 5
    unfolding layout_row_fault
    fault_falls e h = simp (lt-leb partitions p inside, ids-not-zero, eq-eqb p next e, h)

    pub fault-none : p ≡ next → rising ids ≡ true → layout_row_fault partitions next p ids ≡ 0
    unfolding layout_row_fault
    fault-none e h = simp (lt-leb partitions p inside, ids-not-zero, eq-eqb p next e, h)

-- ---- the end of a record

module _ (s : List ℕ) (at : ℕ) (n : Numbers) (L : Layout) where
  pub end_whole : length s ≤ at → end_in s at n L ≡ layout_accepted n L
  unfolding end_in
  end_whole h = simp (le-leb (length s) at h)

  pub end_more : at < length s → end_in s at n L ≡ layout_refused (refusal_of (field_at s at [] 0)) (place_of (field_at s at [] 0))
  unfolding end_in
  end_more h = simp (lt-leb (length s) at h)

-- ---- the size of a record

pub few_bytes : (p w : ℕ) → p ≤ buffer_rows → w ≤ 37 → p * w ≤ 9472
few_bytes p w h k = mul-le-mul h k

-- ---- the rows that are to be written

module _ (cells : List ℕ) (partitions replication p : ℕ) (whole : layout_cells ≤ length cells) (inside : p < buffer_rows) where
  -- Below P: as many ids as there are copies, and then zeros.
  pub fits-ids : replication ≤ most_copies → p < partitions → eqb (row_ids cells p) replication ≡ row_fits cells partitions replication p
  unfolding row_fits
  fits-ids few h =
      ⊎_elim
      (λ t. ap (λ (k : ℕ). eqb k replication) (formed-row-ids cells p (row_of_buffer cells p whole inside) t) ∙ sym (simp (lt-ltb p partitions h, t)))
      (λ f. ap (λ (k : ℕ). eqb k replication) (ill_row-ids cells p f)
      ∙ (ne_eqb ill_formed replication (λ e. omega arith) ∙ sym (simp (lt-ltb p partitions h, f))))
      (true_or_false (formed (row_at cells p)))

  -- From P on: zeros.
  pub fits-blank : partitions ≤ p → row_is_blank cells p ≡ row_fits cells partitions replication p
  unfolding row_fits row_is_blank
  fits-blank h = simp (row_of_buffer cells p whole inside, le-ltb p partitions h)

-- What the test of a row tells: below P it is formed and has as many ids,
pub fits-formed : (cells : List ℕ) (partitions replication p : ℕ) → p < partitions → row_fits cells partitions replication p ≡ true
    → (formed (row_at cells p) ≡ true) × (length (ids_in (row_at cells p)) ≡ replication)
unfolding row_fits
fits-formed cells partitions replication p h t =
    let b = both (formed (row_at cells p)) (eqb (length (ids_in (row_at cells p))) replication)
    (sym (ap (λ (q : Bool). cond q (formed (row_at cells p) && eqb (length (ids_in (row_at cells p))) replication) (blank (row_at cells p))) (lt-ltb p partitions h)) ∙ t) in
    (b.0, eqb-true (length (ids_in (row_at cells p))) replication b.1)

-- and from P on it is blank.
pub fits_zero : (cells : List ℕ) (partitions replication p : ℕ) → partitions ≤ p → row_fits cells partitions replication p ≡ true
    → blank (row_at cells p) ≡ true
unfolding row_fits
fits_zero cells partitions replication p h t =
    sym (ap (λ (q : Bool). cond q (formed (row_at cells p) && eqb (length (ids_in (row_at cells p))) replication) (blank (row_at cells p))) (le-ltb p partitions h)) ∙ t

-- And conversely.
pub formed-fits : (cells : List ℕ) (partitions replication p : ℕ) → p < partitions → formed (row_at cells p) ≡ true
    → length (ids_in (row_at cells p)) ≡ replication → row_fits cells partitions replication p ≡ true
unfolding row_fits
formed-fits cells partitions replication p h t e = simp (lt-ltb p partitions h, t, eq-eqb (length (ids_in (row_at cells p))) replication e)

pub zero_fits : (cells : List ℕ) (partitions replication p : ℕ) → partitions ≤ p → blank (row_at cells p) ≡ true → row_fits cells partitions replication p ≡ true
unfolding row_fits
zero_fits cells partitions replication p h t = simp (le-ltb p partitions h, t)

-- ---- the faults of writing

module _ (n : Numbers) (cells : List ℕ) (room : ℕ) where
  pub write-cells : length cells < layout_cells → write_fault n cells room ≡ 8
  unfolding write_fault
  write-cells h = simp (lt-ltb (length cells) layout_cells h)

  module _ (whole : layout_cells ≤ length cells) where
    pub write-numbers : in_range n ≡ false → write_fault n cells room ≡ 4
    unfolding write_fault
    write-numbers h = simp (le-ltb (length cells) layout_cells whole, h)

    module _ (fit : in_range n ≡ true) where
      pub write-rows : rows_fit cells (2 ^ n.bits) n.replication ≡ false → write_fault n cells room ≡ 10
      unfolding write_fault
      write-rows h = simp (le-ltb (length cells) layout_cells whole, fit, h)

      module _ (rows : rows_fit cells (2 ^ n.bits) n.replication ≡ true) where
        pub write-room : room < record_length n.bits n.replication → write_fault n cells room ≡ 8
        unfolding write_fault
        write-room h = simp (le-ltb (length cells) layout_cells whole, fit, rows, lt-ltb room (record_length n.bits n.replication) h)

        pub write-none : record_length n.bits n.replication ≤ room → write_fault n cells room ≡ 0
        unfolding write_fault
        write-none h = simp (le-ltb (length cells) layout_cells whole, fit, rows, le-ltb room (record_length n.bits n.replication) h)

-- What can be written: a whole buffer, numbers in range, rows that fit, and room for the record.
pub record Writable (n : Numbers) (cells : List ℕ) (room : ℕ) : Type 0 where
  pub whole : layout_cells ≤ length cells
  pub fit : in_range n ≡ true
  pub rows : rows_fit cells (2 ^ n.bits) n.replication ≡ true
  pub long : record_length n.bits n.replication ≤ room

-- No fault is found exactly where it can be written.
pub no_fault : (n : Numbers) (cells : List ℕ) (room : ℕ) → write_fault n cells room ≡ 0 → Writable n cells room
no_fault n cells room z =
    ⊎_elim (λ l. absurd (omega (arith, write-cells n cells room l)))
    (λ w. ⊎_elim
    (λ fit. ⊎_elim
    (λ rows. ⊎_elim (λ l. absurd (omega (arith, write-room n cells room w fit rows l))) (λ g. record { whole = w; fit = fit; rows = rows; long = g })
    (lt_or_ge room (record_length n.bits n.replication)))
    (λ h. absurd (omega (arith, write-rows n cells room w fit h))) (true_or_false (rows_fit cells (2 ^ n.bits) n.replication)))
    (λ h. absurd (omega (arith, write-numbers n cells room w h))) (true_or_false (in_range n)))
    (lt_or_ge (length cells) layout_cells)
