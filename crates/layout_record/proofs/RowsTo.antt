-- Reading the rows one after the other: what is known before a row, one row more, the fault that stops it, and its end.
-- Assumes nothing.
use Prim.Native.Nat.{ℕ, ◌+◌, ◌-◌, ◌*◌, ◌^◌, ◌≤◌, ◌<◌}
use mathlib.Core.Path.{◌≡◌, refl, sym, ap, ap₂, ◌∙◌}
use mathlib.Core.List.{List, [], ◌∷◌, ◌++◌}
use native.Mathlib.Nat.{sub-zero}
use native.Mathlib.Omega.{arith}
use lib.ListN.{length}
use Rattle.cells.specs.ModelCells.{put}
use Rattle.cluster.specs.Terms.{row_cells, buffer_rows, Layout, cells_of}
use Rattle.std.specs.Prelude.{Result, Ok, Err, IsOk}
use Rattle.cluster.specs.declared.refusal.Refusal.{Refusal}
use Rattle.cluster.specs.TermsRefusal.{number_of}
use Rattle.fields.specs.declared.Refused.{Refused as Halt}
use Rattle.fields.specs.RecordField.{number_at, ids_at}
use Rattle.fields.specs.declared.Field.TheVariants.{Body, Refused}
use Rattle.layout_head.specs.declared.Numbers.{Numbers}
use Rattle.layout_head.specs.RecordHeadFaults.{next_field}
use Rattle.layout_rows.specs.RecordLayoutFaults.{LayoutRead, layout_refused, layout_row_fault, end_in, rows_from}
use Rattle.layout_record.specs.RecordLayoutAnswer.{ReadLayout, read_as, layout_answer}
use Rattle.layout_record.proofs.CellsMore.{length_more}
use Rattle.fields.proofs.RecordField.{refusal-some}
use Rattle.layout_record.proofs.RowSteps.{rows_stop, rows-fault, rows_on, rows_done, end_layout, cells-next}

-- An answer is no refusal.
ok-zero : (r : Result Numbers Halt) → IsOk r → (read_as r).refusal ≡ 0
ok-zero (Ok n) h = refl
ok-zero (Err r) h = cc

-- What the reading of the rows from byte `from` on answers, and what it leaves in the cells.
abbrev pub Says : List ℕ → ℕ → Numbers → Result Numbers Halt → List ℕ → Type 0
Says s from n r cells =
    (read_as r ≡ layout_answer (rows_from (2 ^ n.bits) s from n [])) × (IsOk r → cells ≡ cells_of (rows_from (2 ^ n.bits) s from n []).layout)

-- As many rows as `next` says are read, up to byte `at`, and the cells are theirs: from here the reading answers as from the start.
pub record RowsTo (s : List ℕ) (from : ℕ) (n : Numbers) (partitions : ℕ) (cells : List ℕ) (next at : ℕ) : Type 0 where
  pub rows : Layout
  pub few : next ≤ partitions
  pub as_many : length rows ≡ next
  pub are : cells ≡ cells_of rows
  pub same : rows_from (2 ^ n.bits) s from n [] ≡ rows_from (partitions - next) s at n rows

-- At the start none is read.
pub rows_start : (s : List ℕ) (from : ℕ) (n : Numbers) (partitions : ℕ) (cells : List ℕ) → partitions ≡ 2 ^ n.bits → cells ≡ cells_of [] → RowsTo s from n partitions cells 0 from
rows_start s from n partitions cells all zeros = record {
  rows = [];
  few = omega arith;
  as_many = refl;
  are = zeros;
  same = ap (λ (k : ℕ). rows_from k s from n []) (sym all ∙ sym (sub-zero partitions));
}

module _ {s : List ℕ} {from : ℕ} {n : Numbers} {partitions : ℕ} {cells : List ℕ} {next at : ℕ} (k : RowsTo s from n partitions cells next at) where
  -- A refusal says nothing of the cells.
  says_refused : (r : Halt) → rows_from (partitions - next) s at n k.rows ≡ layout_refused (number_of r.refusal) r.at → Says s from n (Err r) cells
  unfolding layout_answer
  says_refused r stop = (sym (ap layout_answer (k.same ∙ stop)), λ none. cc)

  -- After the last row the reading answers what the end says.
  pub rows-ended : partitions ≤ next → (r : Result Numbers Halt) → ((L : Layout) → read_as r ≡ layout_answer (end_in s at n L)) → Says s from n r cells
  unfolding layout_answer
  rows-ended h r e =
      let none : partitions - next ≡ 0 = omega arith in
      let done = k.same ∙ rows_done s at n k.rows (partitions - next) none in (
        e k.rows ∙ sym (ap layout_answer done),
        λ z. k.are
            ∙ sym (ap (λ (o : LayoutRead). cells_of o.layout) done
            ∙ ap cells_of (end_layout s at n k.rows (sym (ap (λ (o : ReadLayout). o.refusal) (e k.rows)) ∙ ok-zero r z))),
      )

  module _ (more : next < partitions) where
    left : 0 < partitions - next
    left = omega arith

    -- A field that is not whole stops the reading.
    pub rows_stopped : {refusal : Refusal} {byte : ℕ} → Refused refusal byte ≡ next_field s at 10 (2 + 4 * n.replication)
        → (r : Halt) → number_of r.refusal ≡ number_of refusal → r.at ≡ byte → Says s from n (Err r) cells
    rows_stopped {refusal} {byte} f r e b =
        says_refused r
        (rows_stop s at n k.rows (partitions - next) left (Refused refusal byte) f refusal byte refl ∙ ap₂ layout_refused (sym e) (sym b))

    module _ (all : partitions ≡ 2 ^ n.bits) {tag start len fault : ℕ} (f : Body tag start len ≡ next_field s at 10 (2 + 4 * n.replication))
        (is-fault : fault ≡ layout_row_fault partitions next (number_at s start 2) (ids_at s (start + 2) n.replication)) where
      faulted : fault ≡ layout_row_fault (2 ^ n.bits) (length k.rows) (number_at s start 2) (ids_at s (start + 2) n.replication)
      faulted = is-fault ∙ ap₂ (λ (a b : ℕ). layout_row_fault a b (number_at s start 2) (ids_at s (start + 2) n.replication)) all (sym k.as_many)

      -- So does a row with a fault.
      pub rows_faulted : (refusal : Refusal) → number_of refusal ≡ fault → Says s from n (Err (record { refusal = refusal; at = at })) cells
      rows_faulted refusal e =
          says_refused (record { refusal = refusal; at = at })
          (rows-fault s at n k.rows (partitions - next) left (Body tag start len) f tag start len fault refl faulted (λ z. absurd (omega (arith, refusal-some refusal, e, z)))
          ∙ ap (λ (x : ℕ). layout_refused x at) (sym e))

      -- Else one row more is read.
      pub rows_further : fault ≡ 0 → next < buffer_rows → n.replication ≤ row_cells → {zs : List ℕ}
          → zs ≡ put (next * row_cells) (λ j. number_at s (start + 2 + 4 * j) 4) n.replication cells → RowsTo s from n partitions zs (next + 1) (start + len)
      rows_further none inside copies {zs} e =
          let ids = ids_at s (start + 2) n.replication in
          let less : partitions - next - 1 ≡ partitions - (next + 1) = omega arith in
          record {
            rows = k.rows ++ (ids ∷ []);
            few = omega arith;
            as_many = length_more k.rows ids ∙ ap (λ (m : ℕ). m + 1) k.as_many;
            are = e ∙ cells-next s cells k.rows next (start + 2) n.replication k.as_many inside copies k.are;
            same = k.same
                ∙ (rows_on s at n k.rows (partitions - next) left (Body tag start len) f tag start len fault refl faulted none
                ∙ ap (λ (m : ℕ). rows_from m s (start + len) n (k.rows ++ (ids ∷ []))) less);
          }
