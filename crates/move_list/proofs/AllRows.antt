-- The steps of all rows, from sets of nodes, are the moves of the terms.
-- Assumes nothing.
use Prim.Native.Nat.{ℕ, zero, suc, ◌+◌, ◌≤◌, ◌<◌}
use mathlib.Core.Path.{◌≡◌, refl, sym, ap, ap₂, ◌∙◌}
use mathlib.Core.Bool.{true}
use mathlib.Core.List.{List, ◌++◌}
use native.Mathlib.Omega.{arith}
use lib.ListN.{length, length-append}
use Rattle.sums.specs.TermsSums.{sum_to}
use Rattle.sums.proofs.Tests.{every-at}
use Rattle.sets.specs.ModelBits.{mask_of}
use Rattle.cluster.specs.Terms.{wide_row_cells, Topology, topology, partitions, Layout, row, mem, rising, ValidRow, row_at, row_of, ids_in, formed}
use Rattle.cluster.specs.TermsReading.{Accepted}
use Rattle.cluster.specs.declared.Cluster.{Cluster}
use Rattle.cluster.specs.declared.Node.{Node}
use Rattle.cell_rows.proofs.CellRows.{formed-rising}
use Rattle.cell_rows.proofs.CellLayouts.{row-rows_in}
use Rattle.cell_rows.proofs.RowScans.{row_of_buffer}
use Rattle.incidence.specs.ModelIncidence.{bits_of}
use Rattle.masks.specs.ModelMasks.{row_mask}
use Rattle.masks.proofs.Named.{named-bits}
use Rattle.masks.proofs.Laws.{mask-bits}
use Rattle.moves.specs.TermsMoves.{surviving, survivors, row_moves, moves_from, moves_of, step_cells}
use Rattle.moves.proofs.Interrupted.{moves_next}
use Rattle.moves.proofs.WideRows.{row_wide_rows}
use Rattle.step_cells.specs.ModelSteps.{step_count, row_steps}
use Rattle.step_cells.proofs.RowCells.{cells-append, row_count, row-cells}
use Rattle.move_list.specs.TermsMoveList.{moves_fault, former_in, new_in, moves_in}
use Rattle.move_list.specs.ModelMoveRows.{wide_mask, steps_to, cells_to}
use Rattle.move_list.proofs.MovesOrder.{all_pass, new_accepted, new-holds, new_valid}

module _ (c : Cluster) (former assignment : List ℕ) (e : (moves_fault c former assignment).refusal ≡ 0) where
  abbrev t : Topology
  t = topology c

  abbrev ns : List Node
  ns = t.nodes

  abbrev F : Layout
  F = former_in c former

  abbrev L : Layout
  L = new_in c assignment

  good : Accepted t
  good = new_accepted c former assignment e

  module _ (p : ℕ) (own : p < partitions t) where
    abbrev f : List ℕ
    f = ids_in (row_of wide_row_cells former p)

    abbrev r : List ℕ
    r = ids_in (row_at assignment p)

    -- The two rows, read from the cells.
    pub former-row : row F p ≡ f
    former-row = row_wide_rows (partitions t) former p own

    new_row : row L p ≡ r
    new_row = row-rows_in (partitions t) assignment p own

    pub former_rises : rising f ≡ true
    former_rises =
        formed-rising 0 (row_of wide_row_cells former p) (every-at (partitions t) p (λ q. formed (row_of wide_row_cells former q)) (all_pass c former assignment e).2 own)

    valid : ValidRow t (row L p)
    valid = (new_valid c former assignment e).rows p own

    -- The sets are those of the nodes that they name.
    old-set : wide_mask ns former p ≡ mask_of (bits_of ns f) (length ns)
    old-set = unfold wide_mask in named-bits 0 0 ns f good.ids former_rises

    new-set : row_mask ns assignment p ≡ mask_of (bits_of ns r) (length ns)
    new-set =
        let h = new-holds c former assignment e in
        mask-bits ns assignment p good.ids (row_of_buffer assignment p h.whole (omega (arith, h.few_rows))) (h.ids p own)

    -- So one row has the steps of its moves.
    one-count : step_count (wide_mask ns former p) (row_mask ns assignment p) ≡ length (row_moves p (survivors t F p) (row L p))
    one-count =
        ap₂ step_count old-set new-set
        ∙ (row_count t f r good.few good.ids former_rises (ap rising (sym new_row) ∙ valid.ids) (λ i m. valid.known i (ap (mem i) new_row ∙ m)) p
        ∙ ap₂ (λ (x y : List ℕ). length (row_moves p x y)) (unfold survivors in ap (surviving t) (sym former-row)) (sym new_row))

    one-cells : row_steps ns p (wide_mask ns former p) (row_mask ns assignment p) ≡ step_cells t F (row_moves p (survivors t F p) (row L p))
    one-cells =
        ap₂ (row_steps ns p) old-set new-set
        ∙ (row-cells t f r good.few good.ids former_rises (ap rising (sym new_row) ∙ valid.ids) (λ i m. valid.known i (ap (mem i) new_row ∙ m)) F p former-row
        ∙ ap₂ (λ (x y : List ℕ). step_cells t F (row_moves p x y)) (unfold survivors in ap (surviving t) (sym former-row)) (sym new_row))

  -- The first n rows.
  some-count : (n : ℕ) → n ≤ partitions t → steps_to ns former assignment n ≡ length (moves_from (survivors t F) (row L) 0 n)
  unfolding steps_to sum_to
  some-count zero h = unfold moves_from in refl
  some-count (suc n) h =
      ap₂ ◌+◌ (some-count n (omega arith)) (one-count n (omega arith))
      ∙ (sym (length-append (moves_from (survivors t F) (row L) 0 n) (row_moves n (survivors t F n) (row L n))) ∙ ap length (sym (moves_next (survivors t F) (row L) n)))

  some-cells : (n : ℕ) → n ≤ partitions t → cells_to ns former assignment n ≡ step_cells t F (moves_from (survivors t F) (row L) 0 n)
  unfolding cells_to
  some-cells zero h = unfold moves_from step_cells in refl
  some-cells (suc n) h =
      ap₂ (λ (x y : List ℕ). x ++ y) (some-cells n (omega arith)) (one-cells n (omega arith))
      ∙ (sym (cells-append t F (moves_from (survivors t F) (row L) 0 n) (row_moves n (survivors t F n) (row L n))) ∙ ap (step_cells t F) (sym (moves_next (survivors t F) (row L) n)))

  -- All rows.
  pub steps_all : steps_to ns former assignment (partitions t) ≡ length (moves_in c former assignment)
  unfolding moves_of
  steps_all = some-count (partitions t) (omega arith)

  pub cells-all : cells_to ns former assignment (partitions t) ≡ step_cells t F (moves_in c former assignment)
  unfolding moves_of
  cells-all = some-cells (partitions t) (omega arith)
