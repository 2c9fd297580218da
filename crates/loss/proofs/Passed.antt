-- Of a layout that check passes at size 1: its rows as sets of nodes lose what its ids do.
-- Assumes nothing.
use Prim.Native.Nat.{ℕ, ◌+◌, ◌-◌, ◌≤◌, ◌<◌}
use mathlib.Core.Path.{◌≡◌, sym, ap, ◌∙◌, subst}
use mathlib.Core.List.{List, ◌++◌}
use native.Mathlib.Omega.{arith}
use lib.ListN.{length, drop, get_or, get_or-append}
use lib.Seq.{get_or-append-add, get_or-drop}
use borrow.Author.Tests.{le-leb}
use Rattle.sums.specs.TermsSums.{tab}
use Rattle.cells.proofs.Cells.{length-tab, get_or_tab}
use Rattle.cluster.specs.Terms.{buffer_rows, topology, partitions, mem, Layout, ValidAt}
use Rattle.cluster.specs.TermsReading.{Accepted}
use Rattle.cluster.specs.declared.Cluster.{Cluster}
use Rattle.cluster.proofs.Accepting.{accepted}
use Rattle.cell_rows.proofs.CellLayouts.{row-rows_in}
use Rattle.cell_rows.proofs.RowScans.{row_of_buffer}
use Rattle.masks.specs.ModelMasks.{row_mask, masks_read}
use Rattle.masks.proofs.Laws.{mask-bits}
use Rattle.layouts.specs.TermsCheck.{check_of}
use Rattle.layouts.proofs.CheckMeaning.{passed_valid, check-layout, check-holds}
use Rattle.loss.specs.TermsLoss.{loss_of}
use Rattle.loss.specs.TermsLossAnswer.{layout_in}
use Rattle.loss.specs.ModelSearch.{lost_rows}
use Rattle.loss.proofs.RowsLost.{HasThose, rows_same}

-- The rows of a layout, as sets of nodes, in the first cells of a buffer, and empty rows past them.
pub record SetRows (c : Cluster) (cells rows : List ℕ) : Type 0 where
  pub own : (p : ℕ) → p < partitions (topology c) → get_or rows p 0 ≡ row_mask (topology c).nodes cells p
  pub past : (p : ℕ) → partitions (topology c) ≤ p → get_or rows p 0 ≡ 0

-- So they are read into cells of 0.
pub sets-read : (c : Cluster) (cells rows lent : List ℕ) (n : ℕ) → n ≡ partitions (topology c) → n ≤ buffer_rows → length lent ≡ buffer_rows
    → ((j : ℕ) → get_or lent j 0 ≡ 0) → rows ≡ masks_read (topology c).nodes cells n lent → SetRows c cells rows
unfolding masks_read
sets-read c cells rows lent n e h l zeros is =
    let f : ℕ → ℕ = λ p. row_mask (topology c).nodes cells p in
    let made : rows ≡ tab f n ++ drop n lent = is ∙ simp (le-leb n buffer_rows h, le-leb n (length lent) (omega arith)) in
    let long = length-tab f n in
    record {
      own = λ p k. ap (λ (r : List ℕ). get_or r p 0) made ∙ (get_or-append (tab f n) (drop n lent) 0 p (omega (arith, long)) ∙ get_or_tab f n p 0 (omega arith));
      past = λ p k.
          let at : n + (p - n) ≡ p = omega arith in
          ap (λ (r : List ℕ). get_or r p 0) made
          ∙ (ap (λ (j : ℕ). get_or (tab f n ++ drop n lent) j 0) (sym (ap (λ (m : ℕ). m + (p - n)) long ∙ at))
          ∙ (get_or-append-add (tab f n) (drop n lent) (p - n) 0 ∙ (get_or-drop n lent (p - n) 0 ∙ zeros (n + (p - n)))));
    }

module _ (c : Cluster) (cells : List ℕ) (e : (check_of c cells 1).refusal ≡ 0) where
  pub cluster_accepted : Accepted (topology c)
  cluster_accepted = accepted c (passed_valid c cells 1 e).accepted_cluster

  pub layout_valid : ValidAt (topology c) (layout_in c cells) 1
  layout_valid =
      let h = passed_valid c cells 1 e in
      subst (λ (L : Layout). ValidAt (topology c) L 1) (check-layout c cells 1 h) h.valid

  pub loss_same : (rows : List ℕ) → SetRows c cells rows → (set : ℕ) (X : List ℕ) → HasThose (topology c).nodes set X
      → lost_rows rows set ≡ loss_of (layout_in c cells) X + (buffer_rows - partitions (topology c))
  loss_same rows are =
      let a = cluster_accepted in
      let h = check-holds c cells 1 (passed_valid c cells 1 e) in
      rows_same (topology c).nodes a.few a.ids cells rows (partitions (topology c)) h.few_rows
      (λ p l. are.own p l ∙ mask-bits (topology c).nodes cells p a.ids (row_of_buffer cells p h.whole (omega (arith, h.few_rows))) (h.ids p l)) are.past
      (λ p l i m. (layout_valid.rows p l).known i (ap (mem i) (row-rows_in (partitions (topology c)) cells p l) ∙ m))
