-- Counting in the order of the rows (2026-06): after each row the counts are, for every node, the copies in the rows so far.
-- Assumes nothing.
use Prim.Native.Nat.{ℕ, zero, suc, ◌+◌, ◌≤◌, ◌<◌}
use mathlib.Core.Path.{◌≡◌, sym, ap, ap₂, ◌∙◌}
use mathlib.Core.Bool.{Bool, cond}
use mathlib.Core.List.{List, [], ◌∷◌, ◌++◌}
use mathlib.Core.Logic.{⊎_elim}
use native.Mathlib.Numerals.{add-one}
use native.Mathlib.Omega.{arith}
use lib.ListN.{length, get_or, length-replicate, get_or-replicate}
use borrow.Author.Tests.{lt-ltb, le-ltb}
use Rattle.sums.specs.TermsSums.{one_if, tab}
use Rattle.sums.proofs.Sum.{lt_or_ge}
use Rattle.cells.proofs.Cells.{length-tab, get_or_tab, tab_cong, tab_get_or}
use Rattle.cluster.specs.Terms.{most_nodes, Topology, node_at, mem, Layout, copies_in, row_at, ids_in, rows_in}
use Rattle.cluster.proofs.Taking.{copies_few}
use Rattle.cell_rows.proofs.CellLayouts.{length-rows_in}
use Rattle.copies.specs.TermsCounts.{node_copies, count_row, counts_after, CountedSoFar}
use Rattle.copies.proofs.RowNodes.{named, unused_unnamed}

-- One row more at the end.
copies-append : (L : Layout) (r : List ℕ) (i : ℕ) → copies_in (L ++ (r ∷ [])) i ≡ copies_in L i + one_if (mem i r)
unfolding copies_in
copies-append [] r i = omega arith
copies-append (x ∷ xs) r i = omega (arith, copies-append xs r i)

module _ (t : Topology) where
  -- The copies of a node in use.
  copies-used : (L : Layout) (b : ℕ) → b < length t.nodes → node_copies t L b ≡ copies_in L (node_at t b).id
  unfolding node_copies
  copies-used L b h = ap (λ (u : Bool). cond u (copies_in L (node_at t b).id) 0) (lt-ltb b (length t.nodes) h)

  -- A slot that is not in use has none.
  copies_unused : (L : Layout) (b : ℕ) → length t.nodes ≤ b → node_copies t L b ≡ 0
  unfolding node_copies
  copies_unused L b h = ap (λ (u : Bool). cond u (copies_in L (node_at t b).id) 0) (le-ltb b (length t.nodes) h)

  -- The counts of one row more.
  row_more : (r counts : List ℕ) (b : ℕ) → b < most_nodes → get_or (count_row t r counts) b 0 ≡ get_or counts b 0 + one_if (mem (node_at t b).id r)
  unfolding count_row
  row_more r counts b h = get_or_tab (λ x. get_or counts x 0 + one_if (mem (node_at t x).id r)) most_nodes b 0 h

  module _ (cells : List ℕ) where
    -- In no row there are none.
    copies-none : (b : ℕ) → node_copies t (rows_in 0 cells) b ≡ 0
    unfolding rows_in tab copies_in
    copies-none b = ⊎_elim (copies-used [] b) (copies_unused [] b) (lt_or_ge b (length t.nodes))

    -- The copies in one row more.
    copies-more : (p b : ℕ) → node_copies t (rows_in p cells) b + one_if (named t cells p b) ≡ node_copies t (rows_in (suc p) cells) b
    unfolding rows_in tab one_if
    copies-more p b =
        ⊎_elim
        (λ h. ap (λ (n : ℕ). n + one_if (named t cells p b)) (copies-used (rows_in p cells) b h)
        ∙ (sym (copies-append (rows_in p cells) (ids_in (row_at cells p)) (node_at t b).id) ∙ sym (copies-used (rows_in (suc p) cells) b h)))
        (λ h. ap₂ (λ (n : ℕ) (m : Bool). n + one_if m) (copies_unused (rows_in p cells) b h) (unused_unnamed t cells p b h)
        ∙ sym (copies_unused (rows_in (suc p) cells) b h))
        (lt_or_ge b (length t.nodes))

    -- After each row the counts are, for every node, the copies in the rows so far.
    pub counted : CountedSoFar t cells
    unfolding counts_after
    counted zero b h = get_or-replicate {A = ℕ} most_nodes b 0 0 h ∙ sym (copies-none b)
    counted (suc p) b h =
        let e : get_or (counts_after t cells (suc p)) b 0 ≡ get_or (counts_after t cells p) b 0 + one_if (named t cells p b) =
        row_more (ids_in (row_at cells p)) (counts_after t cells p) b h
        in e ∙ (ap (λ (n : ℕ). n + one_if (named t cells p b)) (counted p b h) ∙ copies-more p b)

    -- Counts that have one copy more for each node of row p than the counts before it are those after it.
    pub row-counted : (p : ℕ) (counts : List ℕ) → length counts ≡ most_nodes
        → ((b : ℕ) → b < most_nodes → get_or counts b 0 ≡ get_or (counts_after t cells p) b 0 + one_if (named t cells p b))
        → counts ≡ counts_after t cells (p + 1)
    unfolding counts_after count_row
    row-counted p counts long more =
        sym (tab_get_or counts 0)
        ∙ (ap (tab (λ b. get_or counts b 0)) long
        ∙ (tab_cong (λ b. get_or counts b 0) (λ b. get_or (counts_after t cells p) b 0 + one_if (named t cells p b)) most_nodes more
        ∙ ap (counts_after t cells) (sym (add-one p))))

    -- The count of a node in use.
    pub counted-used : (p b : ℕ) → b < most_nodes → b < length t.nodes → get_or (counts_after t cells p) b 0 ≡ copies_in (rows_in p cells) (node_at t b).id
    counted-used p b h u = counted p b h ∙ copies-used (rows_in p cells) b u

    -- No count is above the number of rows so far.
    pub counted_few : (p b : ℕ) → b < most_nodes → get_or (counts_after t cells p) b 0 ≤ p
    counted_few p b h =
        ⊎_elim
        (λ u. omega (arith, counted-used p b h u, copies_few (rows_in p cells) (node_at t b).id, length-rows_in p cells))
        (λ u. omega (arith, counted p b h, copies_unused (rows_in p cells) b u))
        (lt_or_ge b (length t.nodes))

    -- There is a count for each slot.
    pub length-counts : (p : ℕ) → length (counts_after t cells p) ≡ most_nodes
    unfolding counts_after count_row
    length-counts zero = length-replicate {A = ℕ} most_nodes 0
    length-counts (suc p) = length-tab (λ b. get_or (counts_after t cells p) b 0 + one_if (named t cells p b)) most_nodes
