-- What the tests of a row tell: the number of its ids, of its nodes and of its zones.
-- Assumes nothing.
use Prim.Native.Nat.{ℕ, ◌+◌, ◌≤◌, ◌<◌}
use mathlib.Core.Path.{◌≡◌, refl, sym, ap, ap₂, ◌∙◌}
use mathlib.Core.Bool.{Bool, true, false, not, ◌&&◌, cond}
use mathlib.Core.List.{List, [], ◌∷◌}
use mathlib.Core.Logic.{⊎_elim}
use native.Mathlib.Omega.{arith}
use lib.Dec.{eqb}
use lib.ListN.{length}
use borrow.Author.Tests.{lt-ltb, le-ltb, eq-eqb, ne_eqb, eqb-true}
use Rattle.sums.specs.TermsSums.{sum_to, one_if}
use Rattle.sets.specs.ModelBits.{count_of}
use Rattle.sets.proofs.Laws.{count-mask}
use Rattle.cluster.specs.Terms.{buffer_rows, layout_cells, Topology, partitions, node_at, ids_of, mem, rising, only_in, zones_of, row_at, ids_in, formed}
use Rattle.cluster.specs.TermsReading.{Accepted}
use Rattle.cell_rows.specs.ModelRows.{row_ids, row_is_blank}
use Rattle.incidence.specs.ModelIncidence.{bits_of, zone_cells}
use Rattle.sums.proofs.Tests.{true_or_false, one-if_le}
use Rattle.cluster.proofs.Lists.{same_test, mem_head, mem_tail, mem-none, mem_cases, over_common, only_or_common}
use Rattle.cell_rows.proofs.CellRows.{formed-rising}
use Rattle.cell_rows.proofs.RowScans.{row-ids-formed, formed-row-ids, row_of_buffer}
use Rattle.incidence.proofs.TieRows.{over-ids}
use Rattle.masks.specs.ModelMasks.{row_mask}
use Rattle.masks.proofs.Laws.{mask-bits}
use Rattle.copies.specs.ModelCopies.{row_nodes}
use Rattle.layouts.specs.TermsCheck.{right_ids, row_fault}
use Rattle.layouts.specs.ModelScans.{zones_in}
use Rattle.layouts.proofs.RowWalks.{count-zones}

-- ---- rows of known ids

-- Where all ids of a row stand in a second one, none stands only in the first.
pub only_none : (l r : List ℕ) → ((i : ℕ) → mem i l ≡ true → mem i r ≡ true) → only_in l r ≡ 0
unfolding only_in one_if
only_none [] r h = refl
only_none (x ∷ xs) r h =
    omega (arith, ap (λ (b : Bool). one_if (not b)) (h x (mem_head x x xs refl)), only_none xs r (λ i m. h i (mem_tail i x xs m)))

-- Where none stands only in the first, all of them stand in the second.
pub none_only : (l r : List ℕ) → only_in l r ≡ 0 → (i : ℕ) → mem i l ≡ true → mem i r ≡ true
unfolding only_in one_if
none_only [] r e i m = absurd (mem-none i m)
none_only (x ∷ xs) r e i m = go (λ h. none_only xs r h i) (mem x r) refl e
  where
    go : (only_in xs r ≡ 0 → mem i xs ≡ true → mem i r ≡ true) → (b : Bool) → mem x r ≡ b → one_if (not b) + only_in xs r ≡ 0 → mem i r ≡ true
    go rest true q h = ⊎_elim (λ s. ap (λ (k : ℕ). mem k r) s ∙ q) (rest (omega arith)) (mem_cases i x xs m)
    go rest false q h = absurd (omega arith)

-- Rising ids all stand among the ids of the nodes exactly where they are as many as the nodes that they name.
all-count : (t : Topology) (r : List ℕ) → rising (ids_of t.nodes) ≡ true → rising r ≡ true
    → eqb (only_in r (ids_of t.nodes)) 0 ≡ eqb (sum_to (length t.nodes) (bits_of t.nodes r)) (length r)
all-count t r d e =
    let o = only_in r (ids_of t.nodes) in
    let s = sum_to (length t.nodes) (bits_of t.nodes r) in
    let w : o + s ≡ length r =
    omega (arith, only_or_common r (ids_of t.nodes), over_common 0 0 r (ids_of t.nodes) e d, over-ids t.nodes (λ y. one_if (mem y r))) in
    same_test (eqb o 0) (eqb s (length r))
    (λ q. eq-eqb s (length r) (omega (arith, eqb-true o 0 q))) (λ q. eq-eqb o 0 (omega (arith, eqb-true s (length r) q)))

-- ---- the fault of a row

module _ (t : Topology) (cells : List ℕ) (p : ℕ) (a : Accepted t) (whole : layout_cells ≤ length cells) (inside : p < buffer_rows) where
  abbrev ids : List ℕ
  ids = ids_in (row_at cells p)

  -- The nodes that a row names are as many as its bits.
  count-nodes : count_of (row_nodes t cells p) ≡ sum_to (length t.nodes) (bits_of t.nodes ids)
  unfolding row_nodes
  count-nodes = count-mask (bits_of t.nodes ids) (length t.nodes) a.few (λ b l. one-if_le (mem (node_at t b).id ids))

  -- A row with another number of ids has not the right ids.
  wrong_number : (row_ids cells p ≡ t.replication → ⊥) → right_ids t (row_at cells p) ≡ false
  unfolding right_ids
  wrong_number h =
      ⊎_elim
      (λ f. ap₂ (λ (s m : Bool). s && m && eqb (only_in ids (ids_of t.nodes)) 0) f
      (ne_eqb (length ids) t.replication (λ e. h (formed-row-ids cells p (row_of_buffer cells p whole inside) f ∙ e))))
      (λ f. ap (λ (s : Bool). s && eqb (length ids) t.replication && eqb (only_in ids (ids_of t.nodes)) 0) f)
      (true_or_false (formed (row_at cells p)))

  -- A row with the right number of ids has the right ones where it names as many nodes.
  right_number : row_ids cells p ≡ t.replication → right_ids t (row_at cells p) ≡ eqb (count_of (row_nodes t cells p)) t.replication
  unfolding right_ids
  right_number e =
      let w = row-ids-formed cells p (omega (arith, a.replication)) in
      ap₂ (λ (s m : Bool). s && m && eqb (only_in ids (ids_of t.nodes)) 0) w.1 (eq-eqb (length ids) t.replication (w.2 ∙ e))
      ∙ (all-count t ids a.ids (formed-rising 0 (row_at cells p) w.1)
      ∙ ap₂ eqb (sym count-nodes) (w.2 ∙ e))

  -- The mask of a row with the right number of ids is the set of the nodes that it names.
  mask-nodes : row_ids cells p ≡ t.replication → row_mask t.nodes cells p ≡ row_nodes t cells p
  unfolding row_nodes
  mask-nodes e =
      let w = row-ids-formed cells p (omega (arith, a.replication)) in
      mask-bits t.nodes cells p a.ids w.0 w.1

  module _ (own : p < partitions t) where
    -- Not R ids: 10.
    pub fault-ids : (row_ids cells p ≡ t.replication → ⊥) → row_fault t cells p ≡ 10
    unfolding row_fault
    fault-ids h = simp (lt-ltb p (partitions t) own, wrong_number h)

    -- Not R nodes: 10.
    pub fault-nodes : row_ids cells p ≡ t.replication → (count_of (row_mask t.nodes cells p) ≡ t.replication → ⊥) → row_fault t cells p ≡ 10
    unfolding row_fault
    fault-nodes e h = simp (lt-ltb p (partitions t) own, right_number e, ne_eqb (count_of (row_nodes t cells p)) t.replication (λ n. h (ap count_of (mask-nodes e) ∙ n)))

    -- Fewer than Z zones: 11.
    pub fault-zones : row_ids cells p ≡ t.replication → count_of (row_mask t.nodes cells p) ≡ t.replication
        → count_of (zones_in (zone_cells t) (row_mask t.nodes cells p)) < t.redundancy → row_fault t cells p ≡ 11
    unfolding row_fault
    fault-zones e n h =
        simp (
          lt-ltb p (partitions t) own,
          right_number e,
          eq-eqb (count_of (row_nodes t cells p)) t.replication (sym (ap count_of (mask-nodes e)) ∙ n),
          lt-ltb (zones_of t.nodes ids) t.redundancy (omega (arith, count-zones t cells p a.few, ap (λ (m : ℕ). count_of (zones_in (zone_cells t) m)) (mask-nodes e))),
        )

    -- No fault.
    pub fault-none : row_ids cells p ≡ t.replication → count_of (row_mask t.nodes cells p) ≡ t.replication
        → t.redundancy ≤ count_of (zones_in (zone_cells t) (row_mask t.nodes cells p)) → row_fault t cells p ≡ 0
    unfolding row_fault
    fault-none e n h =
        simp (
          lt-ltb p (partitions t) own,
          right_number e,
          eq-eqb (count_of (row_nodes t cells p)) t.replication (sym (ap count_of (mask-nodes e)) ∙ n),
          le-ltb (zones_of t.nodes ids) t.redundancy (omega (arith, count-zones t cells p a.few, ap (λ (m : ℕ). count_of (zones_in (zone_cells t) m)) (mask-nodes e))),
        )

  -- A row from P on has a fault where it is not blank.
  pub fault_beyond : partitions t ≤ p → row_fault t cells p ≡ cond (row_is_blank cells p) 0 10
  unfolding row_fault row_is_blank
  fault_beyond h = simp (le-ltb p (partitions t) h, row_of_buffer cells p whole inside)
