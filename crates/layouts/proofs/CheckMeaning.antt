-- Check passes exactly the layouts valid at the size that is named.
-- Assumes nothing.
use Prim.Native.Nat.{ℕ, ◌<◌}
use mathlib.Core.Path.{◌≡◌, sym, ap, ap₂, ◌∙◌, subst}
use mathlib.Core.Bool.{true}
use mathlib.Core.List.{List}
use mathlib.Core.Logic.{⊎_elim}
use native.Mathlib.Omega.{arith}
use lib.ListN.{length}
use Rattle.sums.proofs.Sum.{lt_or_ge}
use Rattle.cluster.specs.Terms.{buffer_rows, Topology, topology, partitions, node_at, Layout, ValidRow, ValidAt, cells_of, row_at, ids_in, blank, formed, rows_in}
use Rattle.cluster.specs.TermsReading.{Accepted}
use Rattle.cluster.specs.declared.Cluster.{Cluster}
use Rattle.cluster.proofs.Accepting.{few_partitions, accepted}
use Rattle.cell_rows.specs.ModelRows.{FitsCells, HoldsRows}
use Rattle.cell_rows.proofs.CellLayouts.{length-rows_in, row-rows_in, row_at_take, rows_in_take, rows_in-cells_of, holds-cells_of, cells_of-rows_in}
use Rattle.layouts.specs.TermsCheck.{Checked, fault, Passes, row_fault, rows_fault, node_fault, nodes_fault, check_of}
use Rattle.layouts.proofs.FaultMeaning.{own_row, row-own, other_row, row_other, node-held, held-node, each_row}
use Rattle.layouts.proofs.CheckOrder.{none_found, find_none, sound, no_cluster-fault, order-nodes, all_pass}

-- ---- the theorem

-- A valid layout of an accepted cluster fits the cells.
pub valid_fits : (t : Topology) (L : Layout) (size : ℕ) → Accepted t → ValidAt t L size → FitsCells L
valid_fits t L size a v = record {
  few_rows = omega (arith, v.partition_rows, few_partitions t.bits a.bits);
  ids = λ p l. (v.rows p (omega (arith, v.partition_rows))).ids;
  few = λ p l. omega (arith, (v.rows p (omega (arith, v.partition_rows))).many, a.replication);
}

-- The layout that the cells are is read from their first P rows.
pub check-layout : (c : Cluster) (cells : List ℕ) (size : ℕ) (h : Passes c cells size) → h.layout ≡ rows_in (partitions (topology c)) cells
check-layout c cells size h =
    let t = topology c in
    let a = accepted c h.accepted_cluster in
    sym
    (sym (rows_in_take (partitions t) cells (few_partitions t.bits a.bits))
    ∙ (ap₂ rows_in (sym h.valid.partition_rows) h.written ∙ rows_in-cells_of h.layout (valid_fits t h.layout size a h.valid)))

-- The cells hold its rows.
pub check-holds : (c : Cluster) (cells : List ℕ) (size : ℕ) → Passes c cells size → HoldsRows (partitions (topology c)) cells
check-holds c cells size h =
    let t = topology c in
    let a = accepted c h.accepted_cluster in
    let k = holds-cells_of h.layout (valid_fits t h.layout size a h.valid) in
    let e = h.valid.partition_rows in
    let same : (p : ℕ) → p < buffer_rows → row_at (cells_of h.layout) p ≡ row_at cells p = λ p l. ap (λ (r : List ℕ). row_at r p) (sym h.written) ∙ row_at_take cells p l in
    record {
      few_rows = few_partitions t.bits a.bits;
      whole = h.whole;
      ids = λ p l. ap (λ (r : List ℕ). formed r) (sym (same p (omega (arith, few_partitions t.bits a.bits)))) ∙ k.ids p (omega (arith, e));
      zeros = λ p l m. ap (λ (r : List ℕ). blank r) (sym (same p m)) ∙ k.zeros p (omega (arith, e)) m;
    }

module _ (c : Cluster) (cells : List ℕ) (size : ℕ) where
  abbrev t : Topology
  t = topology c

  abbrev L : Layout
  L = rows_in (partitions t) cells

  -- What check passes is a valid layout.
  pub passed_valid : (check_of c cells size).refusal ≡ 0 → Passes c cells size
  passed_valid e =
      let w = all_pass c cells size e in
      let s = sound c size w.1 in
      let rows : (p : ℕ) → p < buffer_rows → row_fault t cells p ≡ 0 = each_row t cells w.2 in
      let nodes : (b : ℕ) → b < length t.nodes → node_fault t L size b ≡ 0 = λ b l.
      unfold nodes_fault in none_found (length t.nodes) 0 (λ x. fault (node_fault t L size x) (node_at t x).id) w.3 b (omega arith) (omega arith) in
      let few = few_partitions t.bits (accepted c s.0).bits in
      let own : (p : ℕ) → p < partitions t → (formed (row_at cells p) ≡ true) × ValidRow t (ids_in (row_at cells p)) = λ p l. own_row t cells p l (rows p (omega arith)) in
      let holds : HoldsRows (partitions t) cells = record {
        few_rows = few;
        whole = w.0;
        ids = λ p l. (own p l).0;
        zeros = λ p l m. other_row t cells p l (rows p m);
      } in
      record {
        whole = w.0;
        accepted_cluster = s.0;
        layout = L;
        valid = record {
          positive = s.1;
          partition_rows = length-rows_in (partitions t) cells;
          rows = λ p l. subst (ValidRow t) (sym (row-rows_in (partitions t) cells p l)) (own p l).1;
          capacities = λ b l. (node-held t L size b (nodes b l)).0;
          ceilings = λ b l. (node-held t L size b (nodes b l)).1;
        };
        written = sym (cells_of-rows_in (partitions t) cells holds);
      }

  -- A valid layout passes, with place 0.
  pub valid_passed : Passes c cells size → check_of c cells size ≡ fault 0 0
  unfolding rows_fault nodes_fault
  valid_passed h =
      let e = check-layout c cells size h in
      let k = check-holds c cells size h in
      let v : ValidAt t L size = subst (λ (M : Layout). ValidAt t M size) e h.valid in
      let row-none : (p : ℕ) → p < buffer_rows → row_fault t cells p ≡ 0 = λ p l.
      ⊎_elim (λ o. row-own t cells p o (k.ids p o) (subst (ValidRow t) (row-rows_in (partitions t) cells p o) (v.rows p o)))
      (λ o. row_other t cells p o (k.zeros p o l)) (lt_or_ge p (partitions t)) in
      order-nodes c cells size h.whole (no_cluster-fault c size h.accepted_cluster v.positive)
      (ap (λ (r : Checked). r.refusal) (find_none buffer_rows 0 (λ q. fault (row_fault t cells q) q) (λ p l m. row-none p (omega arith))))
      ∙ find_none (length t.nodes) 0 (λ x. fault (node_fault t L size x) (node_at t x).id) (λ b l m. held-node t L size b (v.capacities b (omega arith)) (v.ceilings b (omega arith)))

  -- Check answers 0 exactly where the cells are a layout valid at the size.
  pub check_valid : ((check_of c cells size).refusal ≡ 0 → Passes c cells size) × (Passes c cells size → (check_of c cells size).refusal ≡ 0)
  check_valid = (passed_valid, λ h. ap (λ (r : Checked). r.refusal) (valid_passed h))
