-- What it means that a row or a node has no fault.
-- Assumes nothing.
use Prim.Native.Nat.{ℕ, ◌*◌, ◌≤◌, ◌<◌}
use mathlib.Core.Path.{◌≡◌, refl, sym, ap, ◌∙◌}
use mathlib.Core.Bool.{Bool, true, false, ◌&&◌, cond}
use mathlib.Core.List.{List}
use native.Mathlib.Omega.{arith}
use lib.Dec.{ltb, eqb}
use lib.ListN.{length}
use borrow.Author.Tests.{lt-ltb, le-ltb, ltb-false, eq-eqb, eqb-true}
use Rattle.cluster.proofs.Taking.{takes-held}
use Rattle.cluster.proofs.Accepting.{few_partitions}
use Rattle.cluster.specs.Terms.{usable, takes, buffer_rows, Topology, partitions, node_at, ids_of, zones_of, Layout, copies_in, ValidRow, only_in, row_at, ids_in, blank, formed}
use Rattle.cluster.specs.TermsReading.{Accepted}
use Rattle.sums.proofs.Tests.{both}
use Rattle.cell_rows.proofs.CellRows.{formed-rising}
use Rattle.layouts.specs.TermsCheck.{fault, right_ids, row_fault, rows_fault, node_fault}
use Rattle.layouts.proofs.RowFaults.{only_none, none_only}
use Rattle.layouts.proofs.CheckOrder.{none_found}

-- What the right ids are.
pub right_parts : (t : Topology) (r : List ℕ) → right_ids t r ≡ true
    → (formed r ≡ true) × (length (ids_in r) ≡ t.replication) × (only_in (ids_in r) (ids_of t.nodes) ≡ 0)
unfolding right_ids
right_parts t r e =
    let a = both (formed r && eqb (length (ids_in r)) t.replication) (eqb (only_in (ids_in r) (ids_of t.nodes)) 0) e in
    let b = both (formed r) (eqb (length (ids_in r)) t.replication) a.0 in
    (b.0, eqb-true (length (ids_in r)) t.replication b.1, eqb-true (only_in (ids_in r) (ids_of t.nodes)) 0 a.1)

-- A row of the first P without fault is rising ids followed by zeros, and these are a valid row.
pub own_row : (t : Topology) (cells : List ℕ) (p : ℕ) → p < partitions t → row_fault t cells p ≡ 0
    → (formed (row_at cells p) ≡ true) × ValidRow t (ids_in (row_at cells p))
unfolding row_fault
own_row t cells p h e =
    go (right_ids t r) refl (ltb (zones_of t.nodes (ids_in r)) t.redundancy) refl
    (sym (ap (λ (b : Bool). cond b (cond (right_ids t r) (cond (ltb (zones_of t.nodes (ids_in r)) t.redundancy) 11 0) 10) (cond (blank r) 0 10)) (lt-ltb p (partitions t) h)) ∙ e)
  where
    r : List ℕ
    r = row_at cells p

    go : (a : Bool) → right_ids t r ≡ a → (b : Bool) → ltb (zones_of t.nodes (ids_in r)) t.redundancy ≡ b → ◌≡◌ {A = ℕ} (cond a (cond b 11 0) 10) 0
        → (formed r ≡ true) × ValidRow t (ids_in r)
    go false q b z k = absurd (omega arith)
    go true q true z k = absurd (omega arith)
    go true q false z k =
        let w = right_parts t r q in (
          w.0,
          record {
            ids = formed-rising 0 r w.0;
            many = w.1;
            known = none_only (ids_in r) (ids_of t.nodes) w.2;
            zones = ltb-false (zones_of t.nodes (ids_in r)) t.redundancy z;
          },
        )

-- A valid row, as rising ids followed by zeros, has no fault.
pub row-own : (t : Topology) (cells : List ℕ) (p : ℕ) → p < partitions t → formed (row_at cells p) ≡ true → ValidRow t (ids_in (row_at cells p))
    → row_fault t cells p ≡ 0
unfolding row_fault right_ids
row-own t cells p h f v =
    simp (
      lt-ltb p (partitions t) h,
      f,
      eq-eqb (length (ids_in (row_at cells p))) t.replication v.many,
      eq-eqb (only_in (ids_in (row_at cells p)) (ids_of t.nodes)) 0 (only_none (ids_in (row_at cells p)) (ids_of t.nodes) v.known),
      le-ltb (zones_of t.nodes (ids_in (row_at cells p))) t.redundancy v.zones,
    )

-- A row from P on has no fault exactly where it is blank.
pub other_row : (t : Topology) (cells : List ℕ) (p : ℕ) → partitions t ≤ p → row_fault t cells p ≡ 0 → blank (row_at cells p) ≡ true
unfolding row_fault
other_row t cells p h e = go (blank (row_at cells p)) (sym (simp (le-ltb p (partitions t) h)) ∙ e)
  where
    go : (b : Bool) → ◌≡◌ {A = ℕ} (cond b 0 10) 0 → b ≡ true
    go true q = refl
    go false q = absurd (omega arith)

pub row_other : (t : Topology) (cells : List ℕ) (p : ℕ) → partitions t ≤ p → blank (row_at cells p) ≡ true → row_fault t cells p ≡ 0
unfolding row_fault
row_other t cells p h f = simp (le-ltb p (partitions t) h, f)

-- A node without fault holds no more than its usable capacity takes and its ceiling allows,
pub node-held : (t : Topology) (L : Layout) (size b : ℕ) → node_fault t L size b ≡ 0
    → (copies_in L (node_at t b).id * size ≤ usable (node_at t b)) × (copies_in L (node_at t b).id ≤ (node_at t b).ceiling)
unfolding node_fault
node-held t L size b e = (takes-held (node_at t b) (copies_in L (node_at t b).id) size).0 (go (takes (node_at t b) (copies_in L (node_at t b).id) size) e)
  where
    go : (a : Bool) → ◌≡◌ {A = ℕ} (cond a 0 12) 0 → a ≡ true
    go true h = refl
    go false h = absurd (omega arith)

-- and the other way round.
pub held-node : (t : Topology) (L : Layout) (size b : ℕ)
    → copies_in L (node_at t b).id * size ≤ usable (node_at t b) → copies_in L (node_at t b).id ≤ (node_at t b).ceiling → node_fault t L size b ≡ 0
unfolding node_fault
held-node t L size b h k = simp ((takes-held (node_at t b) (copies_in L (node_at t b).id) size).1 (h, k))

-- Where no row has a fault, each row has none,
pub each_row : (t : Topology) (cells : List ℕ) → (rows_fault t cells).refusal ≡ 0 → (p : ℕ) → p < buffer_rows → row_fault t cells p ≡ 0
unfolding rows_fault
each_row t cells e p l = none_found buffer_rows 0 (λ q. fault (row_fault t cells q) q) e p (omega arith) (omega arith)

-- and each of the first P is rising ids followed by zeros.
pub each_formed : (t : Topology) (cells : List ℕ) → Accepted t → (rows_fault t cells).refusal ≡ 0 → (p : ℕ) → p < partitions t → formed (row_at cells p) ≡ true
each_formed t cells a e p l = (own_row t cells p l (each_row t cells e p (omega (arith, few_partitions t.bits a.bits)))).0
