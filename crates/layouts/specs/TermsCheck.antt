-- What check answers of a cluster, an assignment and a size: the first fault in the paper's order, with its place; and what it has to pass.
-- Assumes nothing.
use Rattle.std.specs.Prelude.{ℕ, zero, suc, ◌≤◌, ◌≡◌, Bool, ◌&&◌, cond, List, Result, Ok, Err, ltb, eqb, length, take}
use Rattle.cluster.specs.Terms.{takes, most_nodes, buffer_rows, layout_cells, Topology, topology, partitions, node_at, ids_of, zones_of, Layout, copies_in, ValidAt, only_in, cells_of, row_at, ids_in, blank, formed, rows_in, fault_of}
use Rattle.cluster.specs.declared.Cluster.{Cluster}
use Rattle.cluster.specs.declared.refusal.Refusal.{Refusal}
use Rattle.cluster.specs.TermsRefusal.{number_of}
use Rattle.layouts.specs.declared.check.Fault.{Fault}

-- What check answers: a refusal, 0 for none, and its place: a partition with 10 and 11, a node's id with 12, else 0.
pub record Checked : Type 0 where
  pub refusal : ℕ
  pub place : ℕ

-- A refusal and its place; both are 0 where nothing is refused.
abbrev pub fault : ℕ → ℕ → Checked
fault n place = record { refusal = n; place = place }

-- A refusal at no place.
abbrev pub at_none : Refusal → Fault
at_none refusal = record { refusal = refusal; place = 0 }

-- An answer as these numbers.
abbrev pub checked_as : Result Unit Fault → Checked
checked_as (Ok _) = fault 0 0
checked_as (Err f) = fault (number_of f.refusal) f.place

-- The first answer where it refuses, else the second.
abbrev pub or_else : Checked → Checked → Checked
or_else a b = cond (eqb a.refusal 0) b a

-- The first of f i, f (i + 1), .., n of them, that refuses.
unfoldable pub first_fault : ℕ → ℕ → (ℕ → Checked) → Checked
first_fault zero i f = fault 0 0
first_fault (suc n) i f = or_else (f i) (first_fault n (suc i) f)

-- "6, 4 (size 0 included) and 5 for the boxes, as in planning"
unfoldable pub cluster_fault : Cluster → ℕ → ℕ
cluster_fault c size = cond (ltb most_nodes c.count) 6 (cond (eqb size 0) 4 (fault_of c))

-- "R rising ids of the cluster followed by zeros"
unfoldable pub right_ids : Topology → List ℕ → Bool
right_ids t r = formed r && eqb (length (ids_in r)) t.replication && eqb (only_in (ids_in r) (ids_of t.nodes)) 0

-- "each 10 (not R rising ids of the cluster followed by zeros; a non-zero cell in a row from P on) before 11 (fewer than Z zones)"
unfoldable pub row_fault : Topology → List ℕ → ℕ → ℕ
row_fault t cells p =
    cond (ltb p (partitions t))
    (cond (right_ids t (row_at cells p)) (cond (ltb (zones_of t.nodes (ids_in (row_at cells p))) t.redundancy) 11 0) 10)
    (cond (blank (row_at cells p)) 0 10)

-- "12: copies times size above capacity", by 2026-02 above the usable capacity; 2026-05: "check answers 12 for a ceiling passed"
unfoldable pub node_fault : Topology → Layout → ℕ → ℕ → ℕ
node_fault t L size b = cond (takes (node_at t b) (copies_in L (node_at t b).id) size) 0 12

-- "Then rows in order"; "With 10 and 11 goes the partition". The rows of the first 2,048 cells, and no cell after them.
unfoldable pub rows_fault : Topology → List ℕ → Checked
rows_fault t cells = first_fault buffer_rows 0 (λ p. fault (row_fault t cells p) p)

-- "Then boxes in order"; "with 12 the box id"
unfoldable pub nodes_fault : Topology → Layout → ℕ → Checked
nodes_fault t L size = first_fault (length t.nodes) 0 (λ b. fault (node_fault t L size b) (node_at t b).id)

-- "8, 6, 4 (size 0 included) and 5 for the boxes, as in planning. Then rows in order .. Then boxes in order"
unfoldable pub check_of : Cluster → List ℕ → ℕ → Checked
check_of c cells size =
    cond (ltb (length cells) layout_cells) (fault 8 0) (or_else (fault (cluster_fault c size) 0)
    (or_else (rows_fault (topology c) cells) (nodes_fault (topology c) (rows_in (partitions (topology c)) cells) size)))

-- "a check passes just the layouts valid at the size named": the cluster has no fault, and the 2,048 cells are those of such a layout.
pub record Passes (c : Cluster) (cells : List ℕ) (size : ℕ) : Type 0 where
  pub whole : layout_cells ≤ length cells
  pub accepted_cluster : fault_of c ≡ 0
  pub layout : Layout
  pub valid : ValidAt (topology c) layout size
  pub written : take layout_cells cells ≡ cells_of layout
