-- What figures answer of a layout in hand, and what they leave in the lent cells.
-- Assumes nothing.
use Rattle.std.specs.Prelude.{ℕ, ◌*◌, ◌/◌, List, Result, Ok, Err, ◌++◌, ltb, eqb, length, drop, cond}
use Rattle.sums.specs.TermsSums.{sum_to, one_if, tab}
use Rattle.cluster.specs.Terms.{most_nodes, Topology, topology, partitions, node_at, Layout, copies_in, usable, rows_in}
use Rattle.cluster.specs.TermsReading.{figure_cells}
use Rattle.cluster.specs.declared.Cluster.{Cluster}
use Rattle.copies.specs.TermsCounts.{node_copies}
use Rattle.layouts.specs.TermsCheck.{Checked, fault, check_of}
use Rattle.layouts.specs.declared.check.Fault.{Fault}
use Rattle.cluster.specs.TermsRefusal.{number_of}

-- What figures answer: check's refusal and place, and the size to hope for.
pub record Figured : Type 0 where
  pub refusal : ℕ
  pub place : ℕ
  pub hope : ℕ

-- An answer as these numbers.
abbrev pub figured_as : Result ℕ Fault → Figured
figured_as (Ok hope) = record { refusal = 0; place = 0; hope = hope }
figured_as (Err f) = record { refusal = number_of f.refusal; place = f.place; hope = 0 }

-- "copies in that box's zone": the copies of all nodes of the same zone; "unused cells 0"
unfoldable pub zone_copies : Topology → Layout → ℕ → ℕ
zone_copies t L b =
    cond (ltb b (length t.nodes))
    (sum_to (length t.nodes) (λ x. one_if (eqb (node_at t x).zone (node_at t b).zone) * copies_in L (node_at t x).id)) 0

-- "the size to hope for, total capacity over R times P, rounded down", by 2026-02 the total of the usable capacities
unfoldable pub hope_of : Topology → ℕ
hope_of t = sum_to (length t.nodes) (λ b. usable (node_at t b)) / (t.replication * partitions t)

-- "Cells 0 to 31: copies held per box in id order; 32 to 63: copies in that box's zone; unused cells 0". Cells after the 64 are kept.
abbrev pub figures_made : Topology → Layout → List ℕ → List ℕ
figures_made t L cells = tab (node_copies t L) most_nodes ++ tab (zone_copies t L) most_nodes ++ drop figure_cells cells

-- "Refused as Check, with 8 for this buffer too"
unfoldable pub figures_fault : Cluster → List ℕ → ℕ → List ℕ → Checked
figures_fault c assignment size cells = cond (ltb (length cells) figure_cells) (fault 8 0) (check_of c assignment size)

-- The answer: check's refusal and place, and the size to hope for, 0 where it is refused.
unfoldable pub figures_of : Cluster → List ℕ → ℕ → List ℕ → Figured
figures_of c assignment size cells =
    let f = figures_fault c assignment size cells in
    record { refusal = f.refusal; place = f.place; hope = cond (eqb f.refusal 0) (hope_of (topology c)) 0 }

-- The lent cells afterwards: "refused, the 64 keep what was lent".
unfoldable pub figures_in : Cluster → List ℕ → ℕ → List ℕ → List ℕ
figures_in c assignment size cells =
    cond (eqb (figures_fault c assignment size cells).refusal 0)
    (figures_made (topology c) (rows_in (partitions (topology c)) assignment) cells) cells
