-- Between the terms and the theory of exchanges: a layout of ids as 0/1 rows of node indices, and back. Nobody has to believe this file:
-- the theorems of proofs/ say what it achieves.
-- Assumes nothing.
use Rattle.std.specs.Prelude.{ℕ, suc, ◌/◌, min, List, [], ◌∷◌, cond, eqb, length, get_or, replicate}
use Rattle.sums.specs.TermsSums.{one_if, tab}
use Rattle.sums.specs.ModelSums.{first_from}
use Rattle.cells.specs.ModelCells.{put}
use Rattle.cluster.specs.Terms.{most_nodes, Topology, partitions, no_node, node_at, Layout, row, mem, usable}
use Rattle.cluster.specs.declared.Node.{Node}

-- The zone of node b as an index: the first node of the same zone.
unfoldable pub zone_index : Topology → ℕ → ℕ
zone_index t b = first_from (λ c. eqb (node_at t c).zone (node_at t b).zone) (length t.nodes) 0

-- The most copies that node b may hold at size s. The one place that knows of capacities and ceilings.
unfoldable pub cap_at : Topology → ℕ → ℕ → ℕ
cap_at t s b = min (min (partitions t) (node_at t b).ceiling) (usable (node_at t b) / s)

-- A row of ids over node indices: 1 where it names node b, else 0.
abbrev pub bits_of : List Node → List ℕ → ℕ → ℕ
bits_of ns r b = one_if (mem (get_or ns b no_node).id r)

-- The layout as 0/1 rows.
unfoldable pub incidence : Topology → Layout → ℕ → ℕ → ℕ
incidence t L p b = bits_of t.nodes (row L p) b

-- The ids of the nodes at which f is not 0, in their order.
unfoldable pub ids_where : List Node → (ℕ → ℕ) → List ℕ
ids_where [] f = []
ids_where (n ∷ ns) f = cond (eqb (f 0) 0) (ids_where ns (λ i. f (suc i))) (n.id ∷ ids_where ns (λ i. f (suc i)))

-- The layout of ids with the given 0/1 rows.
unfoldable pub layout_of : Topology → (ℕ → ℕ → ℕ) → Layout
layout_of t S = tab (λ p. ids_where t.nodes (S p)) (partitions t)

-- ---- columns: arrays with one number for each node in use, and zeros beyond

-- The number in a cell, as a function of the index.
abbrev pub cell : List ℕ → ℕ → ℕ
cell l b = get_or l b 0

-- An array of zeros.
abbrev pub blanks : List ℕ
blanks = replicate most_nodes 0

-- f 0, .., f (n - 1), then zeros.
unfoldable pub column : (ℕ → ℕ) → ℕ → List ℕ
column f n = put 0 f n blanks

-- The zone of each node in use, as the index of the first node of the same zone, then zeros.
unfoldable pub zone_cells : Topology → List ℕ
zone_cells t = column (zone_index t) (length t.nodes)
