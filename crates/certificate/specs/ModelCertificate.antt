-- The prices that a search of the exchange graph of a layout ends with. Nobody has to believe this file: `Owed` of TermsCertify says what they achieve.
-- Assumes nothing.
use Rattle.std.specs.Prelude.{ℕ, ◌-◌, List}
use Rattle.sums.specs.ModelSums.{max_to}
use Rattle.cluster.specs.Terms.{Topology, partitions, Layout}
use Rattle.incidence.specs.ModelIncidence.{column}
use Rattle.exchange.specs.ModelLevels.{Graph, Outcome, potential_found, cycle_found, dist, outcome}
use Rattle.levels.specs.ModelGraph.{graph_of}
use Rattle.sizing.specs.ModelSizing.{nodes_of, cap_cells, size_of}
use Rattle.steps.specs.ModelSteps.{arcs_in, cycle_in}
use Rattle.planning.specs.ModelPlan.{mates_of, former_masks}

-- The price of a node by the end of a search: what its level lacks of the largest; none where the search ended with a cycle.
unfoldable pub price_by : Graph → Outcome → ℕ → ℕ
price_by G (potential_found k) b = max_to G.N (dist G k) - dist G k b
price_by G (cycle_found k v) b = 0

-- The masks of the exchange graph of a layout at the cluster's size, F the former layout.
unfoldable pub arcs_at : Topology → Layout → Layout → List ℕ
arcs_at t F L = arcs_in (former_masks t F) (partitions t) (mates_of t) (cap_cells t (size_of t)) (nodes_of t) t.redundancy (former_masks t L)

-- The graph itself.
abbrev pub graph_at : Topology → Layout → Layout → Graph
graph_at t F L = graph_of (arcs_at t F L) (nodes_of t)

-- The length of a cycle that is found in it, 0 where there is none.
unfoldable pub cycle_at : Topology → Layout → Layout → ℕ
cycle_at t F L = cycle_in (former_masks t F) (partitions t) (mates_of t) (cap_cells t (size_of t)) (nodes_of t) t.redundancy (former_masks t L)

-- The prices of the nodes, a cell for each slot.
unfoldable pub price_cells : Topology → Layout → Layout → List ℕ
price_cells t F L = column (price_by (graph_at t F L) (outcome (graph_at t F L))) (nodes_of t)
