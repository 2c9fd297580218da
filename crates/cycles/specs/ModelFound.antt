-- What a search for a negative cycle answers: the length of the cycle, 0 where there is none, and the walk around it.
-- Assumes nothing.
use Rattle.std.specs.Prelude.{ℕ, ◌+◌, ◌*◌, ◌≤◌, ◌<◌, ◌≡◌, Bool, cond, ◌&&◌, List, leb, length, get_or}
use Rattle.cluster.specs.Terms.{most_nodes}
use Rattle.cells.specs.ModelCells.{put}
use Rattle.exchange.specs.ModelLevels.{Graph, Outcome, potential_found, cycle_found, dist, back, outcome, cycle_length}
use Rattle.levels.specs.ModelGraph.{arc_cells, graph_of}

-- The cells of a walk: the nodes of a cycle, and its first one again.
abbrev pub walk_cells : ℕ
walk_cells = most_nodes + 1

-- Whether there is something to search, and room for the walk.
unfoldable pub searchable : List ℕ → ℕ → List ℕ → Bool
searchable arcs n walk = leb 1 n && (leb n most_nodes && (leb arc_cells (length arcs) && leb walk_cells (length walk)))

-- The length of the cycle that a search ended with; 0 where it ended with a potential.
unfoldable pub end_length : Graph → Outcome → ℕ
end_length G (potential_found k) = 0
end_length G (cycle_found k v) = cycle_length G k v

-- The walk back around the cycle that a search ended with, its first node again at its end; the cells after it stay.
unfoldable pub end_walk : Graph → Outcome → List ℕ → List ℕ
end_walk G (potential_found k) walk = walk
end_walk G (cycle_found k v) walk = put 0 (back G k v) (cycle_length G k v + 1) walk

-- The cells hold distances of a level, and where a search ended with a potential, that potential.
abbrev pub Levelled : Graph → Outcome → List ℕ → Type 0
Levelled G o cells = ((v : ℕ) → v < G.N → get_or cells v 0 ≤ G.N * G.C) × ((k : ℕ) → o ≡ potential_found k → (v : ℕ) → v < G.N → get_or cells v 0 ≡ dist G k v)

-- The length of the cycle that is found.
unfoldable pub found_length : List ℕ → ℕ → List ℕ → ℕ
found_length arcs n walk = cond (searchable arcs n walk) (end_length (graph_of arcs n) (outcome (graph_of arcs n))) 0

-- The lent cells, with the walk around the cycle that is found.
unfoldable pub found_walk : List ℕ → ℕ → List ℕ → List ℕ
found_walk arcs n walk = cond (searchable arcs n walk) (end_walk (graph_of arcs n) (outcome (graph_of arcs n)) walk) walk
