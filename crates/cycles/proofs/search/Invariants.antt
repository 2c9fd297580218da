-- `cycles::search` meets its contract: at the start of each turn the cells hold a level, and what is to come from there is what the search comes to.
-- Assumes nothing.
use Prim.Native.Nat.{◌-◌}
use mathlib.Core.Path.{◌≡◌}
use Rattle.exchange.specs.ModelLevels.{outcome, search_from}
use Rattle.levels.specs.ModelGraph.{graph_of}
use Rattle.levels.specs.ModelTurns.{AtMost}
use Rattle.cycles.proofs.States.{State}
use Rattle.cycles.proofs.search.Given as goal

abbrev pub invariant-loop-k : goal.invariant-loop-k
invariant-loop-k l =
    (l.walk ≡ l.initial.walk) × (l.grown ≡ l.way) × (outcome (graph_of l.arcs l.n) ≡ search_from (graph_of l.arcs l.n) (l.n - l.k) l.k)
    × State (graph_of l.arcs l.n) l.k l.mask l.dist l.next l.way l.table × AtMost l.n l.next l.atmost
