-- One improvement of rows of masks: the walk that was turned last, where it stands again in the rows, else the cycle found in the graph of the rows; and
-- the exchanges of that walk. Nobody has to believe this file: the theorem of crates/planning/proofs/Demands.antt says in the paper's terms what it achieves.
-- Assumes nothing.
use Rattle.std.specs.Prelude.{ℕ, Bool, not, cond, List, eqb, replicate}
use Rattle.levels.specs.ModelGraph.{arc_cells}
use Rattle.sets.specs.ModelBits.{below_of}
use Rattle.graph.specs.ModelArcs.{arcs_of}
use Rattle.cycles.specs.ModelFound.{walk_cells, found_length, found_walk}
use Rattle.exchange.specs.ModelUncross.{Walk}
use Rattle.walks.specs.ModelWalks.{renewed, stands}
use Rattle.freeing.specs.ModelFreed.{freed_of}
use Rattle.circuits.specs.ModelCircuits.{cycle_of, turned_of}

-- What a run goes by: the rows, and what is left of the walk that was turned last.
pub record State : Type 0 where
  pub rows : List ℕ
  pub last : Walk

module _ (former : List ℕ) (P : ℕ) (mates caps : List ℕ) (n z : ℕ) where
  -- The masks of the exchange graph of the rows.
  unfoldable pub arcs_in : List ℕ → List ℕ
  arcs_in rows = arcs_of rows former P mates caps (below_of n) z (replicate arc_cells 0)

  -- The length of the cycle that is found in it, 0 where there is none.
  unfoldable pub cycle_in : List ℕ → ℕ
  cycle_in rows = found_length (arcs_in rows) n (replicate walk_cells 0)

  -- The walk of that cycle, each arc at its witness.
  unfoldable pub found_in : List ℕ → Walk
  found_in rows = cycle_of rows former P mates (arcs_in rows) (below_of n) z (found_walk (arcs_in rows) n (replicate walk_cells 0)) (cycle_in rows)

  -- The walk to turn next: the last one at new partitions, where it stands in the rows, else the one that is found.
  unfoldable pub sought_in : List ℕ → Walk → Walk
  sought_in rows w = cond (stands rows former P mates (below_of n) z caps w) (renewed rows former P mates (below_of n) z w) (found_in rows)

  -- The rows after the exchanges of a walk that is freed of crossed pairs, and what is left of the walk.
  unfoldable pub turned_in : List ℕ → Walk → State
  turned_in rows w = record { rows = turned_of rows former P mates (below_of n) z w; last = freed_of rows former P mates (below_of n) z w }

  -- Whether the rows can be improved: there is a walk to turn.
  unfoldable pub improves_in : State → Bool
  improves_in s = not (eqb (sought_in s.rows s.last).len 0)

  -- The state after that.
  unfoldable pub next_in : State → State
  next_in s = turned_in s.rows (sought_in s.rows s.last)

  -- What a step leaves: the walk to turn next, and where it is allowed, the rows after its turn.
  unfoldable pub stepped_in : Bool → List ℕ → Walk → State
  stepped_in allowed rows w = cond allowed (turned_in rows (sought_in rows w)) (record { rows = rows; last = sought_in rows w })
