-- What the functions compute, over sets of nodes as masks and slices as lists: the walk of a cycle, and the rows after the turn of a walk.
-- Assumes nothing.
use Rattle.std.specs.Prelude.{ℕ, suc, ◌+◌, List, get_or}
use Rattle.exchange.specs.ModelUncross.{Walk, walk}
use Rattle.freeing.specs.ModelFreed.{freed_of}
use Rattle.exchanging.specs.ModelExchanged.{walked_of}
unfoldable pub use Rattle.walks.specs.ModelWalks.{ok_of, witness_of}

-- The walk over the nodes of a cycle of m arcs, each at its witness.
abbrev pub cycle_of : List ℕ → List ℕ → ℕ → List ℕ → List ℕ → ℕ → ℕ → List ℕ → ℕ → Walk
cycle_of rows former P mates arcs all z nodes m =
    walk m (λ t. get_or nodes t 0) (λ t. witness_of rows former P mates arcs all z (get_or nodes (suc t) 0) (get_or nodes t 0))

-- The witness of the arc t over the nodes of a walk.
abbrev pub witness_in : List ℕ → List ℕ → List ℕ → ℕ → List ℕ → List ℕ → ℕ → ℕ → ℕ → ℕ
witness_in nodes rows former P mates arcs all z t = witness_of rows former P mates arcs all z (get_or nodes (t + 1) 0) (get_or nodes t 0)

-- The rows after the exchanges of a walk that is freed of crossed pairs.
abbrev pub turned_of : List ℕ → List ℕ → ℕ → List ℕ → ℕ → ℕ → Walk → List ℕ
turned_of rows former P mates all z w = walked_of P (freed_of rows former P mates all z w) rows
