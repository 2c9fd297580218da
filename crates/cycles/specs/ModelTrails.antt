-- From one level to the next: the ways that grow by a level, and the trace back through the rows of all levels.
-- Assumes nothing.
use Rattle.std.specs.Prelude.{ℕ, zero, suc, ◌+◌, ◌-◌, ◌*◌, Bool, ◌&&◌, List, eqb, get_or}
use Rattle.cluster.specs.Terms.{most_nodes}
use Rattle.sets.specs.ModelBits.{member_of, with_of}
use Rattle.sums.specs.ModelSums.{first_from}

-- The nodes behind v on its way, where it fell: the node that it came from, and those behind that one.
unfoldable pub behind : List ℕ → List ℕ → ℕ → ℕ
behind row way v = with_of (get_or way (get_or row v 0) 0) (get_or row v 0)

-- Whether v fell and is behind itself.
unfoldable pub returned : ℕ → List ℕ → List ℕ → ℕ → Bool
returned fell row way v = member_of fell v && member_of (behind row way v) v

-- The first node that is behind itself; n where there is none.
unfoldable pub closer : ℕ → ℕ → List ℕ → List ℕ → ℕ
closer n fell row way = first_from (returned fell row way) n 0

-- The node t steps back from v at level k, by a table with a row of nodes for each level.
unfoldable pub trail : List ℕ → ℕ → ℕ → ℕ → ℕ
trail table k v zero = v
trail table k v (suc t) = get_or table ((k - t) * most_nodes + trail table k v t) 0

-- The first step back, from 1 on, that is at v again.
unfoldable pub trail_length : List ℕ → ℕ → ℕ → ℕ
trail_length table k v = first_from (λ t. eqb (trail table k v t) v) k 1
