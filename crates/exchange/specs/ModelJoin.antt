-- One improvement of a layout as a function of its exchange graph: the search of the graph ends with a potential, and the layout stays, or with a
-- cycle, and the circuit that it stands for is freed of crossed pairs and turned. The record below is all that a program owes of the graph.
-- Assumes nothing.
use Rattle.std.specs.Prelude.{ℕ, suc, ◌+◌, ◌≤◌, ◌<◌, ◌≡◌, Bool, true, false}
use Rattle.exchange.specs.ModelRow.{Exchange, Within, Agree, copies, weigh}
use Rattle.exchange.specs.ModelCircuit.{cost, Allowed, Better}
use Rattle.exchange.specs.ModelLevels.{Graph, Outcome, potential_found, cycle_found, back, cycle_length}
use Rattle.exchange.specs.ModelUncross.{Walk, walk, improved}

-- G is the exchange graph of the layout S: every exchange has an arc that is no heavier, a node with room has an arc to each node that loses
-- nothing, and every arc from u to v is allowed at the partition q u v (at P: over the store of free room) and weighs what it costs there.
pub record ExchangeGraph (P N R Z C : ℕ) (zone cap : ℕ → ℕ) (g free S : ℕ → ℕ → ℕ) (G : Graph) (q : ℕ → ℕ → ℕ) : Type 0 where
  pub nodes : G.N ≡ N
  pub shift : G.C ≡ C
  pub exchanges : (p a b : ℕ) → p < P → Exchange N R Z zone free S p a b → (G.arc a b ≡ 1) × (G.W a b + g p b ≤ C + g p a)
  pub room : (u v : ℕ) → u < N → v < N → copies P S u < cap u → (G.arc u v ≡ 1) × (G.W u v ≤ C)
  pub witness : (u v : ℕ) → u < N → v < N → G.arc u v ≡ 1
      → Allowed P N R Z zone cap free S (q u v) u v × (cost P C g (q u v) u v ≡ G.W u v)

-- The walk along the cycle that v closes at level k, each arc at its partition.
unfoldable pub cycle_walk : Graph → (ℕ → ℕ → ℕ) → ℕ → ℕ → Walk
cycle_walk G q k v = walk (cycle_length G k v) (back G k v) (λ i. q (back G k v (suc i)) (back G k v i))

-- Whether an end of the search improves the layout.
unfoldable pub improves : Outcome → Bool
improves (potential_found k) = false
improves (cycle_found k v) = true

-- The next layout after an end of the search: the same one, or the one that the cycle leads to.
unfoldable pub next_layout : (P C : ℕ) (g : ℕ → ℕ → ℕ) (ok : ℕ → ℕ → ℕ → Bool) (G : Graph) (q S : ℕ → ℕ → ℕ) → Outcome → ℕ → ℕ → ℕ
next_layout P C g ok G q S (potential_found k) = S
next_layout P C g ok G q S (cycle_found k v) = improved P C g ok (cycle_walk G q k v) S

-- S weighs the most of all layouts within the caps that agree with it on the pairs that are not free.
abbrev pub Heaviest : (P N R Z : ℕ) (zone cap : ℕ → ℕ) (g free S : ℕ → ℕ → ℕ) → Type 0
Heaviest P N R Z zone cap g free S =
    (T : ℕ → ℕ → ℕ) → Within P N R Z zone cap T → Agree P N free S T → weigh P N g T ≤ weigh P N g S

-- What an end of the search says of the layout S, with T as the next layout: S is one of most weight, or T is better.
abbrev pub Settles : (P N R Z C : ℕ) (zone cap : ℕ → ℕ) (g free S T : ℕ → ℕ → ℕ) → Outcome → Type 0
Settles P N R Z C zone cap g free S T (potential_found k) = Heaviest P N R Z zone cap g free S
Settles P N R Z C zone cap g free S T (cycle_found k v) = Better P N R Z C zone cap g free S T
