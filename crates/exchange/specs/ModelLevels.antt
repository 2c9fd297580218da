-- The search for a potential or a simple negative cycle, level by level. Level 0 gives every node the same distance; the next level lets
-- each node fall to the least that an arc from the level before offers. Where nothing falls any more, the distances are a potential. The way
-- back of a node that fell goes down one level a step, to the node whose arc made it fall; a node that is on its own way back closes a
-- cycle, and the first level with such a node ends the search.
-- Assumes nothing.
use Rattle.std.specs.Prelude.{ℕ, zero, suc, ◌+◌, ◌-◌, ◌*◌, ◌≤◌, ◌<◌, max, ◌≡◌, Bool, true, false, cond, ◌&&◌, ltb, eqb}
use Rattle.sums.specs.TermsSums.{sum_to}
use Rattle.sums.specs.ModelSums.{first_from, is}

-- A graph on the nodes below N: an arc from u to v where arc u v is 1; its weight is W u v less C.
pub record Graph : Type 0 where
  pub N : ℕ
  pub C : ℕ
  pub arc : ℕ → ℕ → ℕ
  pub W : ℕ → ℕ → ℕ

-- Where a node has come to at a level: its distance, shifted to stay natural, and the node whose arc took it there (itself if none did).
pub record Fall : Type 0 where
  pub dist : ℕ
  pub from : ℕ

-- The fall f of v, after a look at the arc from u, where nodes stand at d: the arc counts if it passes the test and offers less.
unfoldable pub relax : Graph → (ℕ → ℕ) → ℕ → ℕ → Bool → Fall → Fall
relax G d v u on f =
    cond (on && (eqb (G.arc u v) 1 && ltb (d u + G.W u v) (f.dist + G.C))) (record { dist = d u + G.W u v - G.C; from = u }) f

-- The fall of v by the arcs from the nodes below n that pass the test: the least that is offered, from the first node that offers it.
unfoldable pub scan : Graph → (ℕ → Bool) → (ℕ → ℕ) → ℕ → ℕ → Fall
scan G on d v zero = record { dist = d v; from = v }
scan G on d v (suc u) = relax G d v u (on u) (scan G on d v u)

-- Level k at node v.
unfoldable pub level : Graph → ℕ → ℕ → Fall
level G zero v = record { dist = G.N * G.C; from = v }
level G (suc k) v = scan G (λ u. true) (λ u. (level G k u).dist) v G.N

-- The distance of v at level k.
abbrev pub dist : Graph → ℕ → ℕ → ℕ
dist G k v = (level G k v).dist

-- The node whose arc took v to level k.
abbrev pub from : Graph → ℕ → ℕ → ℕ
from G k v = (level G k v).from

-- Whether v fell at level k. At level 0 every node counts as fallen: level 1 looks at the arcs of all.
unfoldable pub fell : Graph → ℕ → ℕ → Bool
fell G zero v = true
fell G (suc k) v = ltb (dist G (suc k) v) (dist G k v)

-- The node t steps back on the way from v at level k.
unfoldable pub back : Graph → ℕ → ℕ → ℕ → ℕ
back G k v zero = v
back G zero v (suc t) = v
back G (suc k) v (suc t) = back G k (from G (suc k) v) t

-- 1 where x is on the way back from v at level k, else 0.
unfoldable pub way : Graph → ℕ → ℕ → ℕ → ℕ
way G zero v x = is v x
way G (suc k) v x = max (is v x) (way G k (from G (suc k) v) x)

-- Whether v fell at level k and its way back comes to v again.
unfoldable pub closes : Graph → ℕ → ℕ → Bool
closes G zero v = false
closes G (suc k) v = fell G (suc k) v && eqb (way G k (from G (suc k) v) v) 1

-- How the search ends: the level whose distances are a potential, or the level and the node that close a cycle.
pub data Outcome : Type 0 where
  potential_found : ℕ → Outcome
  cycle_found : ℕ → ℕ → Outcome

-- The search after level k, for so many levels more.
unfoldable pub search_from : Graph → ℕ → ℕ → Outcome
search_from G zero k = potential_found k
search_from G (suc n) k =
    cond (ltb (first_from (fell G (suc k)) G.N 0) G.N)
    (cond (ltb (first_from (closes G (suc k)) G.N 0) G.N) (cycle_found (suc k) (first_from (closes G (suc k)) G.N 0))
    (search_from G n (suc k)))
    (potential_found k)

-- The search: N levels are enough.
unfoldable pub outcome : Graph → Outcome
outcome G = search_from G G.N 0

-- The length of the cycle that v closes at level k: the first step back, from 1 on, that is at v again.
unfoldable pub cycle_length : Graph → ℕ → ℕ → ℕ
cycle_length G k v = first_from (λ t. eqb (back G k v t) v) k 1

-- A potential: no arc leads from a node to one that stands higher than the arc's weight allows.
abbrev pub IsPotential : Graph → (ℕ → ℕ) → Type 0
IsPotential G d = (u v : ℕ) → u < G.N → v < G.N → G.arc u v ≡ 1 → d v + G.C ≤ d u + G.W u v

-- A simple cycle of negative weight, y 0, .., y (m - 1) with y m = y 0: arc i goes from y (i + 1) to y i.
pub record IsCycle (G : Graph) (m : ℕ) (y : ℕ → ℕ) : Type 0 where
  pub some : 1 ≤ m
  pub few : m ≤ G.N
  pub nodes : (i : ℕ) → i ≤ m → y i < G.N
  pub closed : y m ≡ y 0
  pub distinct : (i j : ℕ) → i < j → j < m → y i ≡ y j → ⊥
  pub arcs : (i : ℕ) → i < m → G.arc (y (suc i)) (y i) ≡ 1
  pub negative : sum_to m (λ i. G.W (y (suc i)) (y i)) < m * G.C
