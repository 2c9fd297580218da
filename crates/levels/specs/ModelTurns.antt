-- What the parts of a level do: the offers of one distance, from the first node on, and a sweep over the distances, from the least on.
-- Assumes nothing.
use Rattle.std.specs.Prelude.{ℕ, ◌+◌, ◌*◌, ◌≤◌, ◌<◌, ◌≡◌, cond, List, ltb, leb, get_or}
use Rattle.cluster.specs.Terms.{most_nodes}
use Rattle.sums.specs.TermsSums.{one_if}
use Rattle.sets.specs.ModelBits.{bit, member_of, below_of}
use Rattle.exchange.specs.ModelLevels.{Fall, scan}
use Rattle.levels.specs.ModelGraph.{graph_of}

-- The fall f of a node that stood at d is held in cells: its distance x, the node y it came from, where it fell, and its mark b.
pub record Held (d : ℕ) (f : Fall) (x y b : ℕ) : Type 0 where
  pub low : f.dist ≤ d
  pub dist : x ≡ f.dist
  pub from : f.dist < d → y ≡ f.from
  pub mark : b ≡ one_if (ltb f.dist d)

-- The cells of l', where a node v has the digit b v ≡ 1, hold x v; those of the others are as in l.
pub record Settled (b x : ℕ → ℕ) (l l' : List ℕ) : Type 0 where
  pub taken : (v : ℕ) → v < most_nodes → b v ≡ 1 → get_or l' v 0 ≡ x v
  pub left : (v : ℕ) → v < most_nodes → b v ≡ 0 → get_or l' v 0 ≡ get_or l v 0

-- For each distance c below top there is the set of the nodes that stand at c or below.
abbrev pub AtMost : ℕ → List ℕ → List ℕ → Type 0
AtMost top next atmost = (v c : ℕ) → v < most_nodes → c < top → bit (get_or atmost c 0) v ≡ one_if (leb (get_or next v 0) c)

-- A set of nodes below n.
abbrev pub Nodes : ℕ → ℕ → Type 0
Nodes n s = (v : ℕ) → v < most_nodes → n ≤ v → bit s v ≡ 0

-- Before level k + 1: nodes stand at d, at n - k or above, and next and the sets of the distances say so; the members of mask may let others fall.
pub record Ready (n k mask : ℕ) (d next atmost : List ℕ) : Type 0 where
  pub small : n ≤ most_nodes
  pub level : k < n
  pub stand : AtMost n next atmost
  pub nodes : Nodes n mask
  pub high : (v : ℕ) → v < n → n ≤ get_or d v 0 + k
  pub low : (v : ℕ) → v < n → get_or d v 0 ≤ n
  pub same : (v : ℕ) → v < n → get_or next v 0 ≡ get_or d v 0

-- The nodes at distance c or below: from n on those are all.
unfoldable pub stand_of : List ℕ → ℕ → ℕ → ℕ
stand_of atmost n c = cond (ltb c n) (get_or atmost c 0) (below_of n)

-- Where the sets begin by which u offers a distance: it stands below it, at it, or above it.
unfoldable pub weight_from : ℕ → ℕ → ℕ → ℕ
weight_from even up u = cond (member_of up u) (2 * most_nodes) (cond (member_of even u) most_nodes 0)

-- The nodes that u offers the distance to.
abbrev pub leads_to : List ℕ → ℕ → ℕ → ℕ → ℕ
leads_to arcs even up u = get_or arcs (weight_from even up u + u) 0

-- The members of s below t have offered distance c, u to the members of lead u: the members of free that were offered it have taken it, each from the
-- first that did, and the others are still free.
pub record Taken (s : ℕ) (lead : ℕ → ℕ) (t free still c : ℕ) (next row next' row' : List ℕ) : Type 0 where
  pub part : (v : ℕ) → v < most_nodes → bit still v ≤ bit free v
  pub none : (u v : ℕ) → v < most_nodes → bit still v ≡ 1 → u < t → bit s u ≡ 1 → bit (lead u) v ≡ 0
  pub kept : (v : ℕ) → v < most_nodes → bit still v ≡ bit free v → (get_or next' v 0 ≡ get_or next v 0) × (get_or row' v 0 ≡ get_or row v 0)
  pub took : (v : ℕ) → v < most_nodes → bit still v < bit free v → get_or next' v 0 ≡ c
  pub node : (v : ℕ) → v < most_nodes → bit still v < bit free v → (get_or row' v 0 < most_nodes) × (bit s (get_or row' v 0) ≡ 1) × (bit (lead (get_or row' v 0)) v ≡ 1)
  pub first : (u v : ℕ) → v < most_nodes → bit still v < bit free v → u < get_or row' v 0 → bit s u ≡ 1 → bit (lead u) v ≡ 0

-- The cells of each node below n hold its fall after a scan of the arcs from the members of a set, where nodes stand at d.
abbrev pub Swept : List ℕ → ℕ → ℕ → List ℕ → List ℕ → List ℕ → ℕ → Type 0
Swept arcs n mask d next row fell =
    (v : ℕ) → v < n
    → Held (get_or d v 0) (scan (graph_of arcs n) (member_of mask) (λ u. get_or d u 0) v n) (get_or next v 0) (get_or row v 0) (bit fell v)

-- One level down from level k: the scan of each node below n in next, in row k + 1 of the table, and in the set of the nodes that fell. The rows
-- before it stay.
pub record Descended (arcs : List ℕ) (n k mask : ℕ) (d next table₀ table : List ℕ) (fell : ℕ) : Type 0 where
  pub swept : (v : ℕ) → v < n
      → Held (get_or d v 0) (scan (graph_of arcs n) (member_of mask) (λ u. get_or d u 0) v n) (get_or next v 0) (get_or table ((k + 1) * most_nodes + v) 0) (bit fell v)
  pub kept : (i : ℕ) → i < (k + 1) * most_nodes → get_or table i 0 ≡ get_or table₀ i 0
  pub nodes : Nodes n fell
