-- Certificates: sums by which anybody can check that no layout is valid at a larger size, and, by a price for each node, that none valid at the size
-- sends fewer copies.
-- Assumes nothing.
use Rattle.std.specs.Prelude.{ℕ, ◌+◌, ◌*◌, ◌/◌, ◌≤◌, ◌<◌, min, ◌≡◌, List, Bool, not, ◌⊎◌, eqb, length}
use Rattle.sums.specs.TermsSums.{sum_to, one_if, every_to}
use Rattle.cluster.specs.Terms.{Topology, partitions, node_at, mem, Layout, row, ValidRow, usable, ValidAt, only_in, sent}

-- The most copies that node b may hold at size s: one of each partition, its ceiling, and "its usable capacity over s, rounded down".
unfoldable pub room_at : Topology → ℕ → ℕ → ℕ
room_at t s b = min (min (partitions t) (node_at t b).ceiling) (usable (node_at t b) / s)

-- ---- no larger size

-- Whether no node before b lies in its zone, so that each zone is counted once.
unfoldable pub opens_zone : Topology → ℕ → Bool
opens_zone t b = every_to b (λ c. not (eqb (node_at t c).zone (node_at t b).zone))

-- In how many partitions the zone of node b can hold a copy at size s: its nodes have so much room, and each partition counts once.
unfoldable pub zone_room : Topology → ℕ → ℕ → ℕ
zone_room t s b = min (partitions t) (sum_to (length t.nodes) (λ c. one_if (eqb (node_at t c).zone (node_at t b).zone) * room_at t s c))

-- Size s is too large by one of two sums: there is no room for R copies of each partition, or not for each in Z zones.
abbrev pub Short : Topology → ℕ → Type 0
Short t s =
    (sum_to (length t.nodes) (room_at t s) < t.replication * partitions t)
    ⊎ (sum_to (length t.nodes) (λ b. one_if (opens_zone t b) * zone_room t s b) < t.redundancy * partitions t)

-- ---- no fewer copies

-- What row r costs a partition with the former row f: one for each copy to be sent, and the price of each of its nodes.
unfoldable pub costs : Topology → (ℕ → ℕ) → List ℕ → List ℕ → ℕ
costs t y f r = only_in r f + sum_to (length t.nodes) (λ b. one_if (mem (node_at t b).id r) * y b)

-- What all nodes can take together: for each its price times its room.
unfoldable pub takings : Topology → ℕ → (ℕ → ℕ) → ℕ
takings t s y = sum_to (length t.nodes) (λ b. room_at t s b * y b)

-- No valid row of partition p costs less than low p.
abbrev pub Lows : Topology → Layout → (ℕ → ℕ) → (ℕ → ℕ) → Type 0
Lows t F y low = (p : ℕ) → p < partitions t → (r : List ℕ) → ValidRow t r → low p ≤ costs t y (row F p) r

-- The certificate of a layout: what the cheapest rows cost together is what it sends and what the nodes can take.
pub record Certificate (t : Topology) (F : Layout) (s : ℕ) (L : Layout) (y low : ℕ → ℕ) : Type 0 where
  pub valid : ValidAt t L s
  pub lows : Lows t F y low
  pub exact : sum_to (partitions t) low ≡ sent t L F + takings t s y
