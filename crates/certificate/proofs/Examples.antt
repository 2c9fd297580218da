-- The terms of a certificate, tried on lines of the paper's table and on one with a ceiling: rooms, what the rows cost, the two sides of `exact`, and
-- the sum that falls short at the next size.
-- Assumes nothing.
use Prim.Native.Nat.{ℕ, ◌+◌, ◌*◌}
use mathlib.Core.Path.{◌≡◌, refl}
use mathlib.Core.List.{List, [], ◌∷◌}
use lib.ListN.{get_or}
use Rattle.sums.specs.TermsSums.{sum_to, one_if, every_to}
use Rattle.cluster.specs.Terms.{Topology, mem, Layout, row, usable, only_in, sent}
use Rattle.cluster.specs.declared.Node.{Node}
use Rattle.certificate.specs.TermsCertificate.{room_at, opens_zone, zone_room, costs, takings}

abbrev node : ℕ → ℕ → ℕ → ℕ → Node
node i zone capacity ceiling = record { id = i; zone = zone; capacity = capacity; ceiling = ceiling }

-- Two partitions, one copy each.
abbrev pair : List Node → Topology
pair nodes = record { bits = 1; replication = 1; redundancy = 1; nodes = nodes }

-- One partition, three copies in two zones.
abbrev four : Topology
four =
    record { bits = 0; replication = 3; redundancy = 2; nodes = node 1 1 9 256 ∷ node 2 1 9 256 ∷ node 3 1 9 256 ∷ node 4 2 1 256 ∷ [] }

abbrev prices : List ℕ → ℕ → ℕ
prices l b = get_or l b 0

abbrev rows : ℕ → ℕ → Layout
rows a b = (a ∷ []) ∷ (b ∷ []) ∷ []

-- The rooms of the first two nodes at a size, what the rows of a layout cost together, what it sends, and what the nodes can take.
abbrev Sheet : Topology → Layout → Layout → ℕ → (ℕ → ℕ) → ℕ → ℕ → ℕ → ℕ → ℕ → Type 0
Sheet t F L s y room₀ room₁ low sends takes =
    (room_at t s 0 ≡ room₀) × (room_at t s 1 ≡ room₁) × (sum_to 2 (λ p. costs t y (row F p) (row L p)) ≡ low) × (sent t L F ≡ sends) × (takings t s y ≡ takes)
    × (low ≡ sends + takes)

module _ where
  -- E: the second node has no room, and a price.
  line_e : Sheet (pair (node 1 1 10 256 ∷ node 2 1 4 256 ∷ [])) (rows 2 2) (rows 1 1) 5 (prices (0 ∷ 1 ∷ [])) 2 0 2 2 0
  unfolding room_at usable costs takings sent only_in mem sum_to one_if
  line_e = (refl, refl, refl, refl, refl, refl)

  -- F: the first node is full, and has a price.
  line_f : Sheet (pair (node 1 1 10 256 ∷ node 2 1 10 256 ∷ [])) (rows 1 1) (rows 1 2) 10 (prices (1 ∷ 0 ∷ [])) 1 1 2 1 1
  unfolding room_at usable costs takings sent only_in mem sum_to one_if
  line_f = (refl, refl, refl, refl, refl, refl)

  -- F with a first disk on which two copies had room, 300 MB being usable, and a ceiling of 1: it is full by its ceiling.
  line_ceiling : Sheet (pair (node 1 1 320 1 ∷ node 2 1 160 256 ∷ [])) (rows 1 1) (rows 1 2) 150 (prices (1 ∷ 0 ∷ [])) 1 1 2 1 1
  unfolding room_at usable costs takings sent only_in mem sum_to one_if
  line_ceiling = (refl, refl, refl, refl, refl, refl)

  -- ---- the next size

  -- E at 6: the first node has room for one copy, and two are wanted.
  larger_e : sum_to 2 (room_at (pair (node 1 1 10 256 ∷ node 2 1 4 256 ∷ [])) 6) ≡ 1
  unfolding room_at usable sum_to
  larger_e = refl

  -- K at 2: there is room for three copies, as many as are wanted, but in one zone, where two are wanted; the three nodes of zone 1 count once.
  larger_k : (sum_to 4 (room_at four 2) ≡ 3) × (sum_to 4 (λ b. one_if (opens_zone four b) * zone_room four 2 b) ≡ 1)
  unfolding room_at opens_zone zone_room usable sum_to every_to one_if
  larger_k = (refl, refl)
