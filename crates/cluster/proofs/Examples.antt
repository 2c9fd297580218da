-- The terms on small clusters of document 01's table, by computing: what the definitions say is what the paper says.
-- Assumes nothing.
use Prim.Native.Nat.{ℕ}
use mathlib.Core.Path.{◌≡◌, refl}
use mathlib.Core.Bool.{true, false}
use mathlib.Core.List.{List, [], ◌∷◌, map}
use native.Mathlib.Omega.{arith}
use Rattle.sums.specs.TermsSums.{sum_to, one_if}
use Rattle.cluster.specs.Terms.{Topology, mem, rising_from, rising, different, zones_named, zones_of, copies_in, usable, ValidAt, only_in, sent, distance}
use Rattle.cluster.specs.declared.Node.{Node}

abbrev pub node : ℕ → ℕ → ℕ → Node
node i z c = record { id = i; zone = z; capacity = c; ceiling = 256 }

abbrev pub A : Topology
A = record { bits = 1; replication = 3; redundancy = 2; nodes = node 1 1 100 ∷ node 2 1 70 ∷ node 3 2 50 ∷ [] }

abbrev pub E : Topology
E = record { bits = 1; replication = 1; redundancy = 1; nodes = node 1 1 10 ∷ node 2 1 4 ∷ [] }

abbrev H : Topology
H = record { bits = 0; replication = 1; redundancy = 1; nodes = node 1 1 10 ∷ [] }

abbrev I : Topology
I = record { bits = 0; replication = 1; redundancy = 1; nodes = node 1 1 5 ∷ node 2 1 5 ∷ [] }

abbrev pub K : Topology
K = record { bits = 0; replication = 3; redundancy = 2; nodes = node 1 1 9 ∷ node 2 1 9 ∷ node 3 1 9 ∷ node 4 2 1 ∷ [] }

abbrev row123 : List ℕ
row123 = 1 ∷ 2 ∷ 3 ∷ []

abbrev pub row124 : List ℕ
row124 = 1 ∷ 2 ∷ 4 ∷ []

-- A row rises strictly, and has no id 0.
rising_124 : rising row124 ≡ true
unfolding rising_from
rising_124 = refl

not_rising_114 : rising (1 ∷ 1 ∷ 4 ∷ []) ≡ false
unfolding rising_from
not_rising_114 = refl

not_rising_0 : rising (0 ∷ 1 ∷ []) ≡ false
unfolding rising_from
not_rising_0 = refl

-- A zone counts once.
zones_123 : zones_of K.nodes row123 ≡ 1
unfolding different zones_named mem one_if
zones_123 = refl

zones_124 : zones_of K.nodes row124 ≡ 2
unfolding different zones_named mem one_if
zones_124 = refl

-- A gone node counts in the distance.
distance-H : distance H ((1 ∷ []) ∷ []) ((9 ∷ []) ∷ []) ≡ 2
unfolding distance sum_to only_in mem one_if
distance-H = refl

distance-E : distance E ((1 ∷ []) ∷ (1 ∷ []) ∷ []) ((2 ∷ []) ∷ (2 ∷ []) ∷ []) ≡ 4
unfolding distance sum_to only_in mem one_if
distance-E = refl

distance-I : distance I ((1 ∷ []) ∷ []) ((1 ∷ 2 ∷ []) ∷ []) ≡ 1
unfolding distance sum_to only_in mem one_if
distance-I = refl

distance-K : distance K (row124 ∷ []) (row123 ∷ []) ≡ 2
unfolding distance sum_to only_in mem one_if
distance-K = refl

-- A partition without a former row had no former copies.
distance_none : distance E ((1 ∷ []) ∷ (1 ∷ []) ∷ []) ([] ∷ [] ∷ []) ≡ 2
unfolding distance sum_to only_in mem one_if
distance_none = refl

-- 2026-01: "Examples E, F, H, I and K now read 2, 1, 1, 0 and 1", of layouts that are nearest; a copy that is only dropped is not sent.
sent-E : sent E ((1 ∷ []) ∷ (1 ∷ []) ∷ []) ((2 ∷ []) ∷ (2 ∷ []) ∷ []) ≡ 2
unfolding sent sum_to only_in mem one_if
sent-E = refl

sent-H : sent H ((1 ∷ []) ∷ []) ((9 ∷ []) ∷ []) ≡ 1
unfolding sent sum_to only_in mem one_if
sent-H = refl

sent-I : sent I ((1 ∷ []) ∷ []) ((1 ∷ 2 ∷ []) ∷ []) ≡ 0
unfolding sent sum_to only_in mem one_if
sent-I = refl

sent-K : sent K (row124 ∷ []) (row123 ∷ []) ≡ 1
unfolding sent sum_to only_in mem one_if
sent-K = refl

-- Where there were no former copies, each copy is sent: half of the distance would be too few.
sent-none : sent E ((1 ∷ []) ∷ (1 ∷ []) ∷ []) ([] ∷ [] ∷ []) ≡ 2
unfolding sent sum_to only_in mem one_if
sent-none = refl

-- 2026-02: what of the disks of A may be filled.
usable-A : map usable A.nodes ≡ 94 ∷ 66 ∷ 47 ∷ []
unfolding usable
usable-A = refl

-- About the first two sixteenths, and of the largest disk: 15/16 of it rounded down would be 14, 15, 15, 29, 30 and one less.
usable_ends : map usable (map (node 1 1) (15 ∷ 16 ∷ 17 ∷ 31 ∷ 32 ∷ 4294967295 ∷ [])) ≡ 15 ∷ 15 ∷ 16 ∷ 30 ∷ 30 ∷ 4026531840 ∷ []
unfolding usable
usable_ends = refl

-- Node 1 of E holds two copies.
copies-E : copies_in ((1 ∷ []) ∷ (1 ∷ []) ∷ []) 1 ≡ 2
unfolding copies_in mem one_if
copies-E = refl

-- A layout of E with one row is valid at no size: E has two partitions.
short_E : (s : ℕ) → ValidAt E ((1 ∷ []) ∷ []) s → ⊥
short_E s v = absurd (omega (arith, v.partition_rows))
