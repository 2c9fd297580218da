-- What of a node's disk may be filled, what a node takes, and that the highest ceiling is none.
-- Assumes nothing.
use Prim.Native.Nat.{ℕ, ◌*◌, ◌/◌, ◌≤◌, ◌<◌}
use mathlib.Core.Path.{◌≡◌, ap₂}
use mathlib.Core.Bool.{true, ◌&&◌}
use mathlib.Core.List.{[], ◌∷◌}
use mathlib.Core.Logic.{◌↔◌}
use native.Mathlib.Nat.{le-div_iff_mul-le, div-eq_of_lt}
use native.Mathlib.Omega.{arith}
use lib.Dec.{leb}
use lib.ListN.{length}
use borrow.Author.Tests.{leb-true, le-leb}
use Rattle.sums.proofs.Tests.{both, one-if_le}
use Rattle.cluster.specs.Terms.{most_bits, most_ceiling, Topology, partitions, Layout, mem, copies_in, usable, takes}
use Rattle.cluster.specs.declared.Node.{Node}
use Rattle.cluster.proofs.Accepting.{few_partitions}

-- No more is usable than there is,
pub usable_le : (n : Node) → usable n ≤ n.capacity
unfolding usable
usable_le n = omega arith

-- and "capacities below 16 lose no part".
pub usable_small : (n : Node) → n.capacity < 16 → usable n ≡ n.capacity
unfolding usable
usable_small n h = omega (arith, div-eq_of_lt h)

module _ (n : Node) (k s : ℕ) where
  -- A node takes copies exactly where they are within its usable capacity and within its ceiling,
  pub takes-held : (takes n k s ≡ true) ↔ ((k * s ≤ usable n) × (k ≤ n.ceiling))
  unfolding takes
  takes-held = (
    λ e. let a = both (leb k n.ceiling) (leb (k * s) (usable n)) e in (leb-true (k * s) (usable n) a.1, leb-true k n.ceiling a.0),
    λ h. ap₂ ◌&&◌ (le-leb k n.ceiling h.1) (le-leb (k * s) (usable n) h.0),
  )

  -- and at a size exactly where they are at most "its usable capacity over s, rounded down", and within its ceiling.
  pub takes_few : 1 ≤ s → (takes n k s ≡ true) ↔ ((k ≤ usable n / s) × (k ≤ n.ceiling))
  takes_few h = (
    λ e. let a = takes-held.0 e in ((le-div_iff_mul-le h).1 a.0, a.1),
    λ l. takes-held.1 ((le-div_iff_mul-le h).0 l.0, l.1),
  )

-- No id has more copies than there are rows.
pub copies_few : (L : Layout) (i : ℕ) → copies_in L i ≤ length L
unfolding copies_in
copies_few [] i = omega arith
copies_few (r ∷ rs) i = omega (arith, one-if_le (mem i r), copies_few rs i)

-- 2026-05: "The examples carry 256". A ceiling of 256 limits no layout: there are no more partitions.
pub no_ceiling : (t : Topology) (L : Layout) (n : Node) → t.bits ≤ most_bits → length L ≡ partitions t → n.ceiling ≡ most_ceiling → copies_in L n.id ≤ n.ceiling
no_ceiling t L n k e h = omega (arith, copies_few L n.id, few_partitions t.bits k)
