-- The size and the beginning of a cluster in the terms of document 01.
-- Assumes nothing.
use Prim.Native.Nat.{ℕ, ◌/◌, ◌^◌, ◌≤◌, ◌<◌}
use mathlib.Core.Path.{◌≡◌}
use native.Mathlib.Nat.{le-div_iff_mul-le, div-mul-le_self, mul-le-mul_left, div-eq_of_lt}
use native.Mathlib.Omega.{arith}
use lib.Pow.{pow_pos}
use Rattle.exchange.specs.ModelRow.{Within}
use Rattle.cluster.specs.Terms.{Topology, partitions, node_at, Layout, usable, ValidAt, IsSize}
use Rattle.cluster.specs.TermsReading.{Accepted, Fits32}
use Rattle.cluster.proofs.Taking.{usable_le}
use Rattle.incidence.specs.ModelIncidence.{zone_index, cap_at, incidence, layout_of}
use Rattle.incidence.proofs.TieZones.{zone_below}
use Rattle.incidence.proofs.TieLayouts.{within_of_valid, valid_of_within}
use Rattle.dealing.specs.ModelSize.{Caps, Best}
use Rattle.dealing.proofs.Size.{best_size_lem}
use Rattle.dealing.proofs.Exists.{dealt_le}
use Rattle.tallies.specs.ModelTallies.{size_bits}
use Rattle.sizing.specs.ModelSizing.{nodes_of, size_of, dealt_bits}

-- A larger size leaves room for no more copies.
copies-fall : (n s s' : ℕ) → 1 ≤ s → s ≤ s' → n / s' ≤ n / s
copies-fall n s s' a l =
    (le-div_iff_mul-le a).1 (omega (arith, mul-le-mul_left (n / s') l, div-mul-le_self n s'))

-- The caps are at most the number of partitions, and fall as the size grows.
pub caps_law : (t : Topology) → Caps (partitions t) (nodes_of t) (cap_at t)
caps_law t =
    record {
      most = λ s b a h. unfold cap_at in omega arith;
      fall = λ s s' b a l h. unfold cap_at in omega (arith, copies-fall (usable (node_at t b)) s s' a l);
    }

-- At a size above its usable capacity a node holds no copy.
pub caps-none : (t : Topology) (s b : ℕ) → usable (node_at t b) < s → cap_at t s b ≡ 0
unfolding cap_at
caps-none t s b h = omega (arith, div-eq_of_lt h)

-- A dealt row has 0 or 1 at each node.
pub beginning_le : (t : Topology) (s p b : ℕ) → dealt_bits t s p b ≤ 1
unfolding dealt_bits
beginning_le t s p b = dealt_le (partitions t) (nodes_of t) t.replication (zone_index t) (cap_at t s) p b

module _ (t : Topology) (a : Accepted t) where
  -- The size is the best one, in the terms of 0/1 rows.
  pub size_best : Best (2 ^ size_bits) (partitions t) (nodes_of t) t.replication t.redundancy (zone_index t) (cap_at t) (size_of t)
  unfolding size_of
  size_best =
      best_size_lem size_bits (partitions t) (nodes_of t) t.replication t.redundancy (zone_index t) (cap_at t) (omega arith) (pow_pos t.bits)
      a.redundancy.1 (zone_below t) (caps_law t)

  -- At the size, and at every smaller one from 1 up, the beginning is within the caps.
  pub beginning_within : (s : ℕ) → 1 ≤ s → s ≤ size_of t
      → Within (partitions t) (nodes_of t) t.replication t.redundancy (zone_index t) (cap_at t s) (dealt_bits t s)
  unfolding dealt_bits
  beginning_within s l h = size_best.deals s l h

  -- It is a layout valid at that size.
  pub beginning_valid : (s : ℕ) → 1 ≤ s → s ≤ size_of t → ValidAt t (layout_of t (dealt_bits t s)) s
  beginning_valid s l h = valid_of_within t a.ids (dealt_bits t s) s l (beginning_within s l h)

  -- No layout is valid at a larger size.
  pub size-largest : Fits32 t → (L : Layout) (s : ℕ) → ValidAt t L s → s ≤ size_of t
  size-largest low L s v =
      size_best.of_all a.replication.0 (λ b h. caps-none t (2 ^ size_bits) b (omega (arith, low b h, usable_le (node_at t b)))) s (incidence t L) v.positive
      (within_of_valid t a.ids L s v)

  -- Where it is not 0, it is the size of the cluster.
  pub size_is : Fits32 t → 1 ≤ size_of t → IsSize t (size_of t)
  size_is low l =
      record { reached = (layout_of t (dealt_bits t (size_of t)), beginning_valid (size_of t) l (omega arith)); largest = size-largest low }

  -- Where it is 0, no layout is valid at size 1.
  pub size_none : size_of t ≡ 0 → (L : Layout) → ValidAt t L 1 → ⊥
  size_none e L v = size_best.no_layout e (incidence t L) (within_of_valid t a.ids L 1 v)

  -- Where no layout is valid at size 1, it is 0.
  pub none-size : ((L : Layout) → ValidAt t L 1 → ⊥) → size_of t ≡ 0
  none-size h = size_best.no_size (λ S w. h (layout_of t S) (valid_of_within t a.ids S 1 (omega arith) w))
