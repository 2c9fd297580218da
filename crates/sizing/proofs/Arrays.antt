-- What the arrays of zones and caps hold, and what they give the test and the dealt rows of a cluster.
-- Assumes nothing.
use Prim.Native.Nat.{◌^◌, min, ℕ, ◌*◌, ◌≤◌, ◌<◌}
use mathlib.Core.Path.{◌≡◌, sym, ap, ap₂, ◌∙◌}
use mathlib.Core.Bool.{Bool, false, ◌&&◌}
use native.Mathlib.Nat.{div-eq_of_lt, mul-pos}
use mathlib.Core.List.{List}
use native.Mathlib.Omega.{arith}
use lib.Dec.{leb}
use borrow.Author.Tests.{lt-leb}
use lib.Pow.{pow_pos}
use Rattle.sums.specs.TermsSums.{sum_to}
use Rattle.sums.proofs.Sum.{sum_zero}
use Rattle.cluster.proofs.Accepting.{partitions_in_range}
use Rattle.cluster.specs.Terms.{most_nodes, most_bits, Topology, partitions, node_at, usable}
use Rattle.cluster.specs.TermsReading.{Accepted}
use Rattle.incidence.specs.ModelIncidence.{zone_index, cap_at, cell, zone_cells}
use Rattle.incidence.proofs.TieZones.{zone_below}
use Rattle.dealing.specs.ModelDeal.{in_zone, has_room}
use Rattle.tallies.specs.ModelTallies.{Below, AtMost}
use Rattle.sizing.specs.ModelSizing.{nodes_of, cap_cells}
use Rattle.shares.proofs.Agree.{SameBelow, fits_agree, cells_agree}

-- The number of partitions that is counted for a cluster without fault: its own, and one at least.
pub partitions_known : (t : Topology) → Accepted t → (r : ℕ) → r ≡ 2 ^ min t.bits most_bits → (r ≡ partitions t) × (1 ≤ r)
partitions_known t a r e = let d = e ∙ partitions_in_range t.bits a.bits in (d, omega (arith, pow_pos t.bits))

module _ (t : Topology) (few : nodes_of t ≤ most_nodes) where
  -- The array of zones holds the zone indices.
  pub zones-hold : (l : List ℕ) → l ≡ zone_cells t → SameBelow (nodes_of t) (cell l) (zone_index t)
  unfolding zone_cells
  zones-hold l e = cells_agree (zone_index t) (nodes_of t) l few e

  -- They are indices of nodes.
  pub zones-most : (l : List ℕ) → l ≡ zone_cells t → Below most_nodes (nodes_of t) l
  zones-most l e b h = omega (arith, zones-hold l e b h, zone_below t b h)

  module _ (s : ℕ) where
    -- The array of caps holds the caps.
    pub caps-hold : (l : List ℕ) → l ≡ cap_cells t s → SameBelow (nodes_of t) (cell l) (cap_at t s)
    unfolding cap_cells
    caps-hold l e = cells_agree (cap_at t s) (nodes_of t) l few e

    -- They are at most the number of partitions.
    pub caps-most : (l : List ℕ) → l ≡ cap_cells t s → AtMost (partitions t) (nodes_of t) l
    caps-most l e b h = unfold cap_at in omega (arith, caps-hold l e b h)

    -- The test of the arrays is the test of the cluster.
    pub arrays_fit : (n p : ℕ) (zones caps : List ℕ) (r : Bool) → n ≡ nodes_of t → p ≡ partitions t → zones ≡ zone_cells t → caps ≡ cap_cells t s
        → r ≡ has_room p n t.replication t.redundancy (cell zones) (cell caps)
        → r ≡ has_room (partitions t) (nodes_of t) t.replication t.redundancy (zone_index t) (cap_at t s)
    arrays_fit n p zones caps r e q z k d =
        d ∙ (ap₂ (λ (x y : ℕ). has_room x y t.replication t.redundancy (cell zones) (cell caps)) q e
        ∙ fits_agree (nodes_of t) (cell zones) (zone_index t) (zones-hold zones z) (partitions t) t.replication t.redundancy (cell caps)
        (cap_at t s) (caps-hold caps k))

-- No layout has a size above all usable capacities.
pub none_above : (t : Topology) (most s : ℕ) → Accepted t → ((b : ℕ) → b < nodes_of t → usable (node_at t b) ≤ most) → most < s
    → false ≡ has_room (partitions t) (nodes_of t) t.replication t.redundancy (zone_index t) (cap_at t s)
unfolding has_room cap_at
none_above t most s a h l =
    sym (ap (λ (b : Bool). b && leb (t.redundancy * partitions t) (sum_to (nodes_of t) (λ z. min (partitions t) (in_zone (zone_index t) (cap_at t s) z (nodes_of t)))))
    (lt-leb (t.replication * partitions t) (sum_to (nodes_of t) (cap_at t s)) (omega (arith, none, some))))
  where
    none : sum_to (nodes_of t) (cap_at t s) ≡ 0
    none = sum_zero (nodes_of t) (cap_at t s) (λ b k. omega (arith, div-eq_of_lt {n = usable (node_at t b)} {m = s} (omega (arith, h b k))))

    some : 1 ≤ t.replication * partitions t
    some = mul-pos a.replication.0 (pow_pos t.bits)
