-- The dealt rows, from the arrays of zones, caps, copies and starts.
-- Assumes nothing.
use Prim.Native.Nat.{◌+◌, ◌-◌, ℕ, ◌%◌, ◌≤◌, ◌<◌}
use mathlib.Core.Path.{◌≡◌, refl, ap, ap₂, ◌∙◌}
use mathlib.Core.List.{List}
use native.Mathlib.Nat.{mod-mod, mod-lt}
use native.Mathlib.Omega.{arith}
use lib.Dec.{ltb}
use Rattle.sums.specs.TermsSums.{one_if}
use Rattle.sets.specs.ModelBits.{mask_of}
use Rattle.sets.proofs.Bits.{mask_cong}
use Rattle.cells.specs.ModelCells.{put}
use Rattle.cluster.specs.Terms.{most_nodes, Topology, partitions}
use Rattle.incidence.specs.ModelIncidence.{zone_index, cap_at, cell, column, zone_cells}
use Rattle.dealing.specs.ModelDeal.{given, start, among, dealt}
use Rattle.dealing.proofs.Given.{given_le}
use Rattle.tallies.specs.ModelTallies.{Below, AtMost}
use Rattle.sizing.specs.ModelSizing.{nodes_of, cap_cells, dealt_bits, dealt_rows}
use Rattle.cells.proofs.Cells.{put_cong}
use Rattle.shares.proofs.Agree.{SameBelow, start_agree, dealt_agree, cells_agree}
use Rattle.sizing.proofs.Arrays.{zones-hold, caps-hold}

-- What is given is at most the caps.
pub copies-most : (P n R : ℕ) (zone cap : ℕ → ℕ) (copies : List ℕ) → n ≤ most_nodes → copies ≡ column (given P n R zone cap) n
    → (m : ℕ) → ((b : ℕ) → b < n → cap b ≤ m) → AtMost m n copies
copies-most P n R zone cap copies few e m h b l =
    omega (arith, cells_agree (given P n R zone cap) n copies few e b l, given_le P n R zone cap b, h b l)

-- Going round, a run begins where its start is modulo P.
among-round : (P x k p : ℕ) → among P (x % P) k p ≡ among P x k p
unfolding among
among-round P x k p = ap (λ (y : ℕ). one_if (ltb ((p + P - y) % P) k)) (mod-mod x P)

-- The starts are partitions.
pub starts-low : (P n : ℕ) (f : ℕ → ℕ) (starts : List ℕ) → n ≤ most_nodes → 0 < P → starts ≡ column (λ b. f b % P) n → Below P n starts
starts-low P n f starts few some e b l = omega (arith, cells_agree (λ b. f b % P) n starts few e b l, mod-lt (f b) some)

module _ (P n R : ℕ) (zone cap : ℕ → ℕ) (few : n ≤ most_nodes) (copies starts : List ℕ) (c : copies ≡ column (given P n R zone cap) n)
    (s : starts ≡ column (λ b. start P n zone (cell copies) b % P) n) where
  -- The arrays of copies and starts deal the rows.
  pub cells-deal : (p : ℕ) → SameBelow n (λ b. among P (cell starts b) (cell copies b) p) (dealt P n R zone cap p)
  unfolding dealt
  cells-deal p b l =
      let e : SameBelow n (cell copies) (given P n R zone cap) = cells_agree (given P n R zone cap) n copies few c in
      ap₂ (λ (x k : ℕ). among P x k p) (cells_agree (λ b. start P n zone (cell copies) b % P) n starts few s b l) (e b l)
      ∙ (among-round P (start P n zone (cell copies) b) (given P n R zone cap b) p
      ∙ ap (λ (x : ℕ). among P x (given P n R zone cap b) p) (start_agree n zone zone (λ b m. refl) P (cell copies) (given P n R zone cap) e b l))

-- They deal the rows of a cluster.
pub arrays_deal : (t : Topology) (s n P : ℕ) (zones caps copies starts l r : List ℕ) → nodes_of t ≤ most_nodes → n ≡ nodes_of t → P ≡ partitions t
    → zones ≡ zone_cells t → caps ≡ cap_cells t s → copies ≡ column (given P n t.replication (cell zones) (cell caps)) n
    → starts ≡ column (λ b. start P n (cell zones) (cell copies) b % P) n
    → r ≡ put 0 (λ p. mask_of (λ b. among P (cell starts b) (cell copies b) p) n) P l → r ≡ dealt_rows t s l
unfolding dealt_rows dealt_bits
arrays_deal t s n P zones caps copies starts l r few e q z k c w d =
    d ∙ (put_cong 0 (λ p. mask_of (λ b. among P (cell starts b) (cell copies b) p) n) (λ p. mask_of (dealt P n R (cell zones) (cell caps) p) n) P l
    (λ p m. mask_cong (λ b. among P (cell starts b) (cell copies b) p) (dealt P n R (cell zones) (cell caps) p) n
    (cells-deal P n R (cell zones) (cell caps) (omega arith) copies starts c w p))
    ∙ (ap₂ (λ (x y : ℕ). put 0 (λ p. mask_of (dealt x y R (cell zones) (cell caps) p) y) x l) q e
    ∙ put_cong 0 (λ p. mask_of (dealt (partitions t) (nodes_of t) R (cell zones) (cell caps) p) (nodes_of t)) (λ p. mask_of (dealt_bits t s p) (nodes_of t))
    (partitions t) l
    (λ p m. mask_cong (dealt (partitions t) (nodes_of t) R (cell zones) (cell caps) p) (dealt_bits t s p) (nodes_of t)
    (dealt_agree (nodes_of t) (cell zones) (zone_index t) (zones-hold t few zones z) (partitions t) R (cell caps) (cap_at t s) (caps-hold t few s caps k) p))))
  where
    R : ℕ
    R = t.replication
