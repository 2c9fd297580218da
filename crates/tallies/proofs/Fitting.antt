-- The test of caps, as it is computed from their sum and the sums of the zones.
-- Assumes nothing.
use Prim.Native.Nat.{ℕ, ◌*◌, ◌≤◌, ◌<◌, min}
use mathlib.Core.Path.{◌≡◌, sym, ap, ◌∙◌}
use mathlib.Core.Bool.{Bool, false, ◌&&◌}
use mathlib.Core.List.{List}
use native.Mathlib.Omega.{arith}
use lib.Dec.{leb}
use borrow.Author.Tests.{le-leb, lt-leb}
use Rattle.tallies.proofs.Adding.{sum_whole}
use Rattle.cluster.specs.Terms.{most_nodes}
use Rattle.sums.specs.TermsSums.{sum_to}
use Rattle.sums.proofs.Sum.{sum_cong}
use Rattle.dealing.specs.ModelDeal.{totals, in_zone, has_room}
use Rattle.incidence.specs.ModelIncidence.{cell, column}
use Rattle.incidence.proofs.Columns.{cell-column}

module _ (P n R Z : ℕ) (zone cap : ℕ → ℕ) (few : n ≤ most_nodes) (caps : (b : ℕ) → b < n → cap b ≤ P) where
  total-caps : (s : ℕ) → s ≡ sum_to n (λ b. min P (cap b)) → s ≡ sum_to n cap
  total-caps s e = e ∙ sum_whole cap n P caps

  -- Caps with too small a sum do not fit.
  pub fits_not : (s : ℕ) → s ≡ sum_to n (λ b. min P (cap b)) → s < R * P → false ≡ has_room P n R Z zone cap
  unfolding has_room
  fits_not s e l =
      ap (λ (t : Bool). t && leb (Z * P) (sum_to n (λ z. min P (in_zone zone cap z n))))
      (sym (lt-leb (R * P) (sum_to n cap) (omega (arith, total-caps s e))))

  -- Caps with a sum large enough fit where the zones are wide enough.
  pub fits-wide : (s w : ℕ) (l : List ℕ) → s ≡ sum_to n (λ b. min P (cap b)) → R * P ≤ s → l ≡ column (totals zone cap n) most_nodes
      → w ≡ sum_to n (λ z. min P (cell l z)) → leb (Z * P) w ≡ has_room P n R Z zone cap
  unfolding has_room
  fits-wide s w l e h d q =
      ap (λ (t : Bool). t && leb (Z * P) w) (sym (le-leb (R * P) (sum_to n cap) (omega (arith, total-caps s e))))
      ∙ ap (λ (k : ℕ). leb (R * P) (sum_to n cap) && leb (Z * P) k)
      (q ∙ sum_cong n (λ z. min P (cell l z)) (λ z. min P (in_zone zone cap z n))
      (λ z m. ap (λ (k : ℕ). min P k)
      (ap (λ (r : List ℕ). cell r z) d ∙ cell-column (totals zone cap n) most_nodes z (omega arith) (omega arith))))
