-- The bisected size is the largest at which a layout is within the caps.
-- Assumes nothing.
use Prim.Native.Nat.{ℕ, ◌^◌, ◌≤◌, ◌<◌}
use mathlib.Core.Logic.{⊎_elim}
use native.Mathlib.Nat.{one-le-mul}
use native.Mathlib.Omega.{arith}
use lib.Pow.{pow_pos, pow-lt}
use Rattle.sums.proofs.Sum.{lt_or_ge, sum_le, sum_zero}
use Rattle.exchange.specs.ModelRow.{Within}
use Rattle.dealing.specs.ModelDeal.{Fits, has_room, dealt}
use Rattle.dealing.specs.ModelBisect.{Largest}
use Rattle.dealing.specs.ModelSize.{best_size, Caps, Best}
use Rattle.dealing.proofs.Bisect.{bisect-largest}
use Rattle.dealing.proofs.Exists.{fits-true, true-fits, fits-rising, needed, enough}

module _ (n P N R Z : ℕ) (zone : ℕ → ℕ) (cap : ℕ → ℕ → ℕ) (bits : 1 ≤ n) (some : 1 ≤ P) (le : Z ≤ R)
    (zones : (x : ℕ) → x < N → zone x < N) (c : Caps P N cap) where
  fits_falls : (s s' : ℕ) → 1 ≤ s → s ≤ s' → Fits P N R Z zone (cap s') → Fits P N R Z zone (cap s)
  fits_falls s s' a l h = fits-rising P N R Z zone (cap s') (cap s) (λ b m. c.fall s s' b a l m) h

  bisected : Largest (2 ^ n) (λ s. has_room P N R Z zone (cap s)) (best_size n P N R Z zone cap)
  unfolding best_size
  bisected = bisect-largest (λ s. has_room P N R Z zone (cap s))
      (λ s s' a l e. fits-true P N R Z zone (cap s) (fits_falls s s' a l (true-fits P N R Z zone (cap s') e))) n

  deals : (s : ℕ) → 1 ≤ s → s ≤ best_size n P N R Z zone cap → Within P N R Z zone (cap s) (dealt P N R zone (cap s))
  deals s a l =
      let r = best_size n P N R Z zone cap in
      enough P N R Z zone (cap s) some zones (λ b m. c.most s b a m) le
      (fits_falls s r a l (true-fits P N R Z zone (cap r) (bisected.passes (omega arith))))

  largest : (s : ℕ) (S : ℕ → ℕ → ℕ) → 1 ≤ s → s < 2 ^ n → Within P N R Z zone (cap s) S → s ≤ best_size n P N R Z zone cap
  largest s S a l w = bisected.largest s a l (fits-true P N R Z zone (cap s) (needed P N R Z zone (cap s) S w))

  -- The bisected size is the best one.
  pub best_size_lem : Best (2 ^ n) P N R Z zone cap (best_size n P N R Z zone cap)
  best_size_lem =
      record {
        below = bisected.below;
        deals = deals;
        largest = largest;
        of_all = λ one none s S a w. ⊎_elim (λ l. largest s S a l w)
            (λ (l : 2 ^ n ≤ s). absurd (omega (
              arith,
              (needed P N R Z zone (cap s) S w).0,
              one-le-mul one some,
              sum_le N (cap s) (cap (2 ^ n)) (λ b m. c.fall (2 ^ n) s b (pow_pos n) l m),
              sum_zero N (cap (2 ^ n)) none,
            )))
            (lt_or_ge s (2 ^ n));
        no_layout = λ z S w. omega (arith, largest 1 S (omega arith) (pow-lt bits) w);
        no_size = λ none. ⊎_elim (λ (l : best_size n P N R Z zone cap < 1). omega arith)
            (λ (l : 1 ≤ best_size n P N R Z zone cap). absurd (none (dealt P N R zone (cap 1)) (deals 1 (omega arith) l)))
            (lt_or_ge (best_size n P N R Z zone cap) 1);
      }
