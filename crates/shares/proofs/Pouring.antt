-- The turns of loops that pour numbers into a room.
-- Assumes nothing.
use Prim.Native.Nat.{ℕ, ◌+◌, ◌-◌, min}
use mathlib.Core.Path.{◌≡◌, refl}
use native.Mathlib.Omega.{arith}
use Rattle.sums.specs.TermsSums.{sum_to}
use Rattle.dealing.specs.ModelDeal.{pour}
use Rattle.sums.proofs.Sum.{sum-next}

module _ (f : ℕ → ℕ) (room b left v x : ℕ) (l : left ≡ room - sum_to b f) (e : v ≡ f b) (h : x ≡ min left v) where
  -- What of the next number still goes in.
  pub pour_here : x ≡ pour room f b
  unfolding pour
  pour_here = omega arith

  -- What room is left.
  pub pour_left : left - x ≡ room - sum_to (b + 1) f
  pour_left = omega (arith, sum-next f b (sum_to b f) v refl e)
