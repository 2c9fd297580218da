-- Bisection finds the largest number that passes a falling test.
-- Assumes nothing.
use Prim.Native.Nat.{ℕ, zero, suc, ◌+◌, ◌^◌, ◌≤◌, ◌<◌}
use mathlib.Core.Path.{◌≡◌, refl, sym, ◌∙◌, subst}
use mathlib.Core.Bool.{Bool, true, false, cond, true≢false}
use mathlib.Core.Logic.{⊎_elim}
use native.Mathlib.Nat.{two-pow-succ, pow-zero}
use native.Mathlib.Omega.{arith}
use lib.Pow.{pow_pos}
use Rattle.sums.proofs.Sum.{lt_or_ge}
use Rattle.dealing.specs.ModelBisect.{bisect_from, bisect, Largest}

-- A test that every number from 1 up passes which is below one that passes it.
abbrev pub Falling : (ℕ → Bool) → Type 0
Falling t = (s s' : ℕ) → 1 ≤ s → s ≤ s' → t s' ≡ true → t s ≡ true

module _ (t : ℕ → Bool) (falls : Falling t) where
  -- A bound that fails bounds whatever passes above it.
  raise : (u m r : ℕ) → 1 ≤ u → u ≤ m → t u ≡ false → Largest u t r → Largest m t r
  raise u m r one le fails g =
      record {
        below = omega (arith, g.below);
        passes = g.passes;
        largest = λ x a l e. ⊎_elim (λ (b : x < u). g.largest x a b e) (λ (b : u ≤ x). absurd (true≢false (sym (falls u x one b e) ∙ fails))) (lt_or_ge x u);
      }

  from : (i s : ℕ) → (1 ≤ s → t s ≡ true) → Largest (s + 2 ^ i) t (bisect_from i t s)
  unfolding bisect_from
  from zero s h =
      record { below = omega (arith, pow_pos 0); passes = h; largest = λ x a l e. omega (arith, pow-zero 2) }
  from (suc i) s h = go (t (s + 2 ^ i)) refl (λ (u : ℕ) (k : 1 ≤ u → t u ≡ true). from i u k)
    where
      go : (b : Bool) → t (s + 2 ^ i) ≡ b → ((u : ℕ) → (1 ≤ u → t u ≡ true) → Largest (u + 2 ^ i) t (bisect_from i t u))
          → Largest (s + 2 ^ suc i) t (bisect_from i t (cond b (s + 2 ^ i) s))
      go true e r =
          let q : s + 2 ^ i + 2 ^ i ≡ s + 2 ^ suc i = omega (arith, two-pow-succ i) in
          subst (λ (m : ℕ). Largest m t (bisect_from i t (s + 2 ^ i))) q (r (s + 2 ^ i) (λ a. e))
      go false e r = raise (s + 2 ^ i) (s + 2 ^ suc i) (bisect_from i t s) (omega (arith, pow_pos i)) (omega (arith, two-pow-succ i)) e (r s h)

  -- The bisected number is the largest below 2 ^ n that passes.
  pub bisect-largest : (n : ℕ) → Largest (2 ^ n) t (bisect n t)
  unfolding bisect
  bisect-largest n =
      let q : 0 + 2 ^ n ≡ 2 ^ n = omega arith in
      subst (λ (m : ℕ). Largest m t (bisect_from n t 0)) q (from n 0 (λ a. absurd (omega arith)))
