-- The telescoping of a rising function along running sums: it fills rooms, zones and partitions alike. And sums over the nodes by their zones.
-- Assumes nothing.
use Prim.Native.Nat.{ℕ, zero, suc, ◌+◌, ◌-◌, ◌*◌, ◌≤◌, ◌<◌, min}
use mathlib.Core.Path.{◌≡◌, sym, ap, ◌∙◌}
use mathlib.Core.Logic.{⊎_elim}
use native.Mathlib.Nat.{add-zero, mul-le-mul_left}
use native.Mathlib.Omega.{arith}
use Rattle.sums.specs.TermsSums.{sum_to}
use Rattle.sums.specs.ModelSums.{is}
use Rattle.sums.proofs.Sum.{eq_or_ne, is_times, not_times, sum_cong, sum_le, sum-swap, sum_is}
use Rattle.dealing.specs.ModelDeal.{in_zone, pour, zoned}

-- A rising function.
abbrev pub Rising : (ℕ → ℕ) → Type 0
Rising g = (x y : ℕ) → x ≤ y → g x ≤ g y

-- How far g rises at step i of the running sum of f from a.
unfoldable pub climb : (ℕ → ℕ) → ℕ → (ℕ → ℕ) → ℕ → ℕ
climb g a f i = g (a + sum_to i f + f i) - g (a + sum_to i f)

-- All steps together rise from g a to g at the whole sum.
pub climb_sum : (g : ℕ → ℕ) → Rising g → (a : ℕ) (f : ℕ → ℕ) (n : ℕ) → g a + sum_to n (climb g a f) ≡ g (a + sum_to n f)
unfolding sum_to climb
climb_sum g up a f zero = add-zero (g a) ∙ ap g (sym (add-zero a))
climb_sum g up a f (suc n) =
    let e : a + sum_to n f + f n ≡ a + (sum_to n f + f n) = omega arith in
    omega (arith, climb_sum g up a f n, ap g e, up (a + sum_to n f) (a + sum_to n f + f n) (omega arith))

-- A step of no length rises by nothing.
pub climb_none : (g : ℕ → ℕ) (a : ℕ) (f : ℕ → ℕ) (i : ℕ) → f i ≡ 0 → climb g a f i ≡ 0
unfolding climb
climb_none g a f i e =
    let q : a + sum_to i f + f i ≡ a + sum_to i f = omega arith in
    omega (arith, ap g q)

-- ---- filling a room

-- No more goes in than there is.
pub pour_le : (room : ℕ) (f : ℕ → ℕ) (b : ℕ) → pour room f b ≤ f b
unfolding pour
pour_le room f b = omega arith

-- All that goes into the room: the sum, or the room.
pub pour-sum : (room : ℕ) (f : ℕ → ℕ) (n : ℕ) → sum_to n (pour room f) ≡ min room (sum_to n f)
unfolding sum_to pour
pour-sum room f zero = omega arith
pour-sum room f (suc n) = omega (arith, pour-sum room f n)

-- ---- sums by zones

module _ (zone : ℕ → ℕ) where
  -- Zone by zone the sum is the sum over all nodes.
  pub zones-sum : (N : ℕ) (f : ℕ → ℕ) (n : ℕ) → ((x : ℕ) → x < n → zone x < N) → sum_to N (λ z. in_zone zone f z n) ≡ sum_to n f
  unfolding in_zone
  zones-sum N f n h =
      sum-swap N n (λ z x. is (zone x) z * f x) ∙ sum_cong n (λ x. sum_to N (λ z. is (zone x) z * f x)) f (λ x l. sum_is N (zone x) (λ z. f x) (h x l))

  -- Smaller terms give a smaller sum over a zone.
  pub in_zone_le : (f g : ℕ → ℕ) (z n : ℕ) → ((x : ℕ) → x < n → f x ≤ g x) → in_zone zone f z n ≤ in_zone zone g z n
  unfolding in_zone
  in_zone_le f g z n h =
      sum_le n (λ x. is (zone x) z * f x) (λ x. is (zone x) z * g x) (λ x l. mul-le-mul_left (is (zone x) z) (h x l))

  -- What the nodes of a zone may put into it is the sum of their caps, or P.
  pub zoned-sum : (P : ℕ) (cap : ℕ → ℕ) (z n : ℕ) → in_zone zone (zoned P zone cap) z n ≡ min P (in_zone zone cap z n)
  unfolding in_zone zoned pour
  zoned-sum P cap z n =
      sum_cong n (λ x. is (zone x) z * zoned P zone cap x) (pour P (λ x. is (zone x) z * cap x))
      (λ x l. ⊎_elim
      (λ e. omega (arith, is_times e (cap x), is_times e (zoned P zone cap x), ap (λ (w : ℕ). in_zone zone cap w x) e))
      (λ e. omega (arith, not_times e (cap x), not_times e (zoned P zone cap x)))
      (eq_or_ne (zone x) z))
      ∙ pour-sum P (λ x. is (zone x) z * cap x) n
