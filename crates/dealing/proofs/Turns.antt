-- Dealing a line round the partitions: how many of the first x places go to partition p.
-- Assumes nothing.
use Prim.Native.Nat.{ℕ, zero, suc, ◌+◌, ◌-◌, ◌*◌, ◌/◌, ◌%◌, ◌≤◌, ◌<◌, min}
use mathlib.Core.Path.{◌≡◌, ap, ◌∙◌}
use mathlib.Core.Logic.{⊎_elim}
use native.Mathlib.Nat.{mul_comm, suc-mul, zero-div, zero-mod, mod-lt, mod-eq_of_lt, add-mod_right, add-div_right, div-add-mod', div-mul-le_self, le-div_iff_mul-le, mul-div_cancel, mul-mod_left}
use native.Mathlib.Omega.{arith}
use lib.Arith.{digits_div, digits_mod}
use lib.Dec.{ltb}
use borrow.Author.Tests.{lt-ltb, le-ltb}
use Rattle.sums.specs.TermsSums.{sum_to, one_if}
use Rattle.sums.proofs.Sum.{lt_or_ge, sum-add, sum_const}
use Rattle.dealing.specs.ModelDeal.{among}
use Rattle.dealing.proofs.Climb.{Rising}

-- How many k < x have k % P equal to p.
unfoldable pub turns : (P p x : ℕ) → ℕ
turns P p x = x / P + min 1 (x % P - p)

test_one : (u k : ℕ) → one_if (ltb u k) ≡ min 1 (k - u)
unfolding one_if
test_one u k = ⊎_elim (λ a. ap one_if (lt-ltb u k a) ∙ omega arith) (λ b. ap one_if (le-ltb u k b) ∙ omega arith) (lt_or_ge u k)

-- r, counted by the p < m that are below it.
below : (r m : ℕ) → sum_to m (λ p. min 1 (r - p)) ≡ min r m
unfolding sum_to
below r zero = omega arith
below r (suc m) = omega (arith, below r m)

module _ (P : ℕ) (some : 1 ≤ P) where
  -- More places are no fewer turns.
  pub turns_rising : (p : ℕ) → Rising (turns P p)
  unfolding turns
  turns_rising p x y l =
      let d : x / P ≤ y / P = (le-div_iff_mul-le some).1 (omega (arith, div-mul-le_self x P)) in
      ⊎_elim (λ a. omega arith)
      (λ b. let e : x / P ≡ y / P = omega arith in
      omega (arith, ap (λ (t : ℕ). t * P) e, div-add-mod' x P, div-add-mod' y P))
      (lt_or_ge (x / P) (y / P))

  pub turns_none : (p : ℕ) → turns P p 0 ≡ 0
  unfolding turns
  turns_none p = omega (arith, zero-div P, zero-mod P)

  -- Each whole round is a turn.
  pub turns_ge : (p x : ℕ) → x / P ≤ turns P p x
  unfolding turns
  turns_ge p x = omega arith

  -- R times round, each partition has R.
  pub turns_whole : (p R : ℕ) → turns P p (R * P) ≡ R
  unfolding turns
  turns_whole p R = omega (arith, mul-div_cancel R some, mul-mod_left R P)

  -- Once more round, each partition has one more.
  pub turns_round : (p x : ℕ) → turns P p (x + P) ≡ turns P p x + 1
  unfolding turns
  turns_round p x = omega (arith, add-div_right x some, add-mod_right x P)

  turns_at : (p d r : ℕ) → r < P → turns P p (d * P + r) ≡ d + min 1 (r - p)
  unfolding turns
  turns_at p d r l = omega (arith, digits_div d l, digits_mod d l)

  -- At most P places further on.
  turns_on : (p x k : ℕ) → p < P → k ≤ P → turns P p (x + k) ≡ x / P + min 1 (x % P + k - p) + min 1 (x % P + k - P - p)
  turns_on p x k l m =
      ⊎_elim
      (λ a. let e : x + k ≡ x / P * P + (x % P + k) = omega (arith, div-add-mod' x P) in
      ap (turns P p) e ∙ (turns_at p (x / P) (x % P + k) a ∙ omega arith))
      (λ b. let e : x + k ≡ suc (x / P) * P + (x % P + k - P) = omega (arith, div-add-mod' x P, suc-mul (x / P) P) in
      ap (turns P p) e ∙ (turns_at p (suc (x / P)) (x % P + k - P) (omega (arith, mod-lt x some)) ∙ omega arith))
      (lt_or_ge (x % P + k) P)

  among-at : (p x k u : ℕ) → (p + P - x % P) % P ≡ u → among P x k p ≡ min 1 (k - u)
  unfolding among
  among-at p x k u e = ap (λ (t : ℕ). one_if (ltb t k)) e ∙ test_one u k

  -- A run of at most P places from x on reaches partition p once or not at all, as the test says.
  pub turns_among : (p x k : ℕ) → p < P → k ≤ P → turns P p x + among P x k p ≡ turns P p (x + k)
  turns_among p x k l m =
      ⊎_elim
      (λ (a : p < x % P). let h : turns P p x ≡ x / P + 1 = unfold turns in omega arith in
      let o : turns P p (x + k) ≡ x / P + 1 + min 1 (x % P + k - P - p) = turns_on p x k l m ∙ omega arith in
      omega (arith, among-at p x k (p + P - x % P) (mod-eq_of_lt (omega (arith, mod-lt x some))), mod-lt x some))
      (λ (b : x % P ≤ p). let h : turns P p x ≡ x / P = unfold turns in omega arith in
      let o : turns P p (x + k) ≡ x / P + min 1 (x % P + k - p) = turns_on p x k l m ∙ omega arith in
      let e : p + P - x % P ≡ p - x % P + P = omega arith in
      omega (arith, among-at p x k (p - x % P) (ap (λ (t : ℕ). t % P) e ∙ (add-mod_right (p - x % P) P ∙ mod-eq_of_lt (omega arith)))))
      (lt_or_ge p (x % P))

  -- All partitions together have all the places.
  pub turns_sum : (x : ℕ) → sum_to P (λ p. turns P p x) ≡ x
  unfolding turns
  turns_sum x =
      sum-add P (λ p. x / P) (λ p. min 1 (x % P - p))
      ∙ omega (arith, sum_const P (x / P), mul_comm P (x / P), below (x % P) P, mod-lt x some, div-add-mod' x P)
