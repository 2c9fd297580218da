-- The members of a set, one after the other, the least first: what is left of it, and what is done.
-- Assumes nothing.
use Prim.Native.Nat.{ℕ, ◌+◌, ◌-◌, ◌^◌, ◌≤◌, ◌<◌}
use mathlib.Core.Path.{◌≡◌, ap, ◌∙◌}
use mathlib.Core.Logic.{⊎_elim}
use native.Mathlib.Omega.{arith}
use Rattle.sums.specs.ModelSums.{is}
use Rattle.sums.proofs.Sum.{is_cases}
use Rattle.sets.specs.ModelBits.{mask_bits, bit, without_of, count_of, least_of}
use Rattle.sets.proofs.Laws.{bit_le, bit_zero, bit-without, without_lt, least-some, least_at, least-taken}

-- What is left is a set of members of s.
pub record Left (s left : ℕ) : Type 0 where
  pub word : left < 2 ^ mask_bits
  pub part : (c : ℕ) → c < mask_bits → bit left c ≤ bit s c

-- At first all is left.
pub left_all : (s : ℕ) → s < 2 ^ mask_bits → Left s s
left_all s h = record { word = h; part = λ c l. omega arith }

module _ (s left : ℕ) (L : Left s left) (some : left ≡ 0 → ⊥) where
  -- The least that is left is a member.
  pub least-word : least_of left < mask_bits
  least-word = least-some left L.word some

  -- Without it the others are left.
  pub left_less : Left s (without_of left (least_of left))
  left_less =
      record {
        word = without_lt left (least_of left);
        part = λ c l. omega (arith, L.part c l, bit-without left (least_of left) c l);
      }

  -- It is done now, beside those that were done.
  pub done_more : (c : ℕ) → c < mask_bits → bit s c - bit left c + is (least_of left) c ≡ bit s c - bit (without_of left (least_of left)) c
  done_more c l =
      ⊎_elim
      (λ w. omega (
        arith,
        w.1,
        L.part c l,
        bit_le s c,
        bit-without left (least_of left) c l,
        least_at left least-word,
        ap (bit left) w.0,
      ))
      (λ w. omega (arith, w.1, bit-without left (least_of left) c l)) (is_cases (least_of left) c)

-- At last all are done.
pub done_all : (s left c : ℕ) → left ≡ 0 → bit s c - bit left c ≡ bit s c
done_all s left c e = omega (arith, ap (λ (x : ℕ). bit x c) e, bit_zero c)

-- A set without its least member counts less.
pub fewer : (left r rest : ℕ) → left < 2 ^ mask_bits → (left ≡ 0 → ⊥) → r ≡ least_of left → rest ≡ without_of left r → count_of rest < count_of left
fewer left r rest h n e f = omega (arith, ap count_of (f ∙ ap (λ (x : ℕ). without_of left x) e), least-taken left h n)
