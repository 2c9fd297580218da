-- The turns of loops that gather a mask.
-- Assumes nothing.
use Prim.Native.Nat.{ℕ, ◌+◌, ◌≤◌, ◌<◌}
use mathlib.Core.Path.{◌≡◌, sym, ap, ◌∙◌}
use native.Mathlib.Numerals.{add-one}
use Rattle.sets.specs.ModelBits.{mask_bits, mask_of, with_of}
use Rattle.sets.proofs.Laws.{mask_same, mask-with}

module _ (f : ℕ → ℕ) (n s : ℕ) (e : s ≡ mask_of f n) where
  -- One number more, which is a member.
  pub mask_here : n < mask_bits → 1 ≤ f n → with_of s n ≡ mask_of f (n + 1)
  mask_here l h = ap (λ (m : ℕ). with_of m n) e ∙ (sym (mask-with f n l h) ∙ ap (mask_of f) (sym (add-one n)))

  -- One number more, which is none.
  pub mask_not_here : f n ≡ 0 → s ≡ mask_of f (n + 1)
  mask_not_here h = e ∙ (sym (mask_same f n h) ∙ ap (mask_of f) (sym (add-one n)))
