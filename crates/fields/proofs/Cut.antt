-- A record that is cut off: numbers, ids, nodes and fields that end before the cut are the same.
-- Assumes nothing.
use Prim.Native.Nat.{ℕ, zero, suc, ◌+◌, ◌*◌, ◌≤◌}
use mathlib.Core.Path.{◌≡◌, refl, sym, ap, ap₂, ◌∙◌}
use mathlib.Core.List.{List, [], ◌∷◌}
use mathlib.Core.Logic.{⊎_elim}
use native.Mathlib.Omega.{arith}
use lib.ListN.{length, take, length-take}
use lib.Seq.{take-take}
use Rattle.sums.proofs.Tests.{true_or_false}
use Rattle.cluster.specs.Terms.{mem}
use Rattle.fields.specs.RecordField.{number_of, part, number_at, node_width, node_at_byte, ids_at, head_width, longest_field, legal_as, field_at}
use Rattle.fields.specs.declared.Field.TheVariants.{Body}
use Rattle.numbers.proofs.Numbers.{has-true, number_there}
use Rattle.lengths.proofs.Lengths.{lawful, legal-greatest, greatest_le}
use Rattle.fields.proofs.RecordField.{field_tag, field-length, field_whole}

-- A part that ends before the cut is the same after it.
part_same : (s : List ℕ) (n at w : ℕ) → at + w ≤ n → part (take n s) at w ≡ part s at w
part_same s n zero w h = take-take w n s (omega arith)
part_same s zero (suc at) w h = absurd (omega arith)
part_same [] (suc n) (suc at) w h = refl
part_same (x ∷ s) (suc n) (suc at) w h = part_same s n at w (omega arith)

module _ (s : List ℕ) (n : ℕ) where
  pub number_same : (at w : ℕ) → at + w ≤ n → at + w ≤ length s → number_at (take n s) at w ≡ number_at s at w
  number_same at w h k =
      number_there (take n s) at w (omega (arith, length-take n s)) ∙ (ap number_of (part_same s n at w h) ∙ sym (number_there s at w k))

  pub ids_same : (at m : ℕ) → at + 4 * m ≤ n → at + 4 * m ≤ length s → ids_at (take n s) at m ≡ ids_at s at m
  unfolding ids_at
  ids_same at zero h k = refl
  ids_same at (suc m) h k =
      ap₂ (λ (x : ℕ) (l : List ℕ). x ∷ l) (number_same at 4 (omega arith) (omega arith)) (ids_same (at + 4) m (omega arith) (omega arith))

  pub node_same : (at : ℕ) → at + node_width ≤ n → at + node_width ≤ length s → node_at_byte (take n s) at ≡ node_at_byte s at
  unfolding node_at_byte
  node_same at h k =
      simp (
        has-true (length (take n s)) at node_width (omega (arith, length-take n s)),
        has-true (length s) at node_width k,
        number_same at 4 (omega arith) (omega arith),
        number_same (at + 4) 2 (omega arith) (omega arith),
        number_same (at + 6) 4 (omega arith) (omega arith),
        number_same (at + 10) 2 (omega arith) (omega arith),
      )

  -- The longest field has to end before the cut, since a longer one could not be legal.
  pub field_same : (at : ℕ) (allowed : List ℕ) (exact : ℕ) → at + longest_field ≤ n → at + longest_field ≤ length s
      → field_at (take n s) at allowed exact ≡ field_at s at allowed exact
  field_same at allowed exact h k =
      let u : List ℕ = take n s in
      let tag : ℕ = number_at s at 1 in
      let len : ℕ = number_at s (at + 1) 2 in
      let a : number_at u at 1 ≡ tag = number_same at 1 (omega arith) (omega arith) in
      let b : number_at u (at + 1) 2 ≡ len = number_same (at + 1) 2 (omega arith) (omega arith) in
      let j : at + longest_field ≤ length u = omega (arith, length-take n s) in
      let hu : at + head_width ≤ length u = omega arith in
      let hs : at + head_width ≤ length s = omega arith in
      ⊎_elim
      (λ t. let t' = ap (λ (x : ℕ). mem x allowed) a ∙ t in
      ⊎_elim
      (λ l. let g : head_width + len ≤ longest_field = omega (arith, legal-greatest tag len (lawful exact tag len l), greatest_le tag) in
      field_whole u at allowed exact hu t' (ap₂ (legal_as exact) a b ∙ l) (omega arith)
      ∙ (ap₂ (λ (x y : ℕ). Body x (at + head_width) y) a b ∙ sym (field_whole s at allowed exact hs t l (omega arith))))
      (λ l. field-length u at allowed exact hu t' (ap₂ (legal_as exact) a b ∙ l) ∙ sym (field-length s at allowed exact hs t l))
      (true_or_false (legal_as exact tag len)))
      (λ t. field_tag u at allowed exact hu (ap (λ (x : ℕ). mem x allowed) a ∙ t) ∙ sym (field_tag s at allowed exact hs t))
      (true_or_false (mem tag allowed))
