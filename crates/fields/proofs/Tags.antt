-- The tags of a mask: a tag stands in the list where it is a member of the mask, and a mask of one tag is the list of that one.
-- Assumes nothing.
use Prim.Native.Nat.{ℕ, zero, suc, ◌+◌, ◌^◌, ◌≤◌, ◌<◌}
use mathlib.Core.Path.{◌≡◌, refl, sym, ap, ◌∙◌}
use mathlib.Core.Bool.{true, false}
use mathlib.Core.List.{List, [], ◌∷◌}
use mathlib.Core.Logic.{⊎_elim}
use native.Mathlib.Omega.{arith}
use Rattle.sums.proofs.Sum.{lt_or_ge, eq_or_ne}
use Rattle.sums.proofs.Tests.{true_or_false}
use Rattle.sets.specs.ModelBits.{bit, member_of, with_of}
use Rattle.sets.proofs.Laws.{bit_high, bit_zero, bit-true, bit-false, bit-with_same, bit-with_other, member-true, with_lt}
use Rattle.cluster.specs.Terms.{mem}
use Rattle.cluster.proofs.Lists.{same_test, mem_head, mem_tail, mem-none, mem_cases}
use Rattle.fields.specs.ModelTags.{tags_from, tags_of}

module _ (n i mask : ℕ) where
  -- A number that is a member stands first, and any other is left out.
  tags_take : member_of mask i ≡ true → tags_from (suc n) i mask ≡ i ∷ tags_from n (suc i) mask
  unfolding tags_from
  tags_take h = simp h

  tags-skip : member_of mask i ≡ false → tags_from (suc n) i mask ≡ tags_from n (suc i) mask
  unfolding tags_from
  tags-skip h = simp h

tags-member : (n i mask t : ℕ) → mem t (tags_from n i mask) ≡ true → member_of mask t ≡ true
tags-member zero i mask t h = absurd (mem-none t (unfold tags_from in h))
tags-member (suc n) i mask t h =
    ⊎_elim
    (λ m. ⊎_elim (λ e. ap (member_of mask) e ∙ m) (λ r. tags-member n (suc i) mask t r)
    (mem_cases t i (tags_from n (suc i) mask) (sym (ap (mem t) (tags_take n i mask m)) ∙ h)))
    (λ m. tags-member n (suc i) mask t (sym (ap (mem t) (tags-skip n i mask m)) ∙ h))
    (true_or_false (member_of mask i))

member_tag : (n i mask t : ℕ) → i ≤ t → t < i + n → member_of mask t ≡ true → mem t (tags_from n i mask) ≡ true
member_tag zero i mask t a b h = absurd (omega arith)
member_tag (suc n) i mask t a b h =
    ⊎_elim (λ e. ap (mem t) (tags_take n i mask (ap (member_of mask) (sym e) ∙ h)) ∙ mem_head t i (tags_from n (suc i) mask) e)
    (λ d. let r = member_tag n (suc i) mask t (omega arith) (omega arith) h in
    ⊎_elim (λ m. ap (mem t) (tags_take n i mask m) ∙ mem_tail t i (tags_from n (suc i) mask) r) (λ m. ap (mem t) (tags-skip n i mask m) ∙ r)
    (true_or_false (member_of mask i)))
    (eq_or_ne t i)

-- A tag stands in the list of a mask where it is a member.
pub mem-tags : (mask t : ℕ) → mask < 2 ^ 32 → mem t (tags_of mask) ≡ member_of mask t
unfolding tags_of
mem-tags mask t h =
    same_test (mem t (tags_from 32 0 mask)) (member_of mask t) (λ q. tags-member 32 0 mask t q)
    (λ q. ⊎_elim (λ l. member_tag 32 0 mask t (omega arith) (omega arith) q)
    (λ g. absurd (omega (arith, member-true mask t q, bit_high 32 mask t h g))) (lt_or_ge t 32))

-- A mask that has no member from i on, and one that has t alone.
tags-none : (n i mask : ℕ) → ((j : ℕ) → i ≤ j → member_of mask j ≡ false) → tags_from n i mask ≡ []
tags-none zero i mask h = unfold tags_from in refl
tags-none (suc n) i mask h = tags-skip n i mask (h i (omega arith)) ∙ tags-none n (suc i) mask (λ j l. h j (omega arith))

tags-one : (n i mask t : ℕ) → i ≤ t → t < i + n → member_of mask t ≡ true → ((j : ℕ) → (t ≡ j → ⊥) → member_of mask j ≡ false)
    → tags_from n i mask ≡ t ∷ []
tags-one zero i mask t a b h o = absurd (omega arith)
tags-one (suc n) i mask t a b h o =
    ⊎_elim
    (λ e. tags_take n i mask (ap (member_of mask) (sym e) ∙ h)
    ∙ (ap (λ (l : List ℕ). i ∷ l) (tags-none n (suc i) mask (λ j l. o j (λ d. omega arith))) ∙ ap (λ (k : ℕ). k ∷ []) (sym e)))
    (λ d. tags-skip n i mask (o i d) ∙ tags-one n (suc i) mask t (omega arith) (omega arith) h o)
    (eq_or_ne t i)

-- The mask of no tag.
pub tags_empty : tags_of 0 ≡ []
unfolding tags_of tags_from member_of bit
tags_empty = refl

-- The mask of one tag.
pub tags_alone : (t : ℕ) → t < 32 → tags_of (with_of 0 t) ≡ t ∷ []
unfolding tags_of
tags_alone t h = tags-one 32 0 (with_of 0 t) t (omega arith) h (bit-true (with_of 0 t) t (bit-with_same 0 t h)) others
  where
    others : (j : ℕ) → (t ≡ j → ⊥) → member_of (with_of 0 t) j ≡ false
    others j d =
        bit-false (with_of 0 t) j
        (⊎_elim (λ l. bit-with_other 0 t j l d ∙ bit_zero j) (λ g. bit_high 32 (with_of 0 t) j (with_lt 0 t) g) (lt_or_ge j 32))
