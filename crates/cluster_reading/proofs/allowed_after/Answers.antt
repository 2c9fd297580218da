-- `cluster_reading::allowed_after` meets its contract.
-- Assumes nothing.
use borrow.Author.Tests.{lt-ltb, le-ltb}
use mathlib.Core.Path.{◌≡◌, refl, ap, ◌∙◌}
use mathlib.Core.List.{[], ◌∷◌}
use native.Mathlib.Omega.{arith}
use Rattle.sums.specs.TermsSums.{one_if}
use Rattle.sums.specs.ModelSums.{is}
use Rattle.sets.specs.ModelBits.{bit, mask_of, member_of, with_of}
use Rattle.fields.specs.ModelTags.{tags_from, tags_of}
use Rattle.fields.proofs.Tags.{tags_alone}
use Rattle.cluster_reading.specs.RecordClusterReading.{allowed_after}
use Prim.Native.Nat.{ℕ, ◌+◌}
use Rattle.cluster_reading.proofs.allowed_after.Goals as goal

-- The mask of the tags 4 and 5.
tags-two : tags_of (with_of (with_of 0 4) 5) ≡ 4 ∷ 5 ∷ []
unfolding tags_of tags_from member_of with_of mask_of bit is one_if
tags-two = refl

pub returns-then-last-lt3 : goal.returns-then-last-lt3
unfolding allowed_after
returns-then-last-lt3 c = simp (lt-ltb _ _ c.if-last-lt3.true) (ap tags_of c.with.ensures ∙ tags_alone (c.args.last + 1) (omega arith))

pub returns-then-last-lt5 : goal.returns-then-last-lt5
unfolding allowed_after
returns-then-last-lt5 c =
    simp (le-ltb _ _ c.if-last-lt3.false, lt-ltb _ _ c.if-last-lt5.true)
    (ap tags_of (c.with-then-last-lt5-2.ensures ∙ ap (λ (m : ℕ). with_of m 5) c.with-then-last-lt5.ensures) ∙ tags-two)

pub returns : goal.returns
unfolding allowed_after
returns c =
    simp (le-ltb _ _ c.if-last-lt3.false, le-ltb _ _ c.if-last-lt5.false) (ap tags_of c.with-2.ensures ∙ tags_alone 5 (omega arith))
