-- `change_fields::tags` meets its contract.
-- Assumes nothing.
use Prim.Native.Nat.{ℕ}
use mathlib.Core.Path.{◌≡◌, refl, ap, ◌∙◌}
use Rattle.sums.specs.TermsSums.{one_if}
use Rattle.sums.specs.ModelSums.{is}
use Rattle.sets.specs.ModelBits.{bit, mask_of, member_of, with_of}
use Rattle.fields.specs.ModelTags.{tags_from, tags_of}
use Rattle.change_fields.specs.RecordChange.{change_tags}
use Rattle.change_fields.proofs.tags.Goals as goal

-- The mask of the three tags.
tags-three : tags_of (with_of (with_of (with_of 0 20) 21) 22) ≡ change_tags
unfolding tags_of tags_from member_of with_of mask_of bit is one_if
tags-three = refl

pub returns : goal.returns
returns c =
    let two = c.with-2.ensures ∙ ap (λ (m : ℕ). with_of m 21) c.with.ensures in
    ap tags_of (c.with-3.ensures ∙ ap (λ (m : ℕ). with_of m 22) two) ∙ tags-three
