-- The tags of a mask as a list: what the code's sets of tags are to the definitions, which name tags by plain lists.
-- Assumes nothing.
use Rattle.std.specs.Prelude.{ℕ, zero, suc, cond, List, [], ◌∷◌}
use Rattle.sets.specs.ModelBits.{mask_bits, member_of}

-- The members of a mask among the n numbers from i on, rising.
unfoldable pub tags_from : ℕ → ℕ → ℕ → List ℕ
tags_from zero i mask = []
tags_from (suc n) i mask = cond (member_of mask i) (i ∷ tags_from n (suc i) mask) (tags_from n (suc i) mask)

-- The tags of a mask.
unfoldable pub tags_of : ℕ → List ℕ
tags_of mask = tags_from mask_bits 0 mask
