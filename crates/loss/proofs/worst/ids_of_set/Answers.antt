-- `loss::worst::ids_of_set` meets its contract.
-- Assumes nothing.
use Prim.Native.Nat.{ℕ}
use mathlib.Core.Path.{◌≡◌, refl, ap, ◌∙◌}
use mathlib.Core.List.{List, [], ◌∷◌}
use lib.ListN.{get_or}
use Rattle.sums.specs.TermsSums.{tab}
use Rattle.sets.specs.ModelBits.{bit}
use Rattle.cells.specs.ModelCells.{put}
use Rattle.cluster.specs.Terms.{row_cells, topology}
use Rattle.incidence.specs.ModelIncidence.{ids_where}
use Rattle.masks.proofs.Where.{ids_used}
use Rattle.loss.proofs.worst.ids_of_set.Goals as goal

-- The first cells of a row that was written.
abbrev first-four : List ℕ → List ℕ
first-four l = get_or l 0 0 ∷ get_or l 1 0 ∷ get_or l 2 0 ∷ get_or l 3 0 ∷ []

written : (f : ℕ → ℕ) (x₀ x₁ x₂ x₃ x₄ x₅ x₆ x₇ : ℕ) → first-four (put 0 f row_cells (x₀ ∷ x₁ ∷ x₂ ∷ x₃ ∷ x₄ ∷ x₅ ∷ x₆ ∷ x₇ ∷ [])) ≡ tab f 4
unfolding put tab
written f x₀ x₁ x₂ x₃ x₄ x₅ x₆ x₇ = refl

pub returns : goal.returns
returns c =
    let a = c.args in
    let ns = (topology a.c).nodes in
    ap first-four (c.write_row.ensures ns (ids_used ns _ _ c.used-n.ensures.1 c.used-n.ensures.0 c.ids_of-all.ensures)) ∙ written (λ j. get_or (ids_where ns (bit a.set)) j 0) 0 0 0 0 0 0 0 0
