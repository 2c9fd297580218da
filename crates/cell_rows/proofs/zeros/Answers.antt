-- `cell_rows::zeros` meets its contract.
-- Assumes nothing.
use Rattle.std.proofs.Common.{rules, tests}
use Prim.Native.Nat.{ℕ, ◌-◌}
use mathlib.Core.Path.{◌≡◌, refl, ap, ◌∙◌}
use mathlib.Core.Bool.{◌&&◌}
use mathlib.Core.List.{List, [], ◌∷◌}
use lib.Dec.{eqb}
use lib.ListN.{take, drop}
use Rattle.std.specs.List.{list_all}
use Rattle.std.proofs.lemmas.Iterator.{YieldsList-from_slice}
use Rattle.std.proofs.lemmas.Iterator.Search.{all_from_yields_List}
use Rattle.cluster.specs.Terms.{blank}
use Rattle.cell_rows.proofs.zeros.Goals as goal

-- All of some cells are 0 where they are blank.
all-zero : (l : List ℕ) → list_all (λ x. eqb x 0) l ≡ blank l
unfolding blank
all-zero [] = refl
all-zero (x ∷ xs) = ap (λ t. eqb x 0 && t) (all-zero xs)

pub returns : goal.returns
returns c =
    let a = c.args in
    let cells : List ℕ = take (a.to - a.from) (drop a.from a.cells.now) in
    all_from_yields_List (λ x. eqb x 0) _ _ _ c.all.ensures.ran (YieldsList-from_slice cells cc) (λ x b q k. search (rules, tests)) ∙ all-zero cells
