-- `arcs::clear` meets its contract: the 0s of `fill` are those of the table. Assumes nothing.
use Prim.Native.Nat.{ℕ}
use mathlib.Core.Path.{ap, ◌∙◌}
use mathlib.Core.List.{List, ◌++◌}
use lib.ListN.{drop, replicate}
use Rattle.std.proofs.lemmas.List.{length-take-le}
use Rattle.sums.specs.TermsSums.{tab}
use Rattle.levels.specs.ModelGraph.{arc_cells}
use Rattle.arcs.proofs.clear.Goals as goal

pub returns : goal.returns
unfolding tab
returns c =
    ap (λ (l : List ℕ). l ++ drop arc_cells c.args.arcs.now)
    (c.fill.ensures.after (λ y e. e) ∙ ap (λ (n : ℕ). replicate n 0) (length-take-le arc_cells c.args.arcs.now c.requires))
