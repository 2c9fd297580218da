use mathlib.Core.Path.{ap, ◌∙◌}
use mathlib.Core.List.{List, ◌++◌}
use Prim.Native.Nat.{ℕ}
use lib.ListN.{drop, replicate}
use Rattle.std.proofs.lemmas.List.{length-take-le}
use Rattle.cluster.specs.Terms.{scratch_cells}
use Rattle.clearing.proofs.clear.Goals as goal

pub returns : goal.returns
returns c =
    let s = c.args.scratch.now in
    ap (λ (l : List ℕ). l ++ drop scratch_cells s)
    (c.fill.ensures.after (λ y e. e) ∙ ap (λ (n : ℕ). replicate n 0) (length-take-le scratch_cells s c.requires))
