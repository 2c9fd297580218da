-- `unions::store` meets its contract. The loop's invariant: the cells passed are written. Assumes nothing.
use Prim.Native.Nat.{ℕ, ◌+◌}
use mathlib.Core.Path.{ap, ◌∙◌}
use mathlib.Core.List.{List}
use lib.ListN.{get_or, set}
use Rattle.cells.proofs.Cells.{put-none, put-more}
use Rattle.unions.proofs.store.Goals as goal

pub loop-t-init : goal.loop-t-init
loop-t-init c = let a = c.args in put-none a.at (λ i. get_or a.cells.now i 0) a.kept.now

pub loop-t-preserved : goal.loop-t-preserved
loop-t-preserved c =
    let a = c.args in
    let L = c.loop-t in
    ap (λ (l : List ℕ). set l (a.at + L.t) (get_or a.cells.now L.t 0)) L.invariant ∙ put-more a.at (λ i. get_or a.cells.now i 0) L.t a.kept.now
