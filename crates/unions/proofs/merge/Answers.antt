-- `unions::merge` meets its contract. Assumes nothing.
use Prim.Native.Nat.{ℕ, ◌+◌, ◌*◌}
use mathlib.Core.Path.{◌≡◌, ap, ◌∙◌}
use lib.ListN.{length, get_or}
use Rattle.cells.specs.ModelCells.{put}
use native.Mathlib.Omega.{arith}
use Rattle.levels.specs.ModelGraph.{arc_cells}
use Rattle.unions.specs.ModelUnions.{parts, most_leaves, union_at}
use Rattle.unions.proofs.Unions.{stored-none, stored_more, union-kept, merged}
use Rattle.unions.proofs.merge.Goals as goal

pub returns : goal.returns
returns c =
    let a = c.args in
    let k = parts * a.i in
    let at = (most_leaves + a.i) * arc_cells in
    let old = a.kept.now in
    let F : ℕ → ℕ = union_at old k in
    let first : at ≡ at + 0 = omega arith in
    let one = stored_more F at 0 old old c.store.new.kept c.united-low.result c.united-low.ensures.0 c.united-low.ensures.1 (omega (arith, c.requires))
    (c.store.ensures ∙ ap (λ (x : ℕ). put x (λ t. get_or c.united-low.result t 0) (length c.united-low.result) old) first) (stored-none F at old) in
    let two =
    stored_more F at 32 old c.store.new.kept c.store-2.new.kept c.united-mid.result c.united-mid.ensures.0
    (λ t h. c.united-mid.ensures.1 t h ∙ union-kept F at 32 k (32 + t) old c.store.new.kept (omega (arith, c.requires)) (omega arith) one) (omega (arith, c.requires)) c.store-2.ensures one in
    merged a.i old c.store-3.new.kept
    (stored_more F at 64 old c.store-2.new.kept c.store-3.new.kept c.united-high.result c.united-high.ensures.0
    (λ t h. c.united-high.ensures.1 t h ∙ union-kept F at 64 k (64 + t) old c.store-2.new.kept (omega (arith, c.requires)) (omega arith) two) (omega (arith, c.requires)) c.store-3.ensures two)
