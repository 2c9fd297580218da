-- `unions::gather` meets its contract. Assumes nothing.
use Prim.Native.Nat.{ℕ}
use native.Mathlib.Omega.{arith}
use Rattle.unions.specs.ModelUnions.{most_leaves, union_at}
use Rattle.unions.proofs.Unions.{stored-none, stored_more, gathered}
use Rattle.unions.proofs.gather.Goals as goal

pub returns : goal.returns
returns c =
    let a = c.args in
    let F : ℕ → ℕ = union_at a.kept.now most_leaves in
    gathered a.kept.now a.arcs.now c.store-3.new.kept
    (stored_more F 0 64 a.arcs.now c.store-2.new.kept c.store-3.new.kept c.united-high.result c.united-high.ensures.0 c.united-high.ensures.1 (omega (arith, c.requires)) c.store-3.ensures
    (stored_more F 0 32 a.arcs.now c.store.new.kept c.store-2.new.kept c.united-mid.result c.united-mid.ensures.0 c.united-mid.ensures.1 (omega (arith, c.requires)) c.store-2.ensures
    (stored_more F 0 0 a.arcs.now a.arcs.now c.store.new.kept c.united-low.result c.united-low.ensures.0 c.united-low.ensures.1 (omega (arith, c.requires)) c.store.ensures
    (stored-none F 0 a.arcs.now))))
