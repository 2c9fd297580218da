-- `unions::unite` meets its contract. The loop's invariant: the cells passed are united. Assumes nothing.
use Prim.Native.Nat.{◌+◌}
use lib.ListN.{get_or}
use Rattle.sets.specs.ModelBits.{union_of}
use Rattle.cells.proofs.Cells.{put-none}
use Rattle.unions.proofs.Unions.{put-joined}
use Rattle.unions.proofs.unite.Goals as goal

pub loop-t-init : goal.loop-t-init
loop-t-init c =
    let a = c.args in
    put-none 0 (λ i. union_of (get_or a.held.now i 0) (get_or a.kept.now (a.at + i) 0)) a.held.now

pub loop-t-preserved : goal.loop-t-preserved
loop-t-preserved c =
    let a = c.args in
    put-joined (λ i. get_or a.kept.now (a.at + i) 0) c.loop-t.t a.held.now c.loop-t.held c.join.new.arcs c.loop-t.invariant c.join.ensures
