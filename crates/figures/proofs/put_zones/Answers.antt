-- `figures::put_zones` meets its contract. The loop's invariant: the first b of the second half are written.
use native.Mathlib.Omega.{arith}
use Prim.Native.Nat.{ℕ, ◌+◌}
use mathlib.Core.Path.{◌≡◌, ap, ap₂, ◌∙◌}
use mathlib.Core.List.{List}
use lib.ListN.{set}
use Rattle.cells.specs.ModelCells.{put}
use Rattle.cells.proofs.Cells.{put-none, put-more}
use Rattle.cluster.specs.Terms.{most_nodes, topology}
use Rattle.figures.specs.ModelZones.{zone_sum}
use Rattle.figures.proofs.put_zones.Goals as goal

pub loop-b-init : goal.loop-b-init
loop-b-init c = put-none most_nodes _ _

pub zone_copies-requires : goal.zone_copies-requires
zone_copies-requires c = (c.requires.0, c.requires.1)

pub loop-b-preserved : goal.loop-b-preserved
loop-b-preserved c = let a = c.args in
    ap₂ (λ (l : List ℕ) (v : ℕ). set l (most_nodes + c.loop-b.b) v) c.loop-b.invariant c.zone_copies.ensures
    ∙ put-more most_nodes (zone_sum (topology a.c) a.counts) c.loop-b.b a.cells.now

pub returns : goal.returns
returns c = let a = c.args in
    let e : c.loop-b.b ≡ most_nodes = omega arith in
    c.loop-b.invariant ∙ ap (λ (n : ℕ). put most_nodes (zone_sum (topology a.c) a.counts) n a.cells.now) e
