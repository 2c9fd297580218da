-- `levels::descend` meets its contract. Assumes nothing.
use Prim.Native.Nat.{◌≤◌, ◌-◌, ◌+◌, ◌*◌}
use mathlib.Core.Path.{◌≡◌}
use native.Mathlib.Omega.{arith}
use lib.ListN.{length, take, drop, length-take, length-drop}
use Rattle.cluster.specs.Terms.{most_nodes}
use Rattle.levels.proofs.Sweeps.{descended}
use Rattle.levels.proofs.descend.Goals as goal

pub sweep-requires : goal.sweep-requires
sweep-requires c =
    let p = c.requires in
    let i = (c.args.k + 1) * most_nodes in
    let l = c.args.table.now in (
      p.2,
      p.4,
      omega (arith, p.0, p.1, p.5, length-take (i + most_nodes - i) (drop i l), length-drop i l),
      p.6,
      record { small = p.1; level = p.0; stand = p.7; nodes = p.8; high = λ v h. (p.9 v h).0; low = λ v h. (p.9 v h).1; same = λ v h. (p.9 v h).2 },
    )

pub returns : goal.returns
returns c =
    let row_long : most_nodes ≤ length c.sweep.new.row = (let i = (c.args.k + 1) * most_nodes in
    let l = c.args.table.now in
    let e : length c.sweep.new.row ≡ length (take (i + most_nodes - i) (drop i l)) = c.sweep.auto.row in
    omega (arith, c.requires, length-take (i + most_nodes - i) (drop i l), length-drop i l)) in
    let a = c.args in record {
      level = descended a.arcs.now a.n a.k a.mask c.sweep.result a.dist.now c.sweep.new.next a.table.now c.sweep.new.row
          (drop ((a.k + 1) * most_nodes + most_nodes - (a.k + 1) * most_nodes) (drop ((a.k + 1) * most_nodes) a.table.now))
          (omega (arith, c.requires)) (omega (arith, c.requires)) row_long c.sweep.ensures.swept.0 c.sweep.ensures.swept.1;
      stand = c.sweep.ensures.stand;
    }
