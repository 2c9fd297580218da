-- `graph::fill` meets its contract. Assumes nothing.
use native.Mathlib.Omega.{arith}
use Prim.Native.Nat.{ℕ, ◌+◌, ◌-◌, ◌*◌, ◌≤◌}
use mathlib.Core.Path.{◌≡◌}
use mathlib.Core.List.{List}
use lib.ListN.{length, take, drop, length-take, length-drop}
use Rattle.levels.specs.ModelGraph.{arc_cells}
use Rattle.graph.proofs.Keeping.{filled}
use Rattle.graph.proofs.fill.Goals as goal

-- The part of the cells that is lent.
lent-long : (l : List ℕ) (i : ℕ) → i + arc_cells ≤ length l → length (take (i + arc_cells - i) (drop i l)) ≡ arc_cells
lent-long l i h = omega (arith, length-take (i + arc_cells - i) (drop i l), length-drop i l)

pub write_rows-requires : goal.write_rows-requires
write_rows-requires c =
    (omega (arith, lent-long c.args.kept.now (c.args.leaf * arc_cells) (omega arith)), c.requires.0, λ i h. omega arith, c.requires.3)

pub returns : goal.returns
returns c =
    let a = c.args in
    filled a.given.now.former.now a.given.now.partitions a.given.now.mates.now a.all a.given.now.z a.rows.now a.kept.now c.write_rows.new.arcs a.leaf c.min-n.result _ c.requires.2 c.requires.1
    (lent-long a.kept.now (a.leaf * arc_cells) (omega arith)) (omega arith) c.write_rows.ensures
