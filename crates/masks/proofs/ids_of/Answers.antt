-- `masks::ids_of` meets its contract. The loop's invariant: the first b ids are written.
use native.Mathlib.Omega.{arith}
use mathlib.Core.Path.{sym, ap}
use Rattle.cluster.specs.Terms.{topology, node_at}
use Rattle.cluster.specs.declared.Node.{Node}
use Rattle.cluster.proofs.Slots.{node-slot}
use Rattle.incidence.proofs.Columns.{column-none, column-next, column_end}
use Rattle.masks.specs.ModelMasks.{id_cells}
use Rattle.masks.proofs.ids_of.Goals as goal

pub loop-b-init : goal.loop-b-init
loop-b-init c = column-none _

pub loop-b-preserved : goal.loop-b-preserved
loop-b-preserved c =
    let a = c.args in
    column-next (λ i. (node_at (topology a.c) i).id) c.loop-b.ids c.loop-b.b _ c.loop-b.invariant
    (ap (λ (n : Node). n.id) (sym (node-slot a.c c.loop-b.b (omega arith))))

pub returns : goal.returns
unfolding id_cells
returns c =
    let a = c.args in
    column_end (λ i. (node_at (topology a.c) i).id) c.loop-b.ids c.loop-b.b _ c.loop-b.invariant (omega arith)
