-- `caps::greatest` meets its contract. The usable capacities passed are no larger. Assumes nothing.
use borrow.Author.Count.{below_more}
use native.Mathlib.Omega.{arith}
use mathlib.Core.Path.{sym, ap, ◌∙◌}
use lib.ListN.{length-take}
use lib.Seq.{get_or-take}
use Prim.Native.Nat.{◌<◌}
use Rattle.cluster.specs.Terms.{usable, no_node}
use Rattle.cluster.proofs.Slots.{node-slot}
use Rattle.caps.proofs.greatest.Goals as goal

pub loop-node-init : goal.loop-node-init
loop-node-init c i l = absurd (omega arith)

pub loop-node-preserved : goal.loop-node-preserved
loop-node-preserved c =
    let n = c.used-n.result in
    let nodes = c.args.c.nodes in
    let i = c.loop-node.node-index in
    let here : i < n = omega (arith, length-take n nodes) in
    let e = ap usable (node-slot c.args.c i (omega (arith, length-take c.args.c.count nodes)) ∙ sym (get_or-take n nodes i no_node here)) ∙ sym c.usable.ensures.0 in
    below_more _ _ (λ i l. grind (arith, c.loop-node.invariant i l)) (grind (arith, e))

pub returns : goal.returns
returns c b l =
    c.loop-node.invariant b (omega (arith, c.used-n.ensures.0, length-take c.used-n.result c.args.c.nodes, length-take c.args.c.count c.args.c.nodes))
