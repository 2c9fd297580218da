-- `answers::put_nodes` meets its contract. The loop's invariant: the cells before them are kept, the cells of the first b slots are written.
use native.Mathlib.Omega.{arith}
use mathlib.Core.Path.{◌≡◌, ap, ◌∙◌}
use lib.ListN.{length}
use Rattle.cells.proofs.Cells.{length_of_map}
use Rattle.cluster.specs.Terms.{most_nodes}
use Rattle.answers.proofs.NodePuts.{written, node-next, node-none, node-all}
use Rattle.answers.proofs.put_nodes.Goals as goal

pub loop-b-init : goal.loop-b-init
loop-b-init c =
    let long : length c.args.c.nodes ≡ most_nodes = search length_of_map in
    node-none c.args.at c.args.cells.now c.args.c.nodes c.requires long

pub loop-b-preserved : goal.loop-b-preserved
loop-b-preserved c =
    let long : length c.args.c.nodes ≡ most_nodes = search length_of_map in
    c.put.ensures ∙ node-next c.args.at c.args.cells.now c.args.c.nodes c.requires long c.loop-b.b c.loop-b.cells (omega arith) c.loop-b.invariant

pub returns : goal.returns
returns c =
    let long : length c.args.c.nodes ≡ most_nodes = search length_of_map in
    let at = c.args.at in
    let l = c.args.cells.now in
    let n = c.args.c.nodes in
    let e : c.loop-b.b ≡ most_nodes = omega arith in
    c.loop-b.invariant ∙ (ap (written at l n c.requires long) e ∙ node-all at l n c.requires long)
