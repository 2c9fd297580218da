-- `figures::total_usable` meets its contract. The loop's invariant: the usable capacities of the nodes passed are added up.
use borrow.Author.Rules.{rules}
use native.Mathlib.Omega.{arith}
use Prim.Native.Nat.{ℕ, ◌<◌}
use mathlib.Core.Path.{◌≡◌, refl, sym, ap, ◌∙◌}
use lib.ListN.{length, length-take}
use lib.Seq.{get_or-take}
use Rattle.sums.proofs.Sum.{sum-next}
use Rattle.sums.specs.TermsSums.{sum_to}
use Rattle.cells.proofs.Cells.{length_of_map}
use Rattle.cluster.specs.Terms.{most_nodes, no_node, topology, node_at, usable}
use Rattle.cluster.proofs.Slots.{node-slot}
use Rattle.cluster.proofs.Accepting.{few_nodes, nodes-count}
use Rattle.figures.proofs.total_usable.Goals as goal

pub loop-node-init : goal.loop-node-init
unfolding sum_to
loop-node-init c = (search rules, refl)

pub loop-node-preserved : goal.loop-node-preserved
loop-node-preserved c =
    let a = c.args.c in
    let i = c.loop-node.node-index in
    let here : i < a.count = omega (arith, length-take a.count a.nodes) in
    let e = node-slot a i here ∙ sym (get_or-take a.count a.nodes i no_node here) in (
      search rules,
      sum-next (λ i. usable (node_at (topology a) i)) i c.loop-node.total c.usable-usable.result c.loop-node.invariant.1
          (c.usable-usable.ensures.0 ∙ sym (ap usable e)),
    )

pub returns : goal.returns
returns c =
    let long : length c.args.c.nodes ≡ most_nodes = search length_of_map in
    let a = c.args.c in
    let e : c.loop-node.node-index ≡ length (topology a).nodes = omega (arith, length-take a.count a.nodes, nodes-count a long (few_nodes a c.requires)) in
    c.loop-node.invariant.1 ∙ ap (λ (n : ℕ). sum_to n (λ i. usable (node_at (topology a) i))) e
