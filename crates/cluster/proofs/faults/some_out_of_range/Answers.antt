-- `cluster::faults::some_out_of_range` meets its contract. The loop's invariant: a node in use is out of range exactly where one of those is that are
-- still before the scan.
use borrow.Author.Rules.{rules}
use native.Mathlib.Omega.{arith}
use mathlib.Core.Path.{◌≡◌, sym, ap, ◌∙◌}
use lib.ListN.{length}
use Rattle.cells.proofs.Cells.{rest_all, rest-none, length_of_map}
use Rattle.cluster.specs.Terms.{most_nodes, some_out_of_range}
use Rattle.cluster.proofs.Scans.{out_here, out_not_here}
use Rattle.cluster.proofs.faults.some_out_of_range.Goals as goal

pub loop-i-init : goal.loop-i-init
loop-i-init c = ap some_out_of_range (rest_all c.args.c.nodes c.args.c.count)

pub returns-then-out_of_range : goal.returns-then-out_of_range
returns-then-out_of_range c =
    let long : length c.args.c.nodes ≡ most_nodes = search length_of_map in
    sym
    (c.loop-i.invariant
    ∙ out_here c.args.c.nodes c.args.c.count c.loop-i.i (search rules) (omega (arith, long)) (sym c.out_of_range.ensures ∙ c.if-out_of_range.true))

pub loop-i-preserved : goal.loop-i-preserved
loop-i-preserved c =
    let long : length c.args.c.nodes ≡ most_nodes = search length_of_map in
    c.loop-i.invariant
    ∙ out_not_here c.args.c.nodes c.args.c.count c.loop-i.i (search rules) (omega (arith, long)) (sym c.out_of_range.ensures ∙ c.if-out_of_range.false)

pub returns : goal.returns
unfolding some_out_of_range
returns c =
    sym
    (c.loop-i.invariant
    ∙ ap some_out_of_range (rest-none c.args.c.nodes c.args.c.count c.loop-i.i (search rules)))
