use native.Mathlib.Omega.{arith}
use mathlib.Core.Path.{◌≡◌, sym, ◌∙◌}
use lib.ListN.{length}
use Rattle.sizing.proofs.Reading.{caps_in_lem}
use Rattle.cells.proofs.Cells.{length_of_map}
use Rattle.cluster.specs.Terms.{most_nodes, partitions, topology}
use Rattle.cluster.proofs.Accepting.{partitions_in_range, accepted, few_nodes, nodes-count}
use Rattle.sizing.specs.ModelSizing.{nodes_of}
use Rattle.nearest.proofs.Running.{dealt-fits, answers}
use Rattle.nearest.proofs.improved.Goals as goal

pub overflow_cast-count : goal.overflow_cast-count
overflow_cast-count c = omega (arith, few_nodes c.args.c c.requires.0)

pub run-requires : goal.run-requires
run-requires c =
    -- The number of partitions of a cluster without fault.
    let rows : c.partitions-partitions.result ≡ partitions (topology c.args.c) = c.partitions-partitions.ensures.0 ∙ partitions_in_range c.args.c.bits (accepted c.args.c c.requires.0).bits in
    let d = dealt-fits c.args.c c.requires.0 c.args.size c.args.rows.now _ c.requires.4 c.deal.ensures _ rows in
    (d.0, d.1, c.requires.5)

pub returns : goal.returns
returns c =
    let long : length c.args.c.nodes ≡ most_nodes = search length_of_map in
    -- The count is the number of nodes in use.
    let used : c.args.c.count ≡ nodes_of (topology c.args.c) = sym (nodes-count c.args.c long (few_nodes c.args.c c.requires.0)) in
    let rows : c.partitions-partitions.result ≡ partitions (topology c.args.c) = c.partitions-partitions.ensures.0 ∙ partitions_in_range c.args.c.bits (accepted c.args.c c.requires.0).bits in
    let w =
    answers c.args.c c.requires.0 c.args.size _ _ c.args.before.now c.args.rows.now _ _ _ _ c.args.allowance c.requires.1 rows used
    c.requires.4 c.deal.ensures c.zones-zones.ensures c.mates-mates.ensures
    (c.caps-caps.ensures.0 ∙ caps_in_lem c.args.c c.args.size (accepted c.args.c c.requires.0).bits) c.requires.2 c.requires.3 c.run.result.finished
    c.run.result.improvements _ c.run.ensures in (w.0, w.1, w.2, w.3, c.caps-caps.ensures.1)
