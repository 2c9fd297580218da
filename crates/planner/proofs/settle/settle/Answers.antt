use borrow.Author.Rules.{rules}
use mathlib.Core.Path.{◌≡◌, ◌∙◌}
use Rattle.cluster.specs.Terms.{topology, partitions}
use Rattle.cluster.proofs.Accepting.{partitions_in_range, accepted}
use Rattle.planner.proofs.Settling.{before_long, countable, settled}
use Rattle.planner.proofs.settle.settle.Goals as goal

pub improved-ended-requires : goal.improved-ended-requires
improved-ended-requires c =
    -- The number of partitions of a cluster without fault.
    let rows : c.partitions-partitions.result ≡ partitions (topology c.args.c) = c.partitions-partitions.ensures.0 ∙ partitions_in_range c.args.c.bits (accepted c.args.c c.requires.0).bits in (
      c.requires.0,
      c.requires.3,
      c.requires.4,
      before_long c.args.c c.requires.0 c.args.former.now _ _ c.requires.2 rows c.read_masks.ensures,
      search rules,
      c.requires.5,
    )

pub sent-sent-requires : goal.sent-sent-requires
sent-sent-requires c =
    let rows : c.partitions-partitions.result ≡ partitions (topology c.args.c) = c.partitions-partitions.ensures.0 ∙ partitions_in_range c.args.c.bits (accepted c.args.c c.requires.0).bits in
    countable c.args.c c.requires.0 c.args.former.now _ _ c.requires.2 rows c.read_masks.ensures c.args.allowance c.args.size
    c.requires.3 c.requires.4 _ c.improved-ended.ensures.0 _ c.improved-ended.ensures.2 c.improved-ended.ensures.3

pub returns : goal.returns
returns c =
    let rows : c.partitions-partitions.result ≡ partitions (topology c.args.c) = c.partitions-partitions.ensures.0 ∙ partitions_in_range c.args.c.bits (accepted c.args.c c.requires.0).bits in
    let w =
    settled c.args.c c.requires.0 c.args.former.now _ _ c.requires.2 rows c.read_masks.ensures c.args.allowance c.args.size
    c.requires.3 c.requires.4 _ c.improved-ended.ensures.0 _ c.improved-ended.ensures.2 c.improved-ended.ensures.3 c.sent-sent.result c.sent-sent.ensures
    c.improved-ended.result.improvements c.improved-ended.ensures.1 c.args.assignment.now c.requires.1 in (
      w.0,
      c.write_cells.ensures ∙ w.1,
      c.improved-ended.ensures.4,
    )
