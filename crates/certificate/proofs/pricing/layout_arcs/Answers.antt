-- `certificate::pricing::layout_arcs` meets its contract. Assumes nothing.
use mathlib.Core.Path.{◌∙◌}
use Rattle.cluster.proofs.Accepting.{partitions_in_range, accepted}
use Rattle.certificate.proofs.Making.{arcs_are}
use Rattle.certificate.proofs.pricing.layout_arcs.Goals as goal

pub returns : goal.returns
returns c =
    let a = c.args in
    arcs_are a.c c.requires.0 a.former.now a.assignment.now c.requires.1 c.requires.2 _ _
    (c.partitions-partitions.ensures.0 ∙ partitions_in_range a.c.bits (accepted a.c c.requires.0).bits) c.used-n.ensures.0 _ _ _ _ _ _ c.read_masks.ensures
    c.read_masks-2.ensures c.zones-zones.ensures c.mates-mates.ensures c.requires.3 c.rows_arcs.ensures
