-- `masks::row_mask` meets its contract.
-- Assumes nothing.
use Rattle.cluster.specs.Terms.{topology}
use Rattle.masks.proofs.Where.{ids_used}
use Rattle.masks.proofs.row_mask.Goals as goal

pub returns : goal.returns
returns c =
    let ns = (topology c.args.c).nodes in
    c.mask_of.ensures ns (ids_used ns _ _ c.used-n.ensures.1 c.used-n.ensures.0 c.ids_of-ids.ensures)
