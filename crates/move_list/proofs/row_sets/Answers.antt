-- `move_list::row_sets` meets its contract.
-- Assumes nothing.
use Rattle.move_list.specs.ModelMoveRows.{wide_mask}
use Rattle.move_list.proofs.row_sets.Goals as goal

pub returns : goal.returns
unfolding wide_mask
returns c = λ ns e. (c.wide_mask_of-old.ensures ns e, c.mask_of-new.ensures ns e)
