-- `mask_cells::mask_at` meets its contract.
-- Assumes nothing.
use borrow.Author.Tests.{lt-ltb, le-ltb}
use Rattle.mask_cells.proofs.mask_at.Goals as goal

pub returns-then-p-partitions : goal.returns-then-p-partitions
returns-then-p-partitions c = simp (lt-ltb _ _ c.if-p-partitions.true)

pub returns-else-p-partitions : goal.returns-else-p-partitions
returns-else-p-partitions c = simp (le-ltb _ _ c.if-p-partitions.false)
