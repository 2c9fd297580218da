-- `loss::search::kept` meets its contract.
-- Assumes nothing.
use borrow.Author.Tests.{lt-ltb, le-ltb}
use Rattle.loss.specs.ModelSearch.{costing, kept_of}
use Rattle.loss.proofs.search.kept.Goals as goal

pub returns-then-best-lost : goal.returns-then-best-lost
unfolding kept_of costing
returns-then-best-lost c = simp (← c.lost_rows-lost.ensures, lt-ltb _ _ c.if-best-lost.true)

pub returns-else-best-lost : goal.returns-else-best-lost
unfolding kept_of costing
returns-else-best-lost c = simp (← c.lost_rows-lost.ensures, le-ltb _ _ c.if-best-lost.false)
