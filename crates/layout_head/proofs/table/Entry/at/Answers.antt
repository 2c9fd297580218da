-- `layout_head::table::Entry::at` meets its contract: the code's table is the one of the definitions.
-- Assumes nothing.
use mathlib.Core.Path.{refl}
use Rattle.layout_head.proofs.table.Entry.at.Goals as goal

pub returns : goal.returns
returns c = refl
