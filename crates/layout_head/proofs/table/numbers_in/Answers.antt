-- `layout_head::table::numbers_in` meets its contract: each number stands where the table has its entry.
-- Assumes nothing.
use mathlib.Core.Path.{refl}
use Rattle.layout_head.proofs.table.numbers_in.Goals as goal

pub returns : goal.returns
returns c = refl
