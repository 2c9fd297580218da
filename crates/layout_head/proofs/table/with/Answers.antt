-- `layout_head::table::with` meets its contract.
-- Assumes nothing.
use mathlib.Core.Path.{ap, ◌∙◌}
use mathlib.Core.List.{List}
use Prim.Native.Nat.{ℕ}
use lib.ListN.{set}
use Rattle.layout_head.specs.RecordHead.{numbers_from}
use Rattle.layout_head.proofs.table.with.Goals as goal

pub returns : goal.returns
returns c = let a = c.args in c.numbers_from.ensures ∙ ap (λ (l : List ℕ). numbers_from (set l a.i a.value)) c.numbers_in-values.ensures
