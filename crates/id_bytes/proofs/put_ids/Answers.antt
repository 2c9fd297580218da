-- `id_bytes::put_ids` meets its contract.
use Prim.Native.Nat.{ℕ, ◌+◌, ◌*◌}
use mathlib.Core.Path.{ap₂, ◌∙◌}
use mathlib.Core.List.{List}
use lib.ListN.{set}
use Rattle.cells.proofs.Cells.{put-none, put-more}
use Rattle.cluster.specs.Terms.{row_cells}
use Rattle.id_bytes.proofs.put_ids.Goals as goal

pub loop-j-init : goal.loop-j-init
loop-j-init c = put-none _ _ _

pub loop-j-preserved : goal.loop-j-preserved
loop-j-preserved c =
    ap₂ (λ (l : List ℕ) (v : ℕ). set l (c.args.row * row_cells + c.loop-j.j) v) c.loop-j.invariant c.word_in.ensures.0 ∙ put-more _ _ c.loop-j.j _
