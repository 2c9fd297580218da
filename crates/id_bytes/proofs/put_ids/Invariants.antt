-- `id_bytes::put_ids` meets its contract. The loop's invariant: the first ids are written.
-- Assumes nothing.
use Prim.Native.Nat.{◌+◌, ◌*◌}
use mathlib.Core.Path.{◌≡◌}
use Rattle.cells.specs.ModelCells.{put}
use Rattle.cluster.specs.Terms.{row_cells}
use Rattle.numbers.specs.RecordNumber.{number_at}
use Rattle.id_bytes.proofs.put_ids.Given as goal

abbrev pub invariant-loop-j : goal.invariant-loop-j
invariant-loop-j l = l.cells ≡ put (l.row * row_cells) (λ i. number_at l.bytes (l.from + 4 * i) 4) l.j l.initial.cells
