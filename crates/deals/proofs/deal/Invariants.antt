-- `deals::deal` meets its contract. The loop's invariant: the copies of the first b nodes are dealt.
-- Assumes nothing.
use mathlib.Core.Path.{◌≡◌}
use Rattle.sets.specs.ModelBits.{mask_of}
use Rattle.cells.specs.ModelCells.{put}
use Rattle.incidence.specs.ModelIncidence.{cell}
use Rattle.dealing.specs.ModelDeal.{among}
use Rattle.deals.proofs.deal.Given as goal

abbrev pub invariant-loop-b : goal.invariant-loop-b
invariant-loop-b l = l.rows ≡ put 0 (λ p. mask_of (λ c. among l.partitions (cell l.starts c) (cell l.copies c) p) l.b) l.partitions l.initial.rows
