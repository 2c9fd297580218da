-- `line::starts` meets its contract. The loop's invariant: the first b places are written.
-- Assumes nothing.
use Prim.Native.Nat.{◌%◌}
use mathlib.Core.Path.{◌≡◌}
use Rattle.dealing.specs.ModelDeal.{start}
use Rattle.incidence.specs.ModelIncidence.{cell, column}
use Rattle.line.proofs.starts.Given as goal

abbrev pub invariant-loop-b : goal.invariant-loop-b
invariant-loop-b l = l.starts ≡ column (λ i. start l.partitions l.n (cell l.zones) (cell l.copies) i % l.partitions) l.b
