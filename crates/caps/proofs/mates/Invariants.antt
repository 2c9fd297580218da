-- `caps::mates` meets its contract. The loop's invariant: the first b sets are written.
-- Assumes nothing.
use mathlib.Core.Path.{◌≡◌}
use Rattle.sums.specs.ModelSums.{is}
use Rattle.sets.specs.ModelBits.{mask_of}
use Rattle.incidence.specs.ModelIncidence.{cell, column}
use Rattle.caps.proofs.mates.Given as goal

abbrev pub invariant-loop-b : goal.invariant-loop-b
invariant-loop-b l = l.mates ≡ column (λ i. mask_of (λ x. is (cell l.zones x) (cell l.zones i)) l.m) l.b
