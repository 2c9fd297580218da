-- `tallies::nodes::of_zone` meets its contract. The loop's invariant: the mask of the nodes passed.
-- Assumes nothing.
use mathlib.Core.Path.{◌≡◌}
use Rattle.sums.specs.ModelSums.{is}
use Rattle.sets.specs.ModelBits.{mask_of}
use Rattle.incidence.specs.ModelIncidence.{cell}
use Rattle.tallies.proofs.nodes.of_zone.Given as goal

abbrev pub invariant-loop-b : goal.invariant-loop-b
invariant-loop-b l = l.mask ≡ mask_of (λ i. is (cell l.zones i) l.z) l.b
