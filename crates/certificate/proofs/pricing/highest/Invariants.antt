-- `certificate::pricing::highest` meets its contract. The highest of the levels passed. Assumes nothing.
use mathlib.Core.Path.{◌≡◌}
use lib.ListN.{get_or}
use Rattle.sums.specs.ModelSums.{max_to}
use Rattle.certificate.proofs.pricing.highest.Given as goal

abbrev pub invariant-loop-level : goal.invariant-loop-level
invariant-loop-level l = l.most ≡ max_to l.level-index (λ i. get_or l.levels i 0)
