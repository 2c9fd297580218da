-- `certificate::pricing::lacking` meets its contract. The first b prices are written. Assumes nothing.
use Prim.Native.Nat.{◌-◌}
use mathlib.Core.Path.{◌≡◌}
use lib.ListN.{get_or}
use Rattle.sums.specs.ModelSums.{max_to}
use Rattle.incidence.specs.ModelIncidence.{column}
use Rattle.certificate.proofs.pricing.lacking.Given as goal

abbrev pub invariant-loop-b : goal.invariant-loop-b
invariant-loop-b l = l.prices ≡ column (λ i. max_to l.n (λ v. get_or l.levels v 0) - get_or l.levels i 0) l.b
