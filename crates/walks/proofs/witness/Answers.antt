-- `walks::witness` meets its contract. Assumes nothing.
use native.Mathlib.Nat.{sub-zero}
use Rattle.walks.specs.ModelWalks.{suits_at, witness_of}
use native.Mathlib.Omega.{arith}
use Rattle.walks.proofs.Renewing.{found_le}
use Rattle.sums.specs.ModelSums.{first_from}
use mathlib.Core.Path.{ap₂, ◌∙◌}
use Prim.Native.Nat.{ℕ}
use Rattle.walks.proofs.witness.Goals as goal

pub returns : goal.returns
unfolding witness_of
returns c = let a = c.args in (
  c.unwrap_or.ensures ∙ c.first.ensures.0
      ∙ ap₂ (λ (w n : ℕ). first_from (suits_at a.rows.now a.given.now.former.now a.given.now.mates.now a.all a.given.now.z w a.u a.v) n 0)
      c.weight-w.ensures.0 (sub-zero a.given.now.partitions),
  omega (arith, c.unwrap_or.ensures, found_le c.first.result a.given.now.partitions c.first.ensures.1),
)
