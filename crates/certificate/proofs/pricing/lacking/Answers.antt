-- `certificate::pricing::lacking` meets its contract. The first b prices are written. Assumes nothing.
use native.Mathlib.Omega.{arith}
use Prim.Native.Nat.{ℕ, ◌-◌}
use mathlib.Core.Path.{ap}
use lib.ListN.{get_or}
use Rattle.sums.specs.ModelSums.{max_to}
use Rattle.sums.proofs.Count.{max_ge}
use Rattle.incidence.proofs.Columns.{column-none, column-next, column_end}
use Rattle.certificate.proofs.pricing.lacking.Goals as goal

pub loop-b-init : goal.loop-b-init
loop-b-init c = column-none _

pub overflow_sub-prices : goal.overflow_sub-prices
overflow_sub-prices c =
    let l = c.args.levels.now in
    omega (arith, c.highest-most.ensures, max_ge c.args.n c.loop-b.b (λ v. get_or l v 0) (omega arith))

pub loop-b-preserved : goal.loop-b-preserved
loop-b-preserved c =
    let l = c.args.levels.now in
    let n = c.args.n in
    column-next (λ i. max_to n (λ v. get_or l v 0) - get_or l i 0) c.loop-b.prices c.loop-b.b _ c.loop-b.invariant
    (ap (λ (m : ℕ). m - get_or l c.loop-b.b 0) c.highest-most.ensures)

pub returns : goal.returns
returns c =
    let l = c.args.levels.now in
    let n = c.args.n in
    column_end (λ i. max_to n (λ v. get_or l v 0) - get_or l i 0) c.loop-b.prices c.loop-b.b n c.loop-b.invariant (omega arith)
