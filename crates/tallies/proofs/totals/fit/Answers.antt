-- `tallies::totals::fit` meets its contract.
-- Assumes nothing.
use borrow.Author.Rules.{rules}
use native.Mathlib.Omega.{arith}
use native.Mathlib.Nat.{mul-le-mul}
use Rattle.cluster.specs.Terms.{buffer_rows, most_copies}
use Rattle.incidence.specs.ModelIncidence.{cell}
use Rattle.tallies.proofs.Fitting.{fits_not, fits-wide}
use Rattle.tallies.proofs.totals.fit.Goals as goal

pub overflow_mul-replication : goal.overflow_mul-replication
overflow_mul-replication c =
    omega (arith, mul-le-mul {n₁ = c.args.replication} {m₁ = c.args.partitions} {n₂ = most_copies} {m₂ = buffer_rows} (search rules) (search rules))

pub returns-then-total-replication : goal.returns-then-total-replication
returns-then-total-replication c =
    let a = c.args in
    fits_not a.partitions a.n a.replication a.redundancy (cell a.zones.now) (cell a.caps.now) (search rules) c.requires.5
    c.total.result c.total.ensures (search rules)

pub zone_totals-sums-requires : goal.zone_totals-sums-requires
zone_totals-sums-requires c =
    (search rules, c.requires.4, λ b l. omega (arith, c.requires.5 b l))

pub overflow_mul-result : goal.overflow_mul-result
overflow_mul-result c =
    omega (arith, mul-le-mul {n₁ = c.args.redundancy} {m₁ = c.args.partitions} {n₂ = most_copies} {m₂ = buffer_rows} (search rules) (search rules))

pub returns : goal.returns
returns c =
    let a = c.args in
    let t = c.total in
    fits-wide a.partitions a.n a.replication a.redundancy (cell a.zones.now) (cell a.caps.now) (search rules) c.requires.5
    t.result c.total-2.result c.zone_totals-sums.result t.ensures (search rules) c.zone_totals-sums.ensures c.total-2.ensures
