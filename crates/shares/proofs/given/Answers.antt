-- `shares::given` meets its contract.
-- Assumes nothing.
use borrow.Author.Rules.{rules}
use native.Mathlib.Omega.{arith}
use native.Mathlib.Nat.{mul-le-mul}
use Rattle.cluster.specs.Terms.{buffer_rows, most_copies}
use Rattle.incidence.specs.ModelIncidence.{cell}
use Rattle.shares.proofs.Giving.{first-most, second-given}
use Rattle.shares.proofs.given.Goals as goal

pub overflow_mul-room : goal.overflow_mul-room
overflow_mul-room c =
    let a = c.args in
    omega (arith, mul-le-mul {n₁ = a.replication} {m₁ = a.partitions} {n₂ = most_copies} {m₂ = buffer_rows} (search rules) (search rules))

pub second-requires : goal.second-requires
second-requires c =
    let a = c.args in
    let f = c.first-first in (
      search rules,
      c.requires.3,
      first-most a.partitions a.n a.replication (cell a.zones.now) (cell a.caps.now) (search rules) f.result f.ensures buffer_rows c.requires.3,
    )

pub returns : goal.returns
returns c =
    let a = c.args in
    let f = c.first-first in
    let t = c.total-placed in
    let l = c.saturating_sub in
    second-given a.partitions a.n a.replication (cell a.zones.now) (cell a.caps.now) (search rules) f.result f.ensures
    t.result l.result c.second.result c.requires.3 t.ensures l.ensures c.second.ensures
