-- `line::starts` meets its contract. The loop's invariant: the first b places are written.
use borrow.Author.Rules.{rules}
use native.Mathlib.Omega.{arith}
use Prim.Native.Nat.{ℕ, ◌%◌}
use mathlib.Core.Path.{ap}
use Rattle.tallies.specs.ModelTallies.{most_in_zone}
use Rattle.cluster.specs.Terms.{buffer_rows}
use Rattle.dealing.specs.ModelDeal.{start}
use Rattle.incidence.specs.ModelIncidence.{cell}
use Rattle.incidence.proofs.Columns.{column-none, column-next, column_end}
use Rattle.tallies.proofs.Adding.{zone_bound}
use Rattle.line.proofs.Lining.{begins_bound, totals-most, start-cells}
use Rattle.line.proofs.starts.Goals as goal

pub loop-b-init : goal.loop-b-init
loop-b-init c = column-none _

pub overflow_cast-z : goal.overflow_cast-z
overflow_cast-z c =
    omega (arith, c.requires.2 c.loop-b.b (omega arith))

pub zone_begins-begin-requires : goal.zone_begins-begin-requires
zone_begins-begin-requires c =
    let t = c.zone_totals-sums in (
      omega (arith, c.requires.2 c.loop-b.b (omega arith)),
      search rules,
      totals-most (cell c.args.zones.now) (cell c.args.copies.now) c.args.n t.result (search rules) c.requires.3 t.ensures,
    )

pub in_zone-requires : goal.in_zone-requires
in_zone-requires c =
    (search rules, λ i l. c.requires.3 i (omega arith))

pub overflow_add-starts : goal.overflow_add-starts
overflow_add-starts c =
    let a = c.args in
    let t = c.zone_totals-sums in
    let z = cell a.zones.now c.loop-b.b in
    omega (
      arith,
      c.zone_begins-begin.ensures,
      c.in_zone.ensures,
      begins_bound a.partitions (cell t.result) a.n z most_in_zone (search rules) (omega (arith, c.requires.2 c.loop-b.b (omega arith)))
          (totals-most (cell a.zones.now) (cell a.copies.now) a.n t.result (search rules) c.requires.3 t.ensures),
      zone_bound (cell a.zones.now) (cell a.copies.now) c.loop-b.b z buffer_rows (λ i l. c.requires.3 i (omega arith)),
    )

pub loop-b-preserved : goal.loop-b-preserved
loop-b-preserved c =
    let a = c.args in
    let t = c.zone_totals-sums in
    column-next (λ i. start a.partitions a.n (cell a.zones.now) (cell a.copies.now) i % a.partitions) c.loop-b.starts c.loop-b.b _ c.loop-b.invariant
    (ap (λ (x : ℕ). x % a.partitions)
    (start-cells a.partitions a.n (cell a.zones.now) (cell a.copies.now) t.result c.loop-b.b c.zone_begins-begin.result c.in_zone.result
    (search rules) (omega (arith, c.requires.2 c.loop-b.b (omega arith))) t.ensures c.zone_begins-begin.ensures c.in_zone.ensures))

pub returns : goal.returns
returns c =
    let a = c.args in
    column_end (λ i. start a.partitions a.n (cell a.zones.now) (cell a.copies.now) i % a.partitions) c.loop-b.starts c.loop-b.b a.n c.loop-b.invariant (omega arith)
