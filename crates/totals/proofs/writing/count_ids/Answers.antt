use borrow.Author.Rules.{rules}
use native.Mathlib.Omega.{arith}
use Prim.Native.Nat.{◌*◌, ◌^◌, ◌<◌}
use mathlib.Core.Path.{◌≡◌, ◌∙◌}
use lib.ListN.{take}
use Rattle.cluster.specs.Terms.{row_cells}
use Rattle.totals.specs.ModelTotals.{least_above}
use Rattle.totals.proofs.Next.{next_up, least_same}
use Rattle.totals.proofs.Puts.{count_none, count_next, count_end}
use Rattle.totals.proofs.writing.count_ids.Goals as goal

pub loop-ids-init : goal.loop-ids-init
loop-ids-init c = let a = c.args in (search rules, search rules, λ shape. count_none a.cells.now a.partitions shape, search rules, c.gather-count.ensures.2)

-- src/writing.rt:21:13
pub returns-then-id-eq0 : goal.returns-then-id-eq0
returns-then-id-eq0 c =
    -- The least id that is answered is that of the rows.
    let told : c.least_above-id.result ≡ least_above c.loop-ids.last (take (c.args.partitions * row_cells) c.args.cells.now) = c.least_above-id.ensures ∙ least_same (take c.gather-count.result c.gather-count.new.ids) (take (c.args.partitions * row_cells) c.args.cells.now) c.loop-ids.invariant.4 c.loop-ids.last in
    let a = c.args in (
      count_end a.cells.now a.partitions c.requires.2 c.loop-ids.n c.loop-ids.last c.least_above-id.result told c.if-id-eq0.true (c.loop-ids.invariant.2 c.requires.2),
      search rules,
    )

-- src/writing.rt:18:5
pub loop-ids-smaller : goal.loop-ids-smaller
loop-ids-smaller c =
    let told : c.least_above-id.result ≡ least_above c.loop-ids.last (take (c.args.partitions * row_cells) c.args.cells.now) = c.least_above-id.ensures ∙ least_same (take c.gather-count.result c.gather-count.new.ids) (take (c.args.partitions * row_cells) c.args.cells.now) c.loop-ids.invariant.4 c.loop-ids.last in
    -- An id has 32 bits.
    let small : c.least_above-id.result < 2 ^ 32 = search rules in
    let a = c.args in
    omega (arith, next_up a.cells.now a.partitions c.loop-ids.last c.least_above-id.result told c.if-id-eq0.false, small)

-- src/writing.rt:18:5
pub loop-ids-preserved : goal.loop-ids-preserved
loop-ids-preserved c =
    let told : c.least_above-id.result ≡ least_above c.loop-ids.last (take (c.args.partitions * row_cells) c.args.cells.now) = c.least_above-id.ensures ∙ least_same (take c.gather-count.result c.gather-count.new.ids) (take (c.args.partitions * row_cells) c.args.cells.now) c.loop-ids.invariant.4 c.loop-ids.last in
    let small : c.least_above-id.result < 2 ^ 32 = search rules in
    let a = c.args in
    let up = next_up a.cells.now a.partitions c.loop-ids.last c.least_above-id.result told c.if-id-eq0.false in (
      omega (arith, up),
      small,
      λ shape.
          count_next a.cells.now a.partitions shape c.loop-ids.n c.loop-ids.last c.least_above-id.result told c.if-id-eq0.false (c.loop-ids.invariant.2 shape),
      c.loop-ids.invariant.3,
      c.loop-ids.invariant.4,
    )
