use borrow.Author.Rules.{rules}
use native.Mathlib.Omega.{arith}
use Prim.Native.Nat.{◌+◌, ◌*◌, ◌^◌, ◌≤◌, ◌<◌}
use mathlib.Core.Path.{◌≡◌, ◌∙◌}
use lib.ListN.{length, take}
use Rattle.cluster.specs.Terms.{row_cells}
use Rattle.totals.specs.RecordTotalsFaults.{total_bytes}
use Rattle.totals.specs.ModelTotals.{least_above}
use Rattle.totals.proofs.Next.{next_up, least_same}
use Rattle.totals.proofs.Puts.{put-none, put-room, put-more, put_end}
use Rattle.totals.proofs.writing.put_totals.Goals as goal

pub loop-ids-init : goal.loop-ids-init
loop-ids-init c = let a = c.args in (search rules, search rules, λ shape. put-none a.cells.now a.partitions shape a.out.now a.from, search rules, c.gather-count.ensures.2)

-- src/writing.rt:50:13
pub returns-then-id-eq0 : goal.returns-then-id-eq0
returns-then-id-eq0 c =
    -- The least id that is answered is that of the rows.
    let told : c.least_above-id.result ≡ least_above c.loop-ids.last (take (c.args.partitions * row_cells) c.args.cells.now) = c.least_above-id.ensures ∙ least_same (take c.gather-count.result c.gather-count.new.ids) (take (c.args.partitions * row_cells) c.args.cells.now) c.loop-ids.invariant.4 c.loop-ids.last in
    let a = c.args in
    put_end a.cells.now a.partitions c.requires.2 (c.loop-ids.invariant.2 c.requires.2) c.least_above-id.result told c.if-id-eq0.true

-- src/writing.rt:53:9
pub put_total-requires : goal.put_total-requires
put_total-requires c =
    let told : c.least_above-id.result ≡ least_above c.loop-ids.last (take (c.args.partitions * row_cells) c.args.cells.now) = c.least_above-id.ensures ∙ least_same (take c.gather-count.result c.gather-count.new.ids) (take (c.args.partitions * row_cells) c.args.cells.now) c.loop-ids.invariant.4 c.loop-ids.last in
    -- There is room for one total more.
    let room : c.loop-ids.at + total_bytes ≤ length c.args.out.now = (let a = c.args in
    put-room a.cells.now a.partitions c.requires.2 (c.loop-ids.invariant.2 c.requires.2) c.least_above-id.result (length a.out.now) told c.if-id-eq0.false c.requires.3) in
    omega (arith, room, c.loop-ids.invariant.0)

-- src/writing.rt:55:9
pub overflow_add-at : goal.overflow_add-at
overflow_add-at c =
    let told : c.least_above-id.result ≡ least_above c.loop-ids.last (take (c.args.partitions * row_cells) c.args.cells.now) = c.least_above-id.ensures ∙ least_same (take c.gather-count.result c.gather-count.new.ids) (take (c.args.partitions * row_cells) c.args.cells.now) c.loop-ids.invariant.4 c.loop-ids.last in
    let room : c.loop-ids.at + total_bytes ≤ length c.args.out.now = (let a = c.args in
    put-room a.cells.now a.partitions c.requires.2 (c.loop-ids.invariant.2 c.requires.2) c.least_above-id.result (length a.out.now) told c.if-id-eq0.false c.requires.3) in
    let h = room in search rules

-- src/writing.rt:47:5
pub loop-ids-smaller : goal.loop-ids-smaller
loop-ids-smaller c =
    let told : c.least_above-id.result ≡ least_above c.loop-ids.last (take (c.args.partitions * row_cells) c.args.cells.now) = c.least_above-id.ensures ∙ least_same (take c.gather-count.result c.gather-count.new.ids) (take (c.args.partitions * row_cells) c.args.cells.now) c.loop-ids.invariant.4 c.loop-ids.last in
    -- An id has 32 bits.
    let small : c.least_above-id.result < 2 ^ 32 = search rules in
    let a = c.args in
    omega (arith, next_up a.cells.now a.partitions c.loop-ids.last c.least_above-id.result told c.if-id-eq0.false, small)

-- src/writing.rt:47:5
pub loop-ids-preserved : goal.loop-ids-preserved
loop-ids-preserved c =
    let told : c.least_above-id.result ≡ least_above c.loop-ids.last (take (c.args.partitions * row_cells) c.args.cells.now) = c.least_above-id.ensures ∙ least_same (take c.gather-count.result c.gather-count.new.ids) (take (c.args.partitions * row_cells) c.args.cells.now) c.loop-ids.invariant.4 c.loop-ids.last in
    let small : c.least_above-id.result < 2 ^ 32 = search rules in
    let room : c.loop-ids.at + total_bytes ≤ length c.args.out.now = (let a = c.args in
    put-room a.cells.now a.partitions c.requires.2 (c.loop-ids.invariant.2 c.requires.2) c.least_above-id.result (length a.out.now) told c.if-id-eq0.false c.requires.3) in
    let a = c.args in (
      search rules,
      small,
      λ shape.
          put-more a.cells.now a.partitions shape (c.loop-ids.invariant.2 shape) c.least_above-id.result c.copies_of-copies.result _ told c.if-id-eq0.false
          c.copies_of-copies.ensures room c.put_total.ensures,
      c.loop-ids.invariant.3,
      c.loop-ids.invariant.4,
    )
