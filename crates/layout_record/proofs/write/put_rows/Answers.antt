-- `layout_record::write::put_rows` meets its contract. The loop's invariant: the fields of the first rows are written.
use borrow.Author.Rules.{rules}
use native.Mathlib.Omega.{arith}
use Prim.Native.Nat.{ℕ, ◌+◌, ◌*◌, ◌≤◌}
use mathlib.Core.Path.{◌≡◌, ap, ◌∙◌}
use native.Mathlib.Nat.{zero-mul}
use lib.ListN.{length}
use Rattle.sums.specs.TermsSums.{tab}
use Rattle.cluster.specs.Terms.{rows_in}
use Rattle.fields.specs.RecordField.{written}
use Rattle.layout_rows.specs.RecordLayout.{layout_row_fields}
use Rattle.numbers.proofs.Written.{written_none}
use Rattle.layout_record.proofs.RecordLaws.{row_ends}
use Rattle.layout_record.proofs.PutRows.{next-at, put-row-next}
use Rattle.layout_record.proofs.write.put_rows.Goals as goal

pub loop-p-init : goal.loop-p-init
unfolding layout_row_fields rows_in tab
loop-p-init c =
    let a = c.args in
    (omega (arith, zero-mul (5 + 4 * a.count)), written_none a.out.now 29)

pub put_row-requires : goal.put_row-requires
put_row-requires c =
    -- There is room for one row more.
    let room : let a = c.args in c.loop-p.at + 5 + 4 * a.count ≤ length a.out.now = let a = c.args in omega (arith, row_ends c.loop-p.p a.partitions (5 + 4 * a.count) (omega arith)) in
    (omega (arith, room), search rules, search rules, search rules)

pub overflow_add-at-in-loop-p : goal.overflow_add-at-in-loop-p
overflow_add-at-in-loop-p c =
    let room : let a = c.args in c.loop-p.at + 5 + 4 * a.count ≤ length a.out.now = let a = c.args in omega (arith, row_ends c.loop-p.p a.partitions (5 + 4 * a.count) (omega arith)) in
    omega (arith, room)

pub loop-p-preserved : goal.loop-p-preserved
loop-p-preserved c =
    let room : let a = c.args in c.loop-p.at + 5 + 4 * a.count ≤ length a.out.now = let a = c.args in omega (arith, row_ends c.loop-p.p a.partitions (5 + 4 * a.count) (omega arith)) in
    let a = c.args in (
      omega (arith, next-at c.loop-p.p (5 + 4 * a.count)),
      put-row-next a.cells.now a.partitions a.count (omega arith) c.requires.4 a.out.now _ _ c.loop-p.at c.loop-p.p (omega arith)
          c.loop-p.invariant.1 c.loop-p.invariant.0 (omega (arith, room)) c.put_row.ensures,
    )

pub returns : goal.returns
returns c =
    let a = c.args in
    let e : c.loop-p.p ≡ a.partitions = omega arith in
    c.loop-p.invariant.1 ∙ ap (λ (p : ℕ). written a.out.now 29 (layout_row_fields 0 (rows_in p a.cells.now))) e
