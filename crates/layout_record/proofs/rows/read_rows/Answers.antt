-- `layout_record::rows::read_rows` meets its contract: a field that is not whole or a row with a fault stops the reading; any other row
-- is one more (`RowsTo.antt`).
-- Assumes nothing.
use Prim.Native.Nat.{ℕ, ◌+◌, ◌*◌, ◌^◌, ◌≤◌, ◌<◌, min}
use mathlib.Core.Path.{◌≡◌, refl, ap, ◌∙◌, subst}
use mathlib.Core.List.{List}
use native.Mathlib.Omega.{arith}
use lib.ListN.{length}
use Rattle.cluster.specs.Terms.{most_bits, buffer_rows, layout_cells}
use Rattle.cell_rows.proofs.CellLayouts.{length-cells_of}
use Rattle.std.specs.Prelude.{Err}
use Rattle.cluster.specs.TermsRefusal.{refusal_of as refusal_number}
use Rattle.fields.specs.RecordField.{refusal_of, place_of}
use Rattle.layout_record.proofs.RowsTo.{Says, rows_stopped, rows_faulted, rows_further, rows-ended}
use Rattle.layout_record.proofs.rows.read_rows.Goals as goal

-- The partitions of few bits.
all_of : (partitions bits : ℕ) → bits ≤ most_bits → partitions ≡ 2 ^ min bits most_bits → partitions ≡ 2 ^ bits
all_of partitions bits h e = let m : min bits most_bits ≡ bits = omega arith in e ∙ ap (λ (k : ℕ). 2 ^ k) m

pub returns-in_default : goal.returns-in_default
returns-in_default c =
    subst (λ (t : List ℕ). Says t c.args.from c.args.numbers (Err c.refused.result) c.loop-next.cells) c.loop-next.invariant.source
    (rows_stopped c.loop-next.invariant.read (omega arith) c.in_default.ensures.0 c.refused.result
    (c.refused.ensures.0 ∙ ap refusal_of c.in_default.is) (c.refused.ensures.1 ∙ ap place_of c.in_default.is))

pub returns-in-Err : goal.returns-in-Err
returns-in-Err c =
    let p = c.partitions-partitions in
    let all = all_of p.result c.args.numbers.bits c.requires.0 p.ensures.0 in
    subst (λ (t : List ℕ). Says t c.args.from c.args.numbers (Err (record { refusal = c.in-Err.refusal; at = c.loop-next.r.at })) c.loop-next.cells)
    c.loop-next.invariant.source
    (rows_faulted c.loop-next.invariant.read (omega arith) all c.in-Body.ensures.0 c.in-Err.ensures c.in-Err.refusal refl)

pub put_ids-requires : goal.put_ids-requires
put_ids-requires c =
    let long : length c.loop-next.cells ≡ layout_cells =
    ap length c.loop-next.invariant.read.are ∙ length-cells_of c.loop-next.invariant.read.rows in
    let body = c.in-Body.ensures.1 in
    let one : c.in-Body.len ≡ 2 + 4 * c.args.numbers.replication = body.only (λ z. omega (arith, z)) in
    (omega (arith, long, c.partitions-partitions.ensures.1, c.requires.2), omega (arith, one, body.ends))

pub loop-next-preserved : goal.loop-next-preserved
loop-next-preserved c =
    let p = c.partitions-partitions in
    let all = all_of p.result c.args.numbers.bits c.requires.0 p.ensures.0 in
    let inside : c.loop-next.next < buffer_rows = omega (arith, p.ensures.1) in
    record {
      source = c.loop-next.invariant.source;
      read = rows_further c.loop-next.invariant.read (omega arith) all c.in-Body.ensures.0 c.row_fault.ensures
          (ap refusal_number c.in_default-row_fault.is) inside c.requires.2 c.put_ids.ensures;
    }

pub returns : goal.returns
returns c =
    subst (λ (t : List ℕ). Says t c.args.from c.args.numbers c.ended.result c.loop-next.cells) c.loop-next.invariant.source
    (rows-ended c.loop-next.invariant.read (omega arith) c.ended.result c.ended.ensures)
