-- `layout_record::write::put_ids` meets its contract. The loop's invariant: the first ids are written.
use native.Mathlib.Omega.{arith}
use Prim.Native.Nat.{ℕ}
use mathlib.Core.Path.{◌≡◌, ap, ◌∙◌}
use lib.ListN.{take, drop}
use Rattle.fields.specs.RecordField.{written, id_bytes}
use Rattle.numbers.proofs.Written.{written_none}
use Rattle.fields.proofs.Puts.{put_id}
use Rattle.layout_record.proofs.write.put_ids.Goals as goal

pub loop-j-init : goal.loop-j-init
unfolding id_bytes
loop-j-init c = let a = c.args in written_none a.out.now a.at

pub loop-j-preserved : goal.loop-j-preserved
loop-j-preserved c =
    let p = c.put_word in
    let a = c.args in
    p.ensures ∙ put_id a.out.now _ a.cells.now a.at a.from c.loop-j.j c.loop-j.invariant (omega arith) (omega arith)

pub returns : goal.returns
returns c =
    let a = c.args in
    let e : c.loop-j.j ≡ a.count = omega arith in
    c.loop-j.invariant ∙ ap (λ (n : ℕ). written a.out.now a.at (id_bytes (take n (drop a.from a.cells.now)))) e
