-- `fields::put_head` meets its contract.
-- Assumes nothing.
use native.Mathlib.Omega.{arith}
use Prim.Native.Nat.{◌+◌}
use mathlib.Core.Path.{refl, ◌∙◌}
use Rattle.fields.specs.RecordField.{bytes_of}
use Rattle.numbers.proofs.Numbers.{length-bytes}
use Rattle.fields.proofs.Puts.{put_next}
use Rattle.fields.proofs.put_head.Goals as goal

pub returns : goal.returns
returns c =
    let p = c.put_pair in
    let a = c.args in
    p.ensures
    ∙ put_next a.out.now _ (bytes_of 1 a.tag) (bytes_of 2 a.len) a.at 1 (a.at + 1) c.put_byte.ensures (length-bytes 1 a.tag) refl
    (omega (arith, length-bytes 2 a.len))
