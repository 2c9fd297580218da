-- `numbers::put` meets its contract.
-- Assumes nothing.
use Prim.Native.Nat.{ℕ, ◌+◌, ◌-◌}
use mathlib.Core.Path.{◌≡◌, sym, ap, ap₂, ◌∙◌}
use mathlib.Core.List.{List}
use native.Mathlib.Omega.{arith}
use lib.ListN.{length, take, drop}
use borrow.Rule.Slice.PartMut.{put_mid}
use Rattle.numbers.specs.RecordNumber.{bytes_of}
use Rattle.numbers.proofs.Numbers.{true-has, false-has, length-bytes, word_end}
use Rattle.numbers.proofs.Written.{written_part, written_short}
use Rattle.numbers.proofs.put.Goals as goal

pub returns-then-reaches : goal.returns-then-reaches
returns-then-reaches g c =
    let out = c.args.out.now in
    let at = c.args.at in
    let l = bytes_of g.row.WIDTH c.args.value in
    let there = true-has _ _ _ (sym c.reaches.ensures ∙ c.if-reaches.true) in
    let long = length-bytes g.row.WIDTH c.args.value in
    let k : at + g.row.WIDTH - at ≡ length l = omega arith in
    let copied = c.copy_from_slice.ensures.after ∙ (ap (λ (r : List ℕ). take (4 - (4 - g.row.WIDTH)) (drop (4 - g.row.WIDTH) r)) c.to_be_bytes.ensures ∙ word_end g.row.WIDTH c.args.value c.requires) in
    ap₂ (λ (k : ℕ) (r : List ℕ). put_mid at k out r) k copied ∙ written_part out at l (omega arith)

pub returns-else-reaches : goal.returns-else-reaches
returns-else-reaches g c = sym (written_short _ _ _ _ (false-has _ _ _ (sym c.reaches.ensures ∙ c.if-reaches.false)))
