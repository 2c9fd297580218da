-- `numbers::number_in` meets its contract: bytes behind zeros are the same number.
-- Assumes nothing.
use Prim.Native.Nat.{ℕ, ◌+◌, ◌-◌, ◌^◌, ◌≤◌, ◌<◌}
use mathlib.Core.Path.{◌≡◌, sym, ap, ◌∙◌, subst}
use mathlib.Core.List.{[], ◌∷◌, List}
use native.Mathlib.Omega.{arith}
use lib.ListN.{length, take, drop}
use borrow.Rule.Slice.PartMut.{put_mid}
use Rattle.std.specs.Int.{w32, from_be_bytes}
use Rattle.numbers.specs.RecordNumber.{number_of, part}
use Rattle.numbers.proofs.Numbers.{length_part, number_there, number-at_lt, word_padded}
use Rattle.numbers.proofs.number_in.Goals as goal

pub returns : goal.returns
returns g c =
    let s = c.args.s.now in
    let at = c.args.at in
    let w = g.row.WIDTH in
    let there : at + w ≤ length s = omega arith in
    let k : at + w - at ≡ w = omega arith in
    let copied : c.copy_from_slice.new.self ≡ part s at w = c.copy_from_slice.ensures.after ∙ ap (λ (k : ℕ). take k (drop at s)) k in
    let long : length (part s at w) ≡ w = length_part s at w there in
    let word = subst (λ (k : ℕ). from_be_bytes w32 (put_mid (4 - k) (4 - (4 - k)) (0 ∷ 0 ∷ 0 ∷ 0 ∷ []) (part s at w)) ≡ number_of (part s at w)) long (word_padded (part s at w) (omega arith)) in
    let is = c.from_be_bytes.ensures ∙ (ap (λ (l : List ℕ). from_be_bytes w32 (put_mid (4 - w) (4 - (4 - w)) (0 ∷ 0 ∷ 0 ∷ 0 ∷ []) l)) copied ∙ (word ∙ sym (number_there s at w there))) in
    (is, subst (λ (n : ℕ). n < 256 ^ w) (sym is) (number-at_lt s at w (λ i. omega (arith, c.type_inv.s i))))
