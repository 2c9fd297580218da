use native.Mathlib.Omega.{arith}
use mathlib.Core.Path.{ap, ◌∙◌, subst}
use mathlib.Core.List.{List}
use Prim.Native.Nat.{ℕ}
use lib.ListN.{length}
use Rattle.fields.specs.ModelTags.{tags_of}
use Rattle.fields.specs.RecordField.{field_at, Within}
use Rattle.fields.proofs.Tags.{tags_alone}
use Rattle.totals.proofs.reading.next_total.Goals as goal

-- src/lib.rt:61:1
pub returns : goal.returns
returns c =
    let a = c.args in
    let s = a.bytes.now in
    let alone = ap tags_of c.with.ensures ∙ tags_alone 11 (omega arith) in (
      c.field_in.ensures.0 ∙ ap (λ (m : List ℕ). field_at s a.at m 0) alone,
      subst (λ (m : List ℕ). Within (length s) a.at m 0 c.field_in.result) alone c.field_in.ensures.1,
    )
