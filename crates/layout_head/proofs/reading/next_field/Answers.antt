-- `layout_head::reading::next_field` meets its contract.
-- Assumes nothing.
use mathlib.Core.Path.{sym, ap, ◌∙◌, subst}
use Prim.Native.Nat.{ℕ}
use mathlib.Core.List.{List}
use lib.ListN.{length}
use Rattle.fields.specs.RecordField.{field_at, Within}
use Rattle.fields.specs.ModelTags.{tags_of}
use Rattle.fields.proofs.Tags.{tags_alone}
use Rattle.layout_head.proofs.NumberFields.{next-missing, next_there}
use Rattle.layout_head.proofs.reading.next_field.Goals as goal

pub returns-then-bytes-at : goal.returns-then-bytes-at
returns-then-bytes-at c = let a = c.args in (sym (next-missing a.bytes.now a.at a.tag a.exact c.if-bytes-at.true), tt)

pub returns : goal.returns
returns c =
    let a = c.args in
    let w = ap tags_of c.with.ensures ∙ tags_alone a.tag c.requires in
    let s = a.bytes.now in (
      c.field_in.ensures.0 ∙ (ap (λ (m : List ℕ). field_at s a.at m a.exact) w ∙ sym (next_there s a.at a.tag a.exact c.if-bytes-at.false)),
      subst (λ (m : List ℕ). Within (length s) a.at m a.exact c.field_in.result) w c.field_in.ensures.1,
    )
