-- `layout_record::rows::ended` meets its contract.
-- Assumes nothing.
use mathlib.Core.Path.{◌≡◌, sym, ap, ap₂, ◌∙◌}
use Prim.Native.Nat.{ℕ}
use Rattle.cluster.specs.Terms.{Layout}
use mathlib.Core.List.{List, []}
use Rattle.fields.specs.RecordField.{field_at, IsRefused, refusal_of, place_of}
use Rattle.fields.specs.declared.Field.{Field}
use Rattle.fields.specs.declared.Field.TheVariants.{Body, Refused}
use Rattle.layout_head.proofs.FieldFaults.{none-refused}
use native.Mathlib.Omega.{arith}
use Rattle.fields.proofs.Tags.{tags_empty}
use Rattle.layout_rows.specs.RecordLayoutFaults.{layout_refused}
use Rattle.layout_record.specs.RecordLayoutAnswer.{layout_answer}
use Rattle.layout_rows.proofs.RowFaults.{end_whole, end_more}
use Rattle.layout_record.proofs.rows.ended.Goals as goal

pub returns-then-bytes-at : goal.returns-then-bytes-at
unfolding layout_answer
returns-then-bytes-at c = let a = c.args in λ (L : Layout). sym (ap layout_answer (end_whole a.bytes.now a.at a.numbers L c.if-bytes-at.true))

-- Where no tag is allowed, a field is refused.
halts : (s : List ℕ) (at : ℕ) (f : Field) → f ≡ field_at s at [] 0 → IsRefused f
halts s at (Body tag start len) e = omega (arith, none-refused s at 0, ap refusal_of e)
halts s at (Refused refusal byte) e = tt

pub refused-requires : goal.refused-requires
refused-requires c =
    let a = c.args in
    halts a.bytes.now a.at c.field_in.result (c.field_in.ensures.0 ∙ ap (λ (m : List ℕ). field_at a.bytes.now a.at m 0) tags_empty)

pub returns : goal.returns
unfolding layout_answer
returns c =
    let a = c.args in
    let e = c.field_in.ensures.0 ∙ ap (λ (m : List ℕ). field_at a.bytes.now a.at m 0) tags_empty in
    λ (L : Layout). ap₂ (λ (r b : ℕ). layout_answer (layout_refused r b)) (c.refused.ensures.0 ∙ ap refusal_of e) (c.refused.ensures.1 ∙ ap place_of e)
    ∙ sym (ap layout_answer (end_more a.bytes.now a.at a.numbers L c.if-bytes-at.false))
