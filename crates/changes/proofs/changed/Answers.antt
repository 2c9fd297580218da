-- `changes::changed` meets its contract.
-- Assumes nothing.
use native.Mathlib.Omega.{arith}
use Prim.Native.Nat.{ℕ, ◌+◌}
use mathlib.Core.Path.{◌≡◌, sym, ap, ◌∙◌, subst}
use mathlib.Core.List.{List}
use lib.ListN.{length}
use Rattle.std.proofs.lemmas.Result.{err_from_is_err_and}
use Rattle.cluster.specs.Terms.{fault_of}
use Rattle.cluster.specs.TermsRefusal.{number_of}
use Rattle.fields.specs.declared.Field.{Field}
use Rattle.fields.specs.ModelTags.{tags_of}
use Rattle.fields.specs.RecordField.{field_at, refusal_of, Whole, Within}
use Rattle.fields.specs.declared.Field.TheVariants.{Body}
use Rattle.change_fields.specs.RecordChange.{change_tags}
use Rattle.change_fields.specs.declared.Change.{Change}
use Rattle.changes.specs.TermsChanges.{change_refused, change_read, change_at}
use Rattle.changes.proofs.Cases.{number-some, of_the_cluster, past_the_end, of_the_field, at-refused, at_body, body_four}
use Rattle.changes.proofs.Undo.{owed}
use Rattle.changes.proofs.changed.Goals as goal

pub returns-in_err-accept : goal.returns-in_err-accept
returns-in_err-accept c =
    let a = c.args in
    let p = err_from_is_err_and c.from_residual.result c.from_residual.ensures.1 in
    let e : number_of c.in_err-accept.field-0.0 ≡ fault_of a.c = c.in_err-accept.ensures in
    rw (p.1, p.2) (
      ap (λ (n : ℕ). change_refused a.c n a.at) e ∙ of_the_cluster a.c a.bytes.now a.at (λ z. number-some _ (e ∙ z)),
      owed _ _ _,
    )

pub returns-then-bytes-at : goal.returns-then-bytes-at
returns-then-bytes-at c =
    let a = c.args in
    (past_the_end a.c a.bytes.now a.at (sym c.in_ok-accept.ensures) c.if-bytes-at.true, owed _ _ _)

-- The field that was looked for, and what is known of it where it is whole.
module _ (s : List ℕ) (at tags : ℕ) (f : Field) (three : tags_of tags ≡ change_tags) where
  field_is : f ≡ field_at s at (tags_of tags) 0 → f ≡ field_at s at change_tags 0
  field_is e = e ∙ ap (λ (l : List ℕ). field_at s at l 0) three

  whole_is : (tag start len : ℕ) → f ≡ Body tag start len → Within (length s) at (tags_of tags) 0 f → Whole (length s) at change_tags 0 tag start len
  whole_is tag start len e w =
      subst (λ (l : List ℕ). Whole (length s) at l 0 tag start len) three (subst (Within (length s) at (tags_of tags) 0) e w)

pub returns-in_default : goal.returns-in_default
returns-in_default c =
    let a = c.args in
    let told = c.in_default.is in (
      ap (λ (n : ℕ). change_refused a.c n a.at) (c.refused.ensures.0 ∙ ap refusal_of told)
          ∙ (at-refused a.c a.bytes.now a.at _ _
          ∙ (ap (change_at a.c a.bytes.now a.at) (sym told)
          ∙ of_the_field a.c a.bytes.now a.at (sym c.in_ok-accept.ensures) c.if-bytes-at.false c.field_in-f.result
          (field_is a.bytes.now a.at c.tags.result c.field_in-f.result c.tags.ensures c.field_in-f.ensures.0))),
      owed _ _ _,
    )

pub change_in-requires : goal.change_in-requires
change_in-requires c =
    let a = c.args in
    let w = whole_is a.bytes.now a.at c.tags.result c.field_in-f.result c.tags.ensures _ _ _ c.in-Body.is c.field_in-f.ensures.1 in
    omega (arith, w.ends, body_four _ _ _ _ _ w)

pub returns : goal.returns
returns c =
    let a = c.args in
    let given = c.in-Body in (
      c.applied.ensures a.at
          ∙ (ap (λ (x : Change). change_read a.c x a.at (given.start + given.len)) c.change_in.ensures
          ∙ (at_body a.c a.bytes.now a.at _ _ _
          ∙ (ap (change_at a.c a.bytes.now a.at) (sym given.is)
          ∙ of_the_field a.c a.bytes.now a.at (sym c.in_ok-accept.ensures) c.if-bytes-at.false c.field_in-f.result
          (field_is a.bytes.now a.at c.tags.result c.field_in-f.result c.tags.ensures c.field_in-f.ensures.0)))),
      owed _ _ _,
    )
