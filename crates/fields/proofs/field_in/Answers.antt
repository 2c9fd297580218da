-- `fields::field_in` meets its contract: each test is one fault of the definition, in its order.
-- Assumes nothing.
use Prim.Native.Nat.{ℕ, ◌+◌, ◌≤◌, ◌<◌}
use mathlib.Core.Path.{◌≡◌, sym, ap, ap₂, ◌∙◌, subst}
use mathlib.Core.Bool.{true}
use native.Mathlib.Omega.{arith}
use lib.ListN.{length}
use Rattle.sets.specs.ModelBits.{member_of}
use Rattle.cluster.specs.Terms.{mem}
use Rattle.fields.specs.ModelTags.{tags_of}
use Rattle.fields.specs.RecordField.{number_at, legal_as, Within}
use Rattle.fields.specs.declared.Field.TheVariants.{Body}
use Rattle.numbers.proofs.Numbers.{true-has, false-has}
use Rattle.fields.proofs.Tags.{mem-tags}
use Rattle.fields.proofs.RecordField.{field_cut, field_tag, field-length, field_body, field_whole, within}
use Rattle.fields.proofs.field_in.Goals as goal

pub returns-then-not-reaches : goal.returns-then-not-reaches
returns-then-not-reaches c =
    let a = c.args in
    let r = c.reaches in
    (sym (field_cut a.s.now a.at (tags_of a.allowed) a.exact (false-has (length a.s.now) a.at 3 (sym r.ensures ∙ c.if-not-reaches.true))), tt)

pub returns-then-not-member : goal.returns-then-not-member
returns-then-not-member c =
    -- What each test leaves: the three bytes are there, the tag is allowed, the length is legal.
    let head : c.args.at + 3 ≤ length c.args.s.now = (let a = c.args in
    let r = c.reaches in
    true-has (length a.s.now) a.at 3 (sym r.ensures ∙ c.if-not-reaches.false)) in
    let listed : let a = c.args in
    mem (number_at a.s.now a.at 1) (tags_of a.allowed) ≡ c.member.result = (let a = c.args in
    mem-tags a.allowed (number_at a.s.now a.at 1) (omega arith)
    ∙ (ap (member_of a.allowed) (sym c.byte_at-tag.ensures.0) ∙ sym c.member.ensures)) in
    let a = c.args in
    let m = c.member in (
      sym (field_tag a.s.now a.at (tags_of a.allowed) a.exact head
          (listed ∙ c.if-not-member.true)),
      tt,
    )

pub overflow_add-at : goal.overflow_add-at
overflow_add-at c =
    let head : c.args.at + 3 ≤ length c.args.s.now = (let a = c.args in
    let r = c.reaches in
    true-has (length a.s.now) a.at 3 (sym r.ensures ∙ c.if-not-reaches.false)) in
    omega (arith, head)

pub returns-then-not-is_legal : goal.returns-then-not-is_legal
returns-then-not-is_legal c =
    let head : c.args.at + 3 ≤ length c.args.s.now = (let a = c.args in
    let r = c.reaches in
    true-has (length a.s.now) a.at 3 (sym r.ensures ∙ c.if-not-reaches.false)) in
    let listed : let a = c.args in
    mem (number_at a.s.now a.at 1) (tags_of a.allowed) ≡ c.member.result = (let a = c.args in
    mem-tags a.allowed (number_at a.s.now a.at 1) (omega arith)
    ∙ (ap (member_of a.allowed) (sym c.byte_at-tag.ensures.0) ∙ sym c.member.ensures)) in
    let tagged : let a = c.args in mem (number_at a.s.now a.at 1) (tags_of a.allowed) ≡ true = (let a = c.args in
    let m = c.member in
    listed ∙ c.if-not-member.false) in
    let a = c.args in
    let l = c.is_legal in (
      sym (field-length a.s.now a.at (tags_of a.allowed) a.exact head tagged
          (ap₂ (legal_as a.exact) (sym c.byte_at-tag.ensures.0) (sym c.pair_at-len.ensures.0)
          ∙ (sym l.ensures ∙ c.if-not-is_legal.true))),
      tt,
    )

pub overflow_add-start : goal.overflow_add-start
overflow_add-start c =
    let head : c.args.at + 3 ≤ length c.args.s.now = (let a = c.args in
    let r = c.reaches in
    true-has (length a.s.now) a.at 3 (sym r.ensures ∙ c.if-not-reaches.false)) in
    omega (arith, head)

pub returns-then-not-reaches-2 : goal.returns-then-not-reaches-2
returns-then-not-reaches-2 c =
    let head : c.args.at + 3 ≤ length c.args.s.now = (let a = c.args in
    let r = c.reaches in
    true-has (length a.s.now) a.at 3 (sym r.ensures ∙ c.if-not-reaches.false)) in
    let listed : let a = c.args in
    mem (number_at a.s.now a.at 1) (tags_of a.allowed) ≡ c.member.result = (let a = c.args in
    mem-tags a.allowed (number_at a.s.now a.at 1) (omega arith)
    ∙ (ap (member_of a.allowed) (sym c.byte_at-tag.ensures.0) ∙ sym c.member.ensures)) in
    let tagged : let a = c.args in mem (number_at a.s.now a.at 1) (tags_of a.allowed) ≡ true = (let a = c.args in
    let m = c.member in
    listed ∙ c.if-not-member.false) in
    let lengthy : let a = c.args in legal_as a.exact (number_at a.s.now a.at 1) (number_at a.s.now (a.at + 1) 2) ≡ true = (let a = c.args in
    let l = c.is_legal in
    ap₂ (legal_as a.exact) (sym c.byte_at-tag.ensures.0) (sym c.pair_at-len.ensures.0)
    ∙ (sym l.ensures ∙ c.if-not-is_legal.false)) in
    let a = c.args in
    let r = c.reaches-2 in
    let e = c.pair_at-len.ensures.0 in (
      sym (field_body a.s.now a.at (tags_of a.allowed) a.exact head tagged lengthy
          (subst (λ (n : ℕ). length a.s.now < a.at + 3 + n) e
          (false-has (length a.s.now) (a.at + 3) c.pair_at-len.result (sym r.ensures ∙ c.if-not-reaches-2.true)))),
      tt,
    )

pub returns : goal.returns
returns c =
    let head : c.args.at + 3 ≤ length c.args.s.now = (let a = c.args in
    let r = c.reaches in
    true-has (length a.s.now) a.at 3 (sym r.ensures ∙ c.if-not-reaches.false)) in
    let listed : let a = c.args in
    mem (number_at a.s.now a.at 1) (tags_of a.allowed) ≡ c.member.result = (let a = c.args in
    mem-tags a.allowed (number_at a.s.now a.at 1) (omega arith)
    ∙ (ap (member_of a.allowed) (sym c.byte_at-tag.ensures.0) ∙ sym c.member.ensures)) in
    let tagged : let a = c.args in mem (number_at a.s.now a.at 1) (tags_of a.allowed) ≡ true = (let a = c.args in
    let m = c.member in
    listed ∙ c.if-not-member.false) in
    let lengthy : let a = c.args in legal_as a.exact (number_at a.s.now a.at 1) (number_at a.s.now (a.at + 1) 2) ≡ true = (let a = c.args in
    let l = c.is_legal in
    ap₂ (legal_as a.exact) (sym c.byte_at-tag.ensures.0) (sym c.pair_at-len.ensures.0)
    ∙ (sym l.ensures ∙ c.if-not-is_legal.false)) in
    let a = c.args in
    let r = c.reaches-2 in
    let t = c.byte_at-tag.ensures.0 in
    let e = c.pair_at-len.ensures.0 in
    let q = ap₂ (λ (x y : ℕ). Body x (a.at + 3) y) t e
    ∙ sym (field_whole a.s.now a.at (tags_of a.allowed) a.exact head tagged lengthy
    (subst (λ (n : ℕ). a.at + 3 + n ≤ length a.s.now) e
    (true-has (length a.s.now) (a.at + 3) c.pair_at-len.result (sym r.ensures ∙ c.if-not-reaches-2.false))))
    in
    (q, subst (Within (length a.s.now) a.at (tags_of a.allowed) a.exact) (sym q) (within a.s.now a.at (tags_of a.allowed) a.exact))
