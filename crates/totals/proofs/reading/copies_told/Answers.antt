use borrow.Author.Rules.{rules}
use native.Mathlib.Omega.{arith}
use Prim.Native.Nat.{◌+◌}
use mathlib.Core.Path.{refl, sym, ◌∙◌}
use Rattle.totals.proofs.Match.{told_here, told_later, told_none}
use Rattle.totals.proofs.reading.copies_told.Goals as goal

-- src/lib.rt:114:5
pub loop-at-init : goal.loop-at-init
loop-at-init c = (search rules, search rules, refl)

-- src/lib.rt:116:13
pub returns-then-word_at-id : goal.returns-then-word_at-id
returns-then-word_at-id c =
    let a = c.args in
    c.pair_at.ensures.0
    ∙ sym (c.loop-at.invariant.2 ∙ told_here a.bytes.now c.loop-at.at a.end a.id (search rules) c.loop-at.invariant.1 (sym c.word_at.ensures.0 ∙ c.if-word_at-id.true))

-- src/lib.rt:114:5
pub loop-at-preserved : goal.loop-at-preserved
loop-at-preserved c =
    let a = c.args in (
      search rules,
      omega arith,
      c.loop-at.invariant.2 ∙ told_later a.bytes.now c.loop-at.at a.end a.id (search rules) c.loop-at.invariant.1 (λ q. c.if-word_at-id.false (c.word_at.ensures.0 ∙ q)),
    )

-- src/lib.rt:109:1
pub returns : goal.returns
returns c =
    let a = c.args in
    sym (c.loop-at.invariant.2 ∙ told_none a.bytes.now c.loop-at.at a.end a.id (omega arith))

pub returns-else-word_at-id : goal.returns-else-word_at-id
returns-else-word_at-id c =
    let a = c.args in
    sym (c.loop-at.invariant.2 ∙ (told_later a.bytes.now c.loop-at.at a.end a.id (search rules) c.loop-at.invariant.1 (λ q. c.if-word_at-id.false (c.word_at.ensures.0 ∙ q))
    ∙ told_none a.bytes.now (c.loop-at.at + 9) a.end a.id (omega arith)))
