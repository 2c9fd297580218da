-- `layout_head::reading::number_at` meets its contract.
-- Assumes nothing.
use mathlib.Core.Path.{◌≡◌, sym, ap, ◌∙◌}
use mathlib.Core.Logic.{⊎_elim}
use Rattle.fields.specs.RecordField.{number_at}
use Rattle.layout_head.proofs.reading.number_at.Goals as goal

pub returns-then-len-eq1 : goal.returns-then-len-eq1
returns-then-len-eq1 c =
    let a = c.args in
    c.byte_at.ensures.0 ∙ ap (number_at a.bytes.now a.start) (sym c.if-len-eq1.true)

pub returns-then-len-eq2 : goal.returns-then-len-eq2
returns-then-len-eq2 c =
    let a = c.args in
    c.pair_at.ensures.0 ∙ ap (number_at a.bytes.now a.start) (sym c.if-len-eq2.true)

pub returns : goal.returns
returns c =
    let a = c.args in
    let four : a.len ≡ 4 = ⊎_elim (λ e. absurd (c.if-len-eq1.false e)) (⊎_elim (λ e. absurd (c.if-len-eq2.false e)) (λ e. e)) c.requires in
    c.word_at.ensures.0 ∙ ap (number_at a.bytes.now a.start) (sym four)
