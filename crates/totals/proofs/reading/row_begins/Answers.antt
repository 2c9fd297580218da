use mathlib.Core.Path.{sym, ap, ap₂, ◌∙◌}
use mathlib.Core.Bool.{Bool, ◌&&◌}
use Prim.Native.Nat.{ℕ}
use lib.Dec.{eqb}
use Rattle.fields.specs.RecordField.{number_at}
use Rattle.totals.specs.RecordTotalsFaults.{row_begins}
use Rattle.totals.proofs.reading.row_begins.Goals as goal

-- src/lib.rt:19:1
pub returns-then-reaches : goal.returns-then-reaches
unfolding row_begins
returns-then-reaches c = sym (ap₂ (λ (b : Bool) (x : ℕ). b && eqb x 10) (sym c.reaches.ensures ∙ c.if-reaches.true) (sym c.byte_at.ensures.0))

-- src/lib.rt:19:1
pub returns-else-reaches : goal.returns-else-reaches
unfolding row_begins
returns-else-reaches c =
    let a = c.args in
    c.if-reaches.false ∙ sym (ap (λ (b : Bool). b && eqb (number_at a.bytes.now a.at 1) 10) (sym c.reaches.ensures ∙ c.if-reaches.false))
