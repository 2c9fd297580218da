-- `levels::weight` meets its contract. Assumes nothing.
use mathlib.Core.Path.{sym, ◌∙◌}
use Rattle.levels.specs.ModelTurns.{weight_from}
use Rattle.levels.proofs.weight.Goals as goal

pub returns-then-member : goal.returns-then-member
unfolding weight_from
returns-then-member c = rw (sym c.member.ensures ∙ c.if-member.true)

pub returns-then-member-2 : goal.returns-then-member-2
unfolding weight_from
returns-then-member-2 c = rw (sym c.member.ensures ∙ c.if-member.false, sym c.member-else-member.ensures ∙ c.if-member-2.true)

pub returns-else-member-2 : goal.returns-else-member-2
unfolding weight_from
returns-else-member-2 c = rw (sym c.member.ensures ∙ c.if-member.false, sym c.member-else-member.ensures ∙ c.if-member-2.false)
