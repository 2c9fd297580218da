-- `walks::digit` meets its contract. Assumes nothing.
use native.Mathlib.Omega.{arith}
use mathlib.Core.Path.{sym, ◌∙◌}
use Rattle.sets.proofs.Laws.{member-true, member-false}
use Rattle.walks.proofs.digit.Goals as goal

pub returns-then-member : goal.returns-then-member
returns-then-member c = (sym (member-true c.args.s c.args.i (sym c.member.ensures ∙ c.if-member.true)), omega arith)

pub returns-else-member : goal.returns-else-member
returns-else-member c = (sym (member-false c.args.s c.args.i (sym c.member.ensures ∙ c.if-member.false)), omega arith)
