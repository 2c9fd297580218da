-- `ways::weight` meets its contract. Assumes nothing.
use native.Mathlib.Omega.{arith}
use mathlib.Core.Path.{sym, ◌∙◌}
use Rattle.ways.specs.ModelWays.{weight_in}
use Rattle.ways.proofs.weight.Goals as goal

pub returns-then-member : goal.returns-then-member
unfolding weight_in
returns-then-member c = (rw (sym c.member.ensures ∙ c.if-member.true), omega arith)

pub returns-then-member-2 : goal.returns-then-member-2
unfolding weight_in
returns-then-member-2 c = (rw (sym c.member.ensures ∙ c.if-member.false, sym c.member-2.ensures ∙ c.if-member-2.true), omega arith)

pub returns-then-member-3 : goal.returns-then-member-3
unfolding weight_in
returns-then-member-3 c = (rw (sym c.member.ensures ∙ c.if-member.false, sym c.member-2.ensures ∙ c.if-member-2.false, sym c.member-3.ensures ∙ c.if-member-3.true), omega arith)

pub returns : goal.returns
unfolding weight_in
returns c = (rw (sym c.member.ensures ∙ c.if-member.false, sym c.member-2.ensures ∙ c.if-member-2.false, sym c.member-3.ensures ∙ c.if-member-3.false), tt)
