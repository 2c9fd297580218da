-- `holders::take_on` meets its contract. Assumes nothing.
use native.Mathlib.Omega.{arith}
use Rattle.holders.proofs.Holding.{lacks, taken-before, none-taken}
use borrow.Author.Rules.{rules}
use Rattle.holders.proofs.take_on.Goals as goal

pub add-requires : goal.add-requires
add-requires c = let a = c.args in (
  search rules,
  search rules,
  search rules,
  lacks a.held.now a.p a.u c.member.result c.member.ensures c.if-not-member.true,
)

pub returns-else-not-member : goal.returns-else-not-member
returns-else-not-member c = let a = c.args in
    (search rules, taken-before a.held.now a.p a.u c.member.result c.member.ensures c.if-not-member.false)

pub returns-else-u-lt-NODES : goal.returns-else-u-lt-NODES
returns-else-u-lt-NODES c = let a = c.args in (search rules, none-taken a.held.now a.p a.u (omega arith))
