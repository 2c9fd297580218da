-- `holders::let_go` meets its contract. Assumes nothing.
use native.Mathlib.Omega.{arith}
use lib.ListN.{length-set}
use Rattle.holders.proofs.Holding.{count-some, has, gone_now, gone_before, none_gone}
use borrow.Author.Rules.{rules}
use Rattle.holders.proofs.let_go.Goals as goal

pub overflow_sub-held : goal.overflow_sub-held
overflow_sub-held c = let a = c.args in
    count-some a.held.now (search rules) a.u (omega arith) a.p (omega arith)
    (has a.held.now a.p a.u c.member.result c.member.ensures c.if-member.true)

pub bounds-held-i-then-member : goal.bounds-held-i-then-member
bounds-held-i-then-member c = simp length-set (omega arith)

pub returns-then-member : goal.returns-then-member
returns-then-member c = let a = c.args in
    gone_now a.held.now a.p a.u c.member.result c.member.ensures c.without.result (search rules) (omega arith) (omega arith) c.if-member.true c.without.ensures

pub returns-else-member : goal.returns-else-member
returns-else-member c = let a = c.args in
    (search rules, gone_before a.held.now a.p a.u c.member.result c.member.ensures c.if-member.false)

pub returns-else-u-lt-NODES : goal.returns-else-u-lt-NODES
returns-else-u-lt-NODES c = let a = c.args in (search rules, none_gone a.held.now a.p a.u (omega arith))
