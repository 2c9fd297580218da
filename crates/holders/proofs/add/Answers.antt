-- `holders::add` meets its contract. Assumes nothing.
use native.Mathlib.Omega.{arith}
use lib.ListN.{length-set}
use Rattle.holders.proofs.Holding.{count_few, count_stays, taken_now}
use borrow.Author.Rules.{rules}
use Rattle.holders.proofs.add.Goals as goal

pub bounds-held-u : goal.bounds-held-u
bounds-held-u c = simp length-set (omega arith)

pub overflow_add-held-2 : goal.overflow_add-held-2
overflow_add-held-2 c = let a = c.args in
    record {
      fits = omega (
        arith,
        count_stays a.held.now a.p a.u c.with.result (omega arith) (omega arith),
        count_few a.held.now (search rules) a.u (omega arith),
      );
    }

pub bounds-held-u-2 : goal.bounds-held-u-2
bounds-held-u-2 c = simp length-set (omega arith)

pub returns : goal.returns
returns c = let a = c.args in
    taken_now a.held.now a.p a.u c.with.result (omega arith) (omega arith) (search rules) (search rules) c.with.ensures
