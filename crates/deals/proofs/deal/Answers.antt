-- `deals::deal` meets its contract. The loop's invariant: the copies of the first b nodes are dealt.
use borrow.Author.Rules.{rules}
use native.Mathlib.Omega.{arith}
use Rattle.incidence.specs.ModelIncidence.{cell}
use Rattle.deals.proofs.Dealing.{emptied, dealt-none, dealt-all, node-dealt}
use Rattle.deals.proofs.deal.Goals as goal

pub loop-b-init : goal.loop-b-init
loop-b-init c =
    let a = c.args in
    dealt-none a.partitions (cell a.starts.now) (cell a.copies.now) a.rows.now _ (search rules) (emptied _ _ _ (search rules) (c.fill.ensures.after (λ y e. e)))

pub overflow_add-end : goal.overflow_add-end
overflow_add-end c =
    omega (arith, c.requires.3 c.loop-b.b (omega arith), c.min.ensures)

pub overflow_cast-start : goal.overflow_cast-start
overflow_cast-start c =
    omega (arith, c.requires.3 c.loop-b.b (omega arith))

pub join-requires-in-loop-b : goal.join-requires-in-loop-b
join-requires-in-loop-b c =
    omega (arith, c.requires.3 c.loop-b.b (omega arith))

pub loop-b-preserved : goal.loop-b-preserved
loop-b-preserved c =
    let a = c.args in
    node-dealt a.partitions c.loop-b.b (cell a.starts.now) (cell a.copies.now) _ c.loop-b.rows (omega arith) (c.requires.3 c.loop-b.b (omega arith)) (omega arith) c.loop-b.invariant
    c.min.result c.min-in-loop-b.result c.saturating_sub.result c.join.new.rows c.join-in-loop-b.new.rows
    c.min.ensures c.min-in-loop-b.ensures c.saturating_sub.ensures c.join.ensures c.join-in-loop-b.ensures

pub returns : goal.returns
returns c =
    let a = c.args in
    dealt-all a.partitions (cell a.starts.now) (cell a.copies.now) a.rows.now _ (search rules) (emptied _ _ _ (search rules) (c.fill.ensures.after (λ y e. e))) c.loop-b.b a.n c.loop-b.rows (omega arith) c.loop-b.invariant
