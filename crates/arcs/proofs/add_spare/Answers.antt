-- `arcs::add_spare` meets its contract. Assumes nothing.
use borrow.Author.Rules.{rules}
use native.Mathlib.Omega.{arith}
use Rattle.arcs.proofs.Turns.{spare-all}
use Rattle.arcs.proofs.add_spare.Goals as goal

pub add_part-requires-2 : goal.add_part-requires-2
add_part-requires-2 c =
    (omega (arith, c.add_part.ensures.long), search rules)

pub returns : goal.returns
returns c =
    let a = c.args in
    spare-all a.row a.former a.all a.arcs.now c.add_part.new.arcs c.add_part-2.new.arcs c.difference-free.result c.meet-low.result
    c.difference-high.result c.difference-new.result c.meet-old.result c.difference-free.ensures c.meet-low.ensures c.difference-high.ensures
    c.difference-new.ensures c.meet-old.ensures c.add_part.ensures c.add_part-2.ensures
