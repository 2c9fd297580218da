-- `levels::stand` meets its contract. Assumes nothing.
use mathlib.Core.Path.{sym, ◌∙◌}
use Rattle.levels.proofs.Offers.{stand_in, stand-out}
use Rattle.levels.proofs.stand.Goals as goal

pub returns-then-c-n : goal.returns-then-c-n
returns-then-c-n c = let a = c.args in sym (stand_in a.atmost.now a.n a.c c.if-c-n.true)

pub returns-else-c-n : goal.returns-else-c-n
returns-else-c-n c = let a = c.args in c.below.ensures ∙ sym (stand-out a.atmost.now a.n a.c c.if-c-n.false)
