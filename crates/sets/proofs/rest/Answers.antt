-- `sets::rest` meets its contract. Assumes nothing.
use mathlib.Core.Path.{sym}
use native.Mathlib.Omega.{arith}
use Rattle.sets.proofs.Words.{word-rest, rest-none}
use Rattle.sets.proofs.rest.Goals as goal

pub returns-then-s-eq0 : goal.returns-then-s-eq0
returns-then-s-eq0 c = sym (rest-none c.args.s c.if-s-eq0.true)

pub returns-else-s-eq0 : goal.returns-else-s-eq0
returns-else-s-eq0 c = word-rest c.args.s (omega arith) c.if-s-eq0.false
