-- `sets::least` meets its contract. Assumes nothing.
use Rattle.sets.proofs.Words.{word-least}
use Rattle.sets.proofs.least.Goals as goal

pub returns : goal.returns
returns c = word-least c.args.s
