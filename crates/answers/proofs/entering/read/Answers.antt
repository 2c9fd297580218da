-- `answers::entering::read` meets its contract.
-- Assumes nothing.
use Rattle.answers.specs.TermsAnswers.{reading}
use Rattle.answers.proofs.entering.read.Goals as goal

pub returns : goal.returns
unfolding reading
returns c = c.read_cluster.ensures.0
