-- `cluster::Node::usable` meets its contract.
-- Assumes nothing.
use borrow.Author.Rules.{rules}
use Rattle.cluster.specs.Terms.{usable}
use Rattle.cluster.proofs.Node.usable.Goals as goal

pub returns : goal.returns
unfolding usable
returns c = search rules
