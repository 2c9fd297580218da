-- `layouts::check::cluster_fault` meets its contract.
-- Assumes nothing.
use borrow.Author.Rules.{rules}
use borrow.Author.Tests.{lt-ltb, le-ltb, eq-eqb, ne_eqb}
use Rattle.cluster.specs.Terms.{most_nodes}
use Rattle.layouts.specs.TermsCheck.{cluster_fault}
use Rattle.layouts.proofs.check.cluster_fault.Goals as goal

pub returns-then-c-gt-NODES : goal.returns-then-c-gt-NODES
unfolding cluster_fault
returns-then-c-gt-NODES c = simp (lt-ltb most_nodes c.args.c.count (search rules))

pub returns-then-size-eq0 : goal.returns-then-size-eq0
unfolding cluster_fault
returns-then-size-eq0 c = let a = c.args in
    simp (le-ltb most_nodes a.c.count (search rules), eq-eqb a.size 0 (search rules))

pub returns : goal.returns
unfolding cluster_fault
returns c = let a = c.args in
    simp (le-ltb most_nodes a.c.count (search rules), ne_eqb a.size 0 (search rules)) c.accept.ensures
