use borrow.Author.Rules.{rules}
use borrow.Author.Tests.{lt-ltb, le-ltb}
use Rattle.cluster.specs.Terms.{most_nodes, fault_of}
use Rattle.cluster.proofs.Cluster.accept.Goals as goal

pub returns-then-self-gt-NODES : goal.returns-then-self-gt-NODES
unfolding fault_of
returns-then-self-gt-NODES c = simp (lt-ltb most_nodes c.args.self.count (search rules))

pub returns-then-out_of_range : goal.returns-then-out_of_range
unfolding fault_of
returns-then-out_of_range c =
    let k = c.args.self in
    simp (le-ltb most_nodes k.count (search rules), ← c.out_of_range.ensures, c.if-out_of_range.true)

pub returns : goal.returns
unfolding fault_of
returns c =
    let k = c.args.self in
    simp (le-ltb most_nodes k.count (search rules), ← c.out_of_range.ensures, c.if-out_of_range.false, ← c.ids_rise.ensures, c.if-not-ids_rise.false)

pub returns-then-not-ids_rise : goal.returns-then-not-ids_rise
unfolding fault_of
returns-then-not-ids_rise c =
    let k = c.args.self in
    simp (le-ltb most_nodes k.count (search rules), ← c.out_of_range.ensures, c.if-out_of_range.false, ← c.ids_rise.ensures, c.if-not-ids_rise.true)
