-- `certificate::pricing::price` meets its contract. Assumes nothing.
use borrow.Author.Rules.{rules}
use native.Mathlib.Omega.{arith}
use Rattle.cluster.specs.Terms.{topology}
use Rattle.cluster.proofs.Accepting.{accepted}
use Rattle.certificate.specs.TermsCertify.{former_in, new_in}
use Rattle.certificate.proofs.Levels.{has-nodes}
use Rattle.certificate.proofs.Making.{fewer_answer, priced-answer}
use Rattle.certificate.proofs.pricing.price.Goals as goal

pub returns-then-length-ne0 : goal.returns-then-length-ne0
returns-then-length-ne0 c =
    let a = c.args in
    rw c.into.ensures
    (fewer_answer a.c c.requires.0 a.former.now a.assignment.now c.layout_arcs-arcs.result c.layout_arcs-arcs.ensures c.used-n.result c.used-n.ensures.0
    c.find-length.result c.find-length.ensures.0 c.if-length-ne0.true)

pub levels-levels-requires : goal.levels-levels-requires
levels-levels-requires c =
    let a = c.args in
    (omega (arith, c.used-n.ensures.0, has-nodes (topology a.c) (accepted a.c c.requires.0) (former_in a.c a.former.now) (new_in a.c a.assignment.now) c.requires.4), search rules, search rules)

pub returns : goal.returns
returns c =
    let a = c.args in
    priced-answer a.c c.requires.0 a.former.now a.assignment.now c.layout_arcs-arcs.result c.layout_arcs-arcs.ensures c.used-n.result c.used-n.ensures.0
    c.requires.4 c.find-length.result c.find-length.ensures.0 c.if-length-ne0.false c.levels-levels.result c.levels-levels.ensures.3 c.lacking.result c.lacking.ensures
