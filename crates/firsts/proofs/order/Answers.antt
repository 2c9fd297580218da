-- `firsts::order` meets its contract. Assumes nothing.
use native.Mathlib.Omega.{arith}
use Rattle.improve.proofs.Ground.{some}
use Rattle.firsts.proofs.Starting.{order-first}
use borrow.Author.Rules.{rules}
use Rattle.firsts.proofs.order.Goals as goal

pub returns-then-nodes-eq0 : goal.returns-then-nodes-eq0
returns-then-nodes-eq0 c = (search rules, λ R zone cap G g e. absurd (omega (arith, some G c.args.rows.now g)))

pub even-even-requires : goal.even-even-requires
even-even-requires c = (omega arith, search rules, λ v h. omega (arith, c.levels-levels.ensures.1 v h))

pub decide_rows-requires : goal.decide_rows-requires
decide_rows-requires c =
    (omega (arith, c.if-nodes-gt-NODES.false), c.requires.0, c.requires.1, c.lead-leads.ensures.0, c.even-even.ensures.cells, c.requires.3, c.requires.4)

pub returns : goal.returns
returns c =
    let a = c.args in (
      c.decide_rows.ensures.0,
      λ R zone cap G g e. order-first a.given.now.partitions a.nodes R a.given.now.z zone cap a.given.now.former.now a.given.now.mates.now a.given.now.caps.now G a.rows.now g e
          c.arcs-arcs.result c.levels-levels.result c.even-even.result c.lead-leads.result c.arcs-arcs.ensures.0 c.levels-levels.ensures.2 c.even-even.ensures c.lead-leads.ensures.1
          c.lead-leads.ensures.2 c.decide_rows.new.rows c.decide_rows.new.leads (c.decide_rows.ensures.1 R zone cap),
    )
