-- `steps::seek` meets its contract. Assumes nothing.
use native.Mathlib.Omega.{arith}
use Rattle.walks.specs.ModelWalks.{walk_in}
use Rattle.steps.proofs.Steps.{sought_again, sought-found}
use borrow.Author.Rules.{rules}
use Rattle.steps.proofs.seek.Goals as goal

pub renew-requires : goal.renew-requires
renew-requires c = let p = c.requires in (omega (arith, p.0, p.1), omega (arith, p.0, p.2), p.3, p.5, p.6)

pub returns-then-renew : goal.returns-then-renew
returns-then-renew c = let r = c.renew in
    let b = c.below-all in
    let a = c.args in (
      omega arith,
      search rules,
      search rules,
      sought_again a.given.now.former.now a.given.now.partitions a.given.now.mates.now a.given.now.caps.now a.nodes a.given.now.z a.rows.now b.result b.ensures (walk_in a.last.len a.y.now a.q.now) (walk_in a.last.len a.y.now r.new.q) r.result r.ensures.1 c.if-renew.true
          (r.ensures.2 c.if-renew.true),
      c.requires.4,
    )

pub search-len-requires : goal.search-len-requires
search-len-requires c = let p = c.requires in (p.1, omega (arith, p.2, c.renew.ensures.0), p.3, p.4, p.5, p.6)

pub returns : goal.returns
returns c = let l = c.search-len in
    let r = c.renew in
    let b = c.below-all in
    let a = c.args in (
      l.ensures.0,
      search rules,
      search rules,
      sought-found a.given.now.former.now a.given.now.partitions a.given.now.mates.now a.given.now.caps.now a.nodes a.given.now.z a.rows.now b.result b.ensures (walk_in a.last.len a.y.now a.q.now) (walk_in l.result l.new.y l.new.q) r.result r.ensures.1 c.if-renew.false l.ensures.3,
      l.ensures.4,
    )
