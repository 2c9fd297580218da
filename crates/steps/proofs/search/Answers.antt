-- `steps::search` meets its contract. Assumes nothing.
use Prim.Native.Nat.{◌≤◌}
use native.Mathlib.Omega.{arith}
use Rattle.cluster.specs.Terms.{most_nodes}
use Rattle.walks.specs.ModelWalks.{walk_in}
use Rattle.steps.proofs.Steps.{found-walk, found_few}
use borrow.Author.Rules.{rules}
use Rattle.steps.proofs.search.Goals as goal

pub load-requires : goal.load-requires
load-requires c =
    let few : c.find-m.result ≤ most_nodes = found_few _ _ _ c.find-m.result c.find-m.ensures.0 in
    (omega (arith, few, c.requires.0), omega (arith, few, c.requires.1), search rules, c.requires.2, c.requires.4, c.requires.5)

pub returns : goal.returns
returns c =
    let a = c.args in (
      found_few _ _ _ c.find-m.result c.find-m.ensures.0,
      search rules,
      search rules,
      found-walk a.given.now.former.now a.given.now.partitions a.given.now.mates.now a.given.now.caps.now a.nodes a.given.now.z a.rows.now c.below-all.result c.below-all.ensures (walk_in c.find-m.result c.load.new.y c.load.new.q) _ _ c.find-m.result c.arcs-arcs.ensures.0
          c.find-m.ensures.0 c.find-m.ensures.1 c.load.ensures.2,
      c.arcs-arcs.ensures.1,
    )
