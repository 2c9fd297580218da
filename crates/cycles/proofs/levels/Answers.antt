-- `cycles::levels` meets its contract. Assumes nothing.
use native.Mathlib.Omega.{arith}
use borrow.Author.Rules.{rules}
use Rattle.levels.specs.ModelGraph.{graph_of}
use Rattle.cycles.proofs.Ends.{levelled_potential}
use Rattle.cycles.proofs.levels.Goals as goal

pub returns : goal.returns
returns c =
    let a = c.args in
    let G = graph_of a.arcs.now a.n in (
      search rules,
      λ v l. omega (arith, c.search.ensures.1.0 v l),
      levelled_potential G (omega arith) c.search.result.levels c.search.ensures.1,
      c.search.ensures.1.1,
    )
