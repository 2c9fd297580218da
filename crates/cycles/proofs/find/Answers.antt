-- `cycles::find` meets its contract. Assumes nothing.
use mathlib.Core.Path.{◌≡◌}
use mathlib.Core.Bool.{true, false}
use lib.ListN.{length}
use native.Mathlib.Omega.{arith}
use borrow.Author.Tests.{le-leb, lt-leb}
use Rattle.cluster.specs.Terms.{most_nodes}
use Rattle.levels.specs.ModelGraph.{arc_cells}
use Rattle.cycles.specs.ModelFound.{walk_cells, searchable, found_length, found_walk}
use Rattle.cycles.proofs.find.Goals.{then-n-eq0-via-then-n-eq0, then-n-eq0-via-else-n-eq0+then-n-gt-NODES, then-n-eq0-via-else-n-eq0+else-n-gt-NODES+then-arcs-lt-ARCS, then-n-eq0-via-else-n-eq0+else-n-gt-NODES+else-arcs-lt-ARCS+then-walk-lt-WALK}
use Rattle.cycles.proofs.find.Goals as goal

pub returns-then-n-eq0 : goal.returns-then-n-eq0
unfolding found_length found_walk searchable
returns-then-n-eq0 c =
    let a = c.args in
    let arcs = length a.arcs.now in
    let walk = length a.walk.now in
    let s : searchable a.arcs.now a.n a.walk.now ≡ false = elim c.then-n-eq0.branch [
      | then-n-eq0-via-then-n-eq0 w ↦ simp (lt-leb 1 a.n (omega arith))
      | then-n-eq0-via-else-n-eq0+then-n-gt-NODES w ↦ simp (le-leb 1 a.n (omega arith), lt-leb a.n most_nodes (omega arith))
      | then-n-eq0-via-else-n-eq0+else-n-gt-NODES+then-arcs-lt-ARCS w ↦
          simp (le-leb 1 a.n (omega arith), le-leb a.n most_nodes (omega arith), lt-leb arc_cells arcs (omega arith))
      | then-n-eq0-via-else-n-eq0+else-n-gt-NODES+else-arcs-lt-ARCS+then-walk-lt-WALK w ↦
          simp (le-leb 1 a.n (omega arith), le-leb a.n most_nodes (omega arith), le-leb arc_cells arcs (omega arith), lt-leb walk_cells walk (omega arith))
    ] in
    (simp s, simp s)

pub returns : goal.returns
unfolding found_length found_walk searchable
returns c =
    let a = c.args in
    let s : searchable a.arcs.now a.n a.walk.now ≡ true =
    simp (le-leb 1 a.n (omega arith), le-leb a.n most_nodes (omega arith), le-leb arc_cells (length a.arcs.now) (omega arith), le-leb walk_cells (length a.walk.now) (omega arith)) in
    (simp s c.search.ensures.0.0, simp s c.search.ensures.0.1)
