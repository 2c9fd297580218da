-- `improve::go` meets its contract. The cells hold the state that the run has reached, and what is kept of its rows. Assumes nothing.
use Prim.Native.Nat.{◌≤◌}
use Rattle.cluster.specs.Terms.{most_nodes}
use Rattle.sets.specs.ModelBits.{bit, below_of}
use Rattle.graph.specs.ModelKept.{Kept}
use Rattle.holders.specs.ModelHolders.{Follows}
use Rattle.walks.specs.ModelWalks.{walk_in}
use Rattle.improve.proofs.Turns.{At}
use Rattle.improve.proofs.go.Given as goal

abbrev pub invariant-loop-done : goal.invariant-loop-done
invariant-loop-done l =
    (l.done ≤ l.allowance) × (l.last.len ≤ most_nodes)
    × At l.given.former.now l.given.partitions l.given.mates.now l.given.caps.now l.nodes l.given.z l.allowance l.initial.rows l.done l.rows (walk_in l.last.len l.y l.q)
    × Kept l.rows l.given.former.now l.given.partitions l.given.mates.now (below_of l.nodes) l.given.z (bit l.last.stale) l.kept × Follows l.given l.rows l.tight l.held
