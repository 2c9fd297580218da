-- `deciding::decide` meets its contract. While the pair is to be tried again, the rows are those of the start. Assumes nothing.
use Prim.Native.Nat.{suc}
use mathlib.Core.Path.{◌≡◌}
use mathlib.Core.Bool.{true, cond}
use lib.ListN.{length}
use Rattle.cluster.specs.Terms.{most_nodes}
use Rattle.swaps.specs.ModelSwaps.{Tight}
use Rattle.holders.specs.ModelHolders.{Held}
use Rattle.attempts.specs.ModelDeciding.{Keeps}
use Rattle.attempts.proofs.Ends.{left}
use Rattle.deciding.proofs.decide.Given as goal

abbrev pub invariant-loop-again : goal.invariant-loop-again
invariant-loop-again l =
    (length l.rows ≡ length l.initial.rows) × (length l.tight ≡ length l.initial.tight) × (length l.held ≡ length l.initial.held) × (length l.leads ≡ most_nodes)
    × Tight l.given.mates.now l.given.z l.rows l.given.partitions l.tight × Held l.rows l.given.partitions l.held × (l.again ≡ true → l.rows ≡ l.initial.rows)
    × Keeps l.given.partitions l.given.former.now l.given.mates.now l.given.caps.now l.all l.given.z l.even l.p l.b l.initial.rows l.initial.leads (cond l.again l.b (suc l.b)) l.rows l.leads

abbrev pub decreases-loop-again : goal.decreases-loop-again
decreases-loop-again l = left l.again l.leads
