-- `deciding::decide_rows` meets its contract. The rows that the loop passed are decided. Assumes nothing.
use mathlib.Core.Path.{◌≡◌}
use lib.ListN.{length}
use Rattle.cluster.specs.Terms.{most_nodes}
use Rattle.swaps.specs.ModelSwaps.{Tight}
use Rattle.holders.specs.ModelHolders.{Held}
use Rattle.attempts.specs.ModelDeciding.{Reaches}
use Rattle.deciding.proofs.decide_rows.Given as goal

abbrev pub invariant-loop-p : goal.invariant-loop-p
invariant-loop-p l =
    (length l.leads ≡ most_nodes)
    × Tight l.given.mates.now l.given.z l.rows l.given.partitions l.tight × Held l.rows l.given.partitions l.held × Reaches l.given.partitions l.given.former.now l.given.mates.now l.given.caps.now l.nodes l.given.z l.even 0 0 l.initial.rows l.initial.leads l.p 0 l.rows l.leads
