-- `deciding::decide_row` meets its contract. The pairs that the loop passed are decided. Assumes nothing.
use mathlib.Core.Path.{◌≡◌}
use lib.ListN.{length, get_or}
use Rattle.cluster.specs.Terms.{most_nodes}
use Rattle.swaps.specs.ModelSwaps.{Tight}
use Rattle.holders.specs.ModelHolders.{Held}
use Rattle.evens.specs.ModelEvens.{wanted_of}
use Rattle.attempts.specs.ModelDeciding.{Reaches}
use Rattle.deciding.proofs.decide_row.Given as goal

abbrev pub invariant-loop-b : goal.invariant-loop-b
invariant-loop-b l =
    (length l.leads ≡ most_nodes)
    × Tight l.given.mates.now l.given.z l.rows l.given.partitions l.tight × Held l.rows l.given.partitions l.held × Reaches l.given.partitions l.given.former.now l.given.mates.now l.given.caps.now l.nodes l.given.z l.even l.p 0 l.initial.rows l.initial.leads l.p l.b l.rows l.leads
    × (l.wanted ≡ wanted_of l.even (get_or l.rows l.p 0) (get_or l.given.former.now l.p 0))
