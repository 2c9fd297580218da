-- `exchanging::make` meets its contract. The loop has made the exchanges of the arcs that it passed. Assumes nothing.
use Rattle.exchanging.specs.ModelExchanged.{exchanged}
use Rattle.swaps.specs.ModelLeaves.{ChangedIn}
use Rattle.swaps.specs.ModelSwaps.{Tight}
use Rattle.holders.specs.ModelHolders.{Held}
use lib.ListN.{get_or}
use mathlib.Core.Path.{◌≡◌}
use Rattle.exchanging.proofs.make.Given as goal

abbrev pub invariant-loop-i : goal.invariant-loop-i
invariant-loop-i l = (l.rows ≡ exchanged l.given.partitions (λ t. get_or l.y t 0) (λ t. get_or l.q t 0) l.i l.initial.rows)
    × ChangedIn l.changed l.initial.rows l.rows × Tight l.given.mates.now l.given.z l.rows l.given.partitions l.tight × Held l.rows l.given.partitions l.held
