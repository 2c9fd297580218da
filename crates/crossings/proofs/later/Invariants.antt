-- `crossings::later` meets its contract. No arc that the loop passed can be crossed with i. Assumes nothing.
use Rattle.walks.specs.ModelWalks.{ok_of, walk_in}
use Rattle.exchange.specs.ModelUncross.{crosses, partner}
use Rattle.sums.specs.ModelSums.{first_from}
use lib.ListN.{get_or}
use mathlib.Core.Path.{◌≡◌}
use Prim.Native.Nat.{◌+◌, ◌-◌, ◌≤◌, max}
use Rattle.crossings.proofs.later.Given as goal

abbrev pub invariant-loop-j : goal.invariant-loop-j
invariant-loop-j l =
    (l.j ≤ max (l.i + 1) l.m)
    × (partner l.given.partitions (ok_of l.rows l.given.mates.now l.all l.given.z) (walk_in l.m l.y l.q) l.i ≡ first_from (crosses l.given.partitions (ok_of l.rows l.given.mates.now l.all l.given.z) (λ t. get_or l.y t 0) (λ t. get_or l.q t 0) l.i) (l.m - l.j) l.j)
