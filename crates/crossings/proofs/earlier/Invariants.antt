-- `crossings::earlier` meets its contract. No arc that the loop passed can be crossed with a later one. Assumes nothing.
use Rattle.walks.specs.ModelWalks.{ok_of, walk_in}
use Rattle.exchange.specs.ModelUncross.{partner, first_crossed}
use Rattle.sums.specs.ModelSums.{first_from}
use lib.Dec.{ltb}
use mathlib.Core.Path.{◌≡◌}
use Prim.Native.Nat.{◌-◌}
use Rattle.crossings.proofs.earlier.Given as goal

abbrev pub invariant-loop-i : goal.invariant-loop-i
invariant-loop-i l =
    first_crossed l.given.partitions (ok_of l.rows l.given.mates.now l.all l.given.z) (walk_in l.m l.y l.q)
    ≡ first_from (λ k. ltb (partner l.given.partitions (ok_of l.rows l.given.mates.now l.all l.given.z) (walk_in l.m l.y l.q) k) l.m) (l.m - l.i) l.i
