-- `freeing::free` meets its contract. What is freed of crossed pairs from here, with the splits that are left, is what is freed from the beginning. Assumes nothing.
use Rattle.sets.specs.ModelBits.{bits_at}
use Rattle.walks.specs.ModelWalks.{ok_of, walk_in}
use Rattle.exchange.specs.ModelUncross.{Same, uncross}
use Prim.Native.Nat.{◌-◌, ◌≤◌}
use Rattle.freeing.proofs.free.Given as goal

abbrev pub invariant-loop-split : goal.invariant-loop-split
invariant-loop-split l = (l.len ≤ l.m)
    × Same (uncross l.m l.given.partitions 1 (bits_at l.given.former.now) (ok_of l.rows l.given.mates.now l.all l.given.z) (walk_in l.m l.initial.y l.initial.q))
    (uncross (l.m - l._split) l.given.partitions 1 (bits_at l.given.former.now) (ok_of l.rows l.given.mates.now l.all l.given.z) (walk_in l.len l.y l.q))
