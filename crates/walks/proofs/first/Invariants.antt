-- `walks::first` meets its contract. No partition before p suits. Assumes nothing.
use Prim.Native.Nat.{◌-◌, ◌≤◌}
use mathlib.Core.Path.{◌≡◌}
use lib.ListN.{length}
use Rattle.holders.specs.ModelHolders.{holder_cells}
use Rattle.walks.proofs.Finding.{NoneTo}
use Rattle.walks.proofs.first.Given as goal

abbrev pub invariant-loop-p : goal.invariant-loop-p
invariant-loop-p l =
    (l.start ≤ l.p) × (length l.held ≡ holder_cells) × (length l.given.had.now ≡ holder_cells) × NoneTo l.rows l.given.former.now l.given.mates.now l.all l.given.z l.w l.u l.v l.given.partitions l.start l.p

abbrev pub decreases-loop-p : goal.decreases-loop-p
decreases-loop-p l = l.given.partitions - l.p
