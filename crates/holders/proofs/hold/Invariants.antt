-- `holders::hold` meets its contract. The nodes of the row that are left no more have taken the partition on. Assumes nothing.
use Rattle.sets.proofs.Scan.{Left}
use Rattle.holders.specs.ModelHolders.{Counted}
use Rattle.holders.proofs.Holding.{Partly}
use Rattle.holders.proofs.hold.Given as goal

abbrev pub invariant-loop-u : goal.invariant-loop-u
invariant-loop-u l = record {
  counted : Counted l.held;
  left : Left l.row l.u-iterator.left;
  done : Partly l.row l.u-iterator.left l.p l.initial.held l.held;
}
