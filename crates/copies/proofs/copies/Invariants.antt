-- `copies::copies` meets its contract. The loop's invariant: the counts are those after the rows so far.
-- Assumes nothing.
use mathlib.Core.Path.{◌≡◌}
use Rattle.cluster.specs.Terms.{topology}
use Rattle.copies.specs.TermsCounts.{counts_after}
use Rattle.copies.proofs.copies.Given as goal

abbrev pub invariant-loop-p : goal.invariant-loop-p
invariant-loop-p l = l.counts ≡ counts_after (topology l.c) l.cells l.p
