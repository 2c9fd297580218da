-- `loss::search::search` meets its contract. The loop's invariant: the best of all the sets is that of the ones still to come, held against the best so far.
-- Assumes nothing.
use Prim.Native.Nat.{◌-◌}
use mathlib.Core.Path.{◌≡◌}
use Rattle.loss.specs.ModelSearch.{searched}
use Rattle.loss.proofs.search.+search.Given as goal

abbrev pub decreases-search : goal.decreases-search
decreases-search l = l.left

abbrev pub invariant-loop-b : goal.invariant-loop-b
invariant-loop-b l = searched l.rows l.left l.from (l.n - l.from) l.set l.initial.most ≡ searched l.rows l.left l.b (l.n - l.b) l.set l.most
