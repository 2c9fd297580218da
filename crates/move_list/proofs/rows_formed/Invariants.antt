-- `move_list::rows_formed` meets its contract. The loop's invariant: the rows passed are formed.
-- Assumes nothing.
use mathlib.Core.Path.{◌≡◌}
use mathlib.Core.Bool.{true}
use Rattle.sums.specs.TermsSums.{every_to}
use Rattle.cluster.specs.Terms.{wide_row_cells, row_of, formed}
use Rattle.move_list.proofs.rows_formed.Given as goal

abbrev pub invariant-loop-p : goal.invariant-loop-p
invariant-loop-p l = every_to l.p (λ q. formed (row_of wide_row_cells l.former q)) ≡ true
