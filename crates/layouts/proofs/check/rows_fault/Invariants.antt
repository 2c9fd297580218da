-- `layouts::check::rows_fault` meets its contract. The loop's invariant: the first fault is the first of those from p on.
-- Assumes nothing.
use Prim.Native.Nat.{ℕ, ◌-◌}
use mathlib.Core.Path.{◌≡◌}
use mathlib.Core.List.{List}
use Rattle.cluster.specs.Terms.{Topology, topology, buffer_rows}
use Rattle.layouts.specs.TermsCheck.{Checked, fault, first_fault, row_fault, rows_fault}
use Rattle.layouts.proofs.check.rows_fault.Given as goal

-- The fault of row q, with its place.
abbrev pub at : Topology → List ℕ → ℕ → Checked
at t cells q = fault (row_fault t cells q) q

abbrev pub invariant-loop-p : goal.invariant-loop-p
invariant-loop-p l = rows_fault (topology l.c) l.cells ≡ first_fault (buffer_rows - l.p) l.p (at (topology l.c) l.cells)
