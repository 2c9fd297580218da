-- `show::show_row` meets its contract.
-- Assumes nothing.
use borrow.Author.Rules.{rules}
use native.Mathlib.Omega.{arith}
use borrow.Author.Tests.{lt-ltb, le-ltb, le-leb, lt-leb}
use Prim.Native.Nat.{◌+◌, ◌-◌, ◌*◌}
use mathlib.Core.Path.{◌≡◌, refl, ◌∙◌}
use lib.ListN.{length}
use Rattle.cluster.specs.Terms.{row_cells, buffer_rows, layout_cells}
use Rattle.show.specs.TermsShow.{shown, show_code, show_byte}
use Rattle.show.proofs.show_row.Goals as goal

pub returns-then-cells-lt-CELLS : goal.returns-then-cells-lt-CELLS
unfolding shown show_code show_byte
returns-then-cells-lt-CELLS c =
    let a = c.args in
    let short = lt-ltb (length a.cells.now) layout_cells (search rules) in
    record { cells = simp short; refusal = c.into.ensures ∙ simp short; block = refl; byte = simp short (omega arith) }

pub returns-then-partition : goal.returns-then-partition
unfolding shown show_code show_byte
returns-then-partition c =
    let a = c.args in
    let whole = le-ltb (length a.cells.now) layout_cells (search rules) in
    let out = le-leb buffer_rows a.partition (search rules) in
    record { cells = simp (whole, out); refusal = c.into-then-partition.ensures ∙ simp (whole, out); block = refl; byte = simp (whole, out) (omega arith) }

pub returns : goal.returns
unfolding shown show_code show_byte
returns c =
    let a = c.args in
    let whole = le-ltb (length a.cells.now) layout_cells (search rules) in
    let inside = lt-leb buffer_rows a.partition (search rules) in
    let e : a.partition * row_cells + row_cells - a.partition * row_cells ≡ row_cells = omega arith in
    record { cells = simp (whole, inside, e); refusal = simp (whole, inside); block = refl; byte = simp (whole, inside) (omega arith) }
