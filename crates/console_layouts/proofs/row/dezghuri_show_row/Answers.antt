-- `console_layouts::row::dezghuri_show_row` meets its contract.
-- Assumes nothing.
use native.Mathlib.Omega.{arith}
use mathlib.Core.Path.{◌≡◌, sym, ap, ◌∙◌}
use Prim.Native.Nat.{ℕ, ◌+◌}
use mathlib.Core.List.{List, ◌++◌}
use lib.ListN.{length, drop}
use lib.Seq.{length-take-le}
use Rattle.cluster.specs.Terms.{row_cells}
use Rattle.show.specs.TermsShow.{shown}
use Rattle.console_layouts.proofs.RowAnswers.{row_short, row_long, none_shown, all_shown}
use Rattle.console_layouts.proofs.row.dezghuri_show_row.Goals as goal

pub returns-then-row-lt-ROW : goal.returns-then-row-lt-ROW
returns-then-row-lt-ROW c =
    let a = c.args in
    let w = row_short a.assignment.now a.partition a.row.now c.if-row-lt-ROW.true in
    (c.into.ensures ∙ w.0, w.1)

pub returns-then-refusal-ne0 : goal.returns-then-refusal-ne0
returns-then-refusal-ne0 c =
    let a = c.args in
    let w = row_long a.assignment.now a.partition a.row.now c.if-row-lt-ROW.false in
    let e = c.show_row-shown.ensures.refusal in
    let none = none_shown a.assignment.now a.partition a.row.now (λ z. c.if-refusal-ne0.true (e ∙ z)) in
    (e ∙ w.0, ap (λ (l : List ℕ). l ++ drop (0 + length l) a.row.now) (sym none) ∙ w.1)

pub copy_from_slice-requires : goal.copy_from_slice-requires
copy_from_slice-requires c =
    let a = c.args in
    let shows = c.show_row-shown.ensures in
    let room = length-take-le row_cells a.row.now c.if-row-lt-ROW.false in
    omega (arith, room, ap length shows.cells, all_shown a.assignment.now a.partition a.row.now (sym shows.refusal ∙ c.if-refusal-ne0.false))

pub returns : goal.returns
returns c =
    let a = c.args in
    let lent = a.row.now in
    let w = row_long a.assignment.now a.partition lent c.if-row-lt-ROW.false in
    let shows = c.show_row-shown.ensures in
    let part : List ℕ = shown a.assignment.now a.partition in
    let eight : 0 + length part ≡ row_cells =
    omega (arith, all_shown a.assignment.now a.partition lent (sym shows.refusal ∙ c.if-refusal-ne0.false)) in (
      sym c.if-refusal-ne0.false ∙ (shows.refusal ∙ w.0),
      ap (λ (l : List ℕ). l ++ drop row_cells lent) (c.copy_from_slice.ensures.after ∙ shows.cells) ∙ (ap (λ (k : ℕ). part ++ drop k lent) (sym eight) ∙ w.1),
    )
