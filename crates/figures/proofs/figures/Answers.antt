-- `figures::figures` meets its contract.
-- Assumes nothing.
use borrow.Author.Rules.{rules}
use native.Mathlib.Omega.{arith}
use Prim.Native.Nat.{ℕ, ◌≤◌}
use mathlib.Core.Path.{◌≡◌, refl, sym, ap, ◌∙◌}
use lib.ListN.{length}
use Rattle.cluster.specs.Terms.{layout_cells, topology, fault_of}
use Rattle.std.proofs.lemmas.Result.{err_from_is_err_and}
use Rattle.layouts.proofs.FaultScan.{number-some}
use Rattle.cluster.specs.TermsRefusal.{number_of}
use Rattle.cluster.specs.declared.Cluster.{Cluster}
use mathlib.Core.List.{List}
use Rattle.layouts.specs.TermsCheck.{Checked, fault, check_of, rows_fault}
use Rattle.layouts.proofs.CheckOrder.{sound, all_pass}
use Rattle.figures.specs.TermsFigures.{figures_fault}
use Rattle.figures.proofs.FigureWalk.{short_fault, check-fault, refused-answer, made-answer}
use Rattle.figures.proofs.figures.Goals as goal

pub returns-then-cells-lt-FIGURES : goal.returns-then-cells-lt-FIGURES
returns-then-cells-lt-FIGURES c =
    let a = c.args in
    let r = refused-answer a.c a.assignment.now a.size a.cells.now (fault 8 0) (short_fault a.c a.assignment.now a.size a.cells.now (search rules)) (λ z. omega arith) in
    record { answer = rw c.into.ensures r.0; cells = r.1 }

pub returns-in_err-check : goal.returns-in_err-check
returns-in_err-check c =
    let a = c.args in
    let p = err_from_is_err_and c.from_residual.result c.from_residual.ensures.1 in
    let f = c.in_err-check.field-0.0 in
    -- Past the first test the refusal and the place are those of check.
    let answer : figures_fault a.c a.assignment.now a.size a.cells.now ≡ fault (number_of f.refusal) f.place =
    check-fault a.c a.assignment.now a.size a.cells.now (search rules) ∙ sym c.in_err-check.ensures in
    let r = refused-answer a.c a.assignment.now a.size a.cells.now (fault (number_of f.refusal) f.place) answer (number-some f.refusal) in
    record { answer = rw (p.1, p.2) r.0; cells = r.1 }

-- Past the second test neither the cluster nor a row has a fault, and the assignment is whole.
passes : (c : Cluster) (assignment : List ℕ) (size : ℕ) → fault 0 0 ≡ check_of c assignment size
    → (fault_of c ≡ 0) × (layout_cells ≤ length assignment) × ((rows_fault (topology c) assignment).refusal ≡ 0)
passes c assignment size e =
    let w = all_pass c assignment size (sym (ap (λ (f : Checked). f.refusal) e)) in
    ((sound c size w.1).0, w.0, w.2)

pub put_figures-requires : goal.put_figures-requires
put_figures-requires c =
    let a = c.args in
    let w = passes a.c a.assignment.now a.size c.in_ok-check.ensures in
    (w.0, w.1, w.2, search rules)

pub hope-requires : goal.hope-requires
hope-requires c = let a = c.args in (passes a.c a.assignment.now a.size c.in_ok-check.ensures).0

pub returns : goal.returns
returns c =
    let a = c.args in
    let answer : figures_fault a.c a.assignment.now a.size a.cells.now ≡ fault 0 0 =
    check-fault a.c a.assignment.now a.size a.cells.now (search rules) ∙ sym c.in_ok-check.ensures in
    let r = made-answer a.c a.assignment.now a.size a.cells.now (fault 0 0) answer refl in
    record { answer = rw c.hope.ensures r.0; cells = c.put_figures.ensures ∙ r.1 }
