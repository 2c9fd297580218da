-- `layouts::check::rows_fault` meets its contract. The loop's invariant: the first fault is the first of those from p on.
use borrow.Author.Rules.{rules}
use Prim.Native.Nat.{ℕ}
use mathlib.Core.Path.{◌≡◌, refl, sym, ap, ◌∙◌}
use Rattle.cluster.specs.Terms.{topology, buffer_rows}
use Rattle.cluster.specs.TermsRefusal.{number_of}
use Rattle.layouts.specs.TermsCheck.{fault, row_fault, rows_fault}
use Rattle.layouts.proofs.FaultScan.{number-some, scan-fault, scan-on, scan_end}
use Rattle.layouts.proofs.check.rows_fault.Invariants.{at}
use Rattle.layouts.proofs.check.rows_fault.Goals as goal

pub loop-p-init : goal.loop-p-init
unfolding rows_fault
loop-p-init c = refl

pub row_fault-requires : goal.row_fault-requires
row_fault-requires c = (c.requires.0, c.zones-zones.ensures, search rules, c.requires.1)

pub returns-in-Err : goal.returns-in-Err
returns-in-Err c = let a = c.args in
    let e : number_of c.in-Err.refusal ≡ row_fault (topology a.c) a.cells.now c.loop-p.p = c.in-Err.ensures in
    sym (c.loop-p.invariant ∙ (scan-fault buffer_rows c.loop-p.p (at (topology a.c) a.cells.now) (search rules) (λ z. number-some c.in-Err.refusal (e ∙ z))
    ∙ ap (λ (n : ℕ). fault n c.loop-p.p) (sym e)))

pub loop-p-preserved : goal.loop-p-preserved
loop-p-preserved c = let a = c.args in
    c.loop-p.invariant ∙ scan-on buffer_rows c.loop-p.p (at (topology a.c) a.cells.now) (search rules) (sym (c.in_default.ensures))

pub returns : goal.returns
returns c = let a = c.args in
    sym (c.loop-p.invariant ∙ scan_end buffer_rows c.loop-p.p (at (topology a.c) a.cells.now) (search rules))
