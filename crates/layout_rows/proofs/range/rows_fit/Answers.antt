-- `layout_rows::range::rows_fit` meets its contract. The loop's invariant: each row passed fits.
use native.Mathlib.Omega.{arith}
use Prim.Native.Nat.{ℕ}
use mathlib.Core.Path.{◌≡◌, refl, sym, ap, ◌∙◌}
use Rattle.sums.specs.TermsSums.{every_to}
use Rattle.layout_rows.specs.RecordLayoutFaults.{row_fits, rows_fit}
use Rattle.sums.proofs.Tests.{every_more, every_fails}
use Rattle.cluster.specs.Terms.{buffer_rows}
use Rattle.layout_rows.proofs.range.rows_fit.Goals as goal

pub loop-p-init : goal.loop-p-init
unfolding every_to
loop-p-init c = refl

pub returns-then-not-row_fits : goal.returns-then-not-row_fits
unfolding rows_fit
returns-then-not-row_fits c =
    let a = c.args in
    let r = c.row_fits in
    sym (every_fails buffer_rows c.loop-p.p (row_fits a.cells.now a.partitions a.replication) (omega arith)
    (sym r.ensures ∙ c.if-not-row_fits.true))

pub loop-p-preserved : goal.loop-p-preserved
loop-p-preserved c =
    let a = c.args in
    let r = c.row_fits in
    every_more c.loop-p.p (row_fits a.cells.now a.partitions a.replication) c.loop-p.invariant
    (sym r.ensures ∙ c.if-not-row_fits.false)

pub returns : goal.returns
unfolding rows_fit
returns c =
    let a = c.args in
    let e : buffer_rows ≡ c.loop-p.p = omega arith in
    sym (ap (λ (m : ℕ). every_to m (row_fits a.cells.now a.partitions a.replication)) e ∙ c.loop-p.invariant)
