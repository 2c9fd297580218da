-- `loss::rows::lost_rows` meets its contract.
use mathlib.Core.Path.{◌≡◌, refl, ap, ◌∙◌}
use native.Mathlib.Omega.{arith}
use borrow.Author.Rules.{rules}
use Rattle.sums.specs.TermsSums.{sum_to}
use Rattle.cluster.specs.Terms.{buffer_rows}
use Rattle.loss.specs.ModelSearch.{row_lost, lost_rows}
use Rattle.loss.proofs.Steps.{row-lost, row-held}
use Rattle.loss.proofs.rows.lost_rows.Goals.{then-left-eq0, else-left-eq0}
use Rattle.loss.proofs.rows.lost_rows.Goals as goal

pub loop-p-init : goal.loop-p-init
unfolding sum_to
loop-p-init c = (search rules, refl)

pub loop-p-preserved : goal.loop-p-preserved
loop-p-preserved c =
    let a = c.args in
    let l = c.loop-p in
    let d = c.difference-left in (
      elim c.if-left-eq0.branch [ then-left-eq0 w ↦ omega (arith, w.lost-is) | else-left-eq0 w ↦ omega (arith, w.lost-is) ],
      elim c.if-left-eq0.branch [
        | then-left-eq0 w ↦ w.lost-is ∙ row-lost a.rows.now a.set l.p l.lost d.result l.invariant.1 d.ensures w.if-left-eq0.true
        | else-left-eq0 w ↦ w.lost-is ∙ row-held a.rows.now a.set l.p l.lost d.result l.invariant.1 d.ensures w.if-left-eq0.false
      ],
    )

pub returns : goal.returns
unfolding lost_rows
returns c = let a = c.args in let e : c.loop-p.p ≡ buffer_rows = omega arith in c.loop-p.invariant.1 ∙ ap (λ x. sum_to x (row_lost a.rows.now a.set)) e
