-- `loss::search::search` meets its contract.
use Prim.Native.Nat.{ℕ, ◌+◌, ◌-◌}
use mathlib.Core.Path.{◌≡◌, sym, ap, ◌∙◌}
use native.Mathlib.Omega.{arith}
use borrow.Author.Rules.{rules}
use Rattle.loss.specs.ModelSearch.{kept_of, searched}
use Rattle.loss.proofs.Steps.{none_left, too_few_lem, one_more}
use Rattle.loss.proofs.search.+search.Goals.{then-left-eq1, else-left-eq1}
use Rattle.loss.proofs.search.+search.Goals as goal

pub loop-b-preserved : goal.loop-b-preserved
loop-b-preserved t c =
    let l = c.loop-b in
    let a = c.args in
    let taken = c.with-taken.ensures in
    let some : a.left ≡ 0 → ⊥ = λ z. omega arith in
    l.invariant
    ∙ elim c.if-left-eq1.branch [
      | then-left-eq1 w ↦ one_more a.rows.now a.n a.left a.set some l.b l.most w.kept-most.result (search rules)
          (w.kept-most.ensures
          ∙ (ap (λ (m : ℕ). kept_of a.rows.now m l.most) taken
          ∙ sym (none_left a.rows.now (a.left - 1) (l.b + 1) (a.n - (l.b + 1)) _ l.most (omega (arith, w.if-left-eq1.true)))))
          ∙ ap (searched a.rows.now a.left (l.b + 1) (a.n - (l.b + 1)) a.set) (sym w.most-is)
      | else-left-eq1 w ↦ one_more a.rows.now a.n a.left a.set some l.b l.most w.search-most.result (search rules)
          (w.search-most.ensures ∙ ap (λ (m : ℕ). searched a.rows.now (a.left - 1) (l.b + 1) (a.n - (l.b + 1)) m l.most) taken)
          ∙ ap (searched a.rows.now a.left (l.b + 1) (a.n - (l.b + 1)) a.set) (sym w.most-is)
    ]

pub returns : goal.returns
returns t c =
    let l = c.loop-b in
    let a = c.args in
    sym (l.invariant ∙ too_few_lem a.rows.now a.left l.b (a.n - l.b) a.set l.most (search rules))
