-- `loss::search::worst` meets its contract.
-- Assumes nothing.
use Prim.Native.Nat.{ℕ, ◌-◌}
use mathlib.Core.Path.{◌≡◌, ap, ap₂, ◌∙◌}
use native.Mathlib.Omega.{arith}
use Rattle.sets.specs.ModelBits.{below_of}
use Rattle.loss.specs.declared.search.Found.{Found}
use Rattle.loss.specs.ModelSearch.{found, costing, lost_rows, searched}
use Rattle.loss.proofs.Steps.{none_asked}
use Rattle.loss.proofs.search.worst.Goals as goal

pub returns-then-number-eq0 : goal.returns-then-number-eq0
returns-then-number-eq0 c =
    -- It begins with the lowest nodes, and what they cost.
    let lowest : let a = c.args in
    found c.lost_rows-lost.result c.below-set.result ≡ costing a.rows.now (below_of a.number) = unfold costing in (let a = c.args in
    ap₂ found (c.lost_rows-lost.ensures ∙ ap (lost_rows a.rows.now) c.below-set.ensures) c.below-set.ensures) in
    let a = c.args in lowest ∙ none_asked a.rows.now a.number a.n c.if-number-eq0.true

pub returns : goal.returns
returns c =
    let lowest : let a = c.args in
    found c.lost_rows-lost.result c.below-set.result ≡ costing a.rows.now (below_of a.number) = unfold costing in (let a = c.args in
    ap₂ found (c.lost_rows-lost.ensures ∙ ap (lost_rows a.rows.now) c.below-set.ensures) c.below-set.ensures) in
    let a = c.args in
    let whole : a.n - 0 ≡ a.n = omega arith in
    c.search.ensures ∙ ap₂ (λ (m : ℕ) (w : Found). searched a.rows.now a.number 0 m 0 w) whole lowest
