-- `walks::candidates` meets its contract. Assumes nothing.
use mathlib.Core.Path.{ap₂, ◌∙◌}
use native.Mathlib.Omega.{arith}
use Rattle.sets.specs.ModelBits.{union_of, meet_of, difference_of}
use Rattle.walks.proofs.Finding.{picks_won, picks_same, picks_lost}
use Rattle.walks.proofs.candidates.Goals as goal

pub returns-then-w-eq0 : goal.returns-then-w-eq0
returns-then-w-eq0 c = let a = c.args in
    picks_won a.own a.other a.owned a.othered a.w c.meet.result (omega arith)
    (c.meet.ensures ∙ ap₂ meet_of c.difference-here.ensures c.difference-won.ensures)

pub returns-then-w-eq1 : goal.returns-then-w-eq1
returns-then-w-eq1 c = let a = c.args in
    picks_same a.own a.other a.owned a.othered a.w c.difference.result (omega arith)
    (c.difference.ensures
    ∙ ap₂ difference_of c.difference-here.ensures
    (c.union.ensures ∙ ap₂ union_of c.difference-lost.ensures c.difference-won.ensures))

pub returns : goal.returns
returns c = let a = c.args in
    picks_lost a.own a.other a.owned a.othered a.w c.meet-2.result (omega arith)
    (c.meet-2.ensures ∙ ap₂ meet_of c.difference-here.ensures c.difference-lost.ensures)
