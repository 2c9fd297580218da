-- `step_cells::count` meets its contract.
-- Assumes nothing.
use native.Mathlib.Omega.{arith}
use Prim.Native.Nat.{◌+◌}
use mathlib.Core.Path.{◌≡◌, ap, ap₂, ◌∙◌}
use Rattle.sets.specs.ModelBits.{count_of}
use Rattle.step_cells.specs.ModelSteps.{step_count}
use Rattle.step_cells.proofs.StepWalk.{few_steps}
use Rattle.step_cells.proofs.count.Goals as goal

pub overflow_add-result : goal.overflow_add-result
overflow_add-result c =
    -- What is added up is the number of steps.
    let steps : let a = c.args in c.count-sends.result + c.count-drops.result ≡ step_count a.old a.new = unfold step_count in
    ap₂ ◌+◌ (c.count-sends.ensures ∙ ap count_of c.difference.ensures) (c.count-drops.ensures ∙ ap count_of c.difference-2.ensures) in
    let a = c.args in omega (arith, steps, few_steps a.old a.new)

pub returns : goal.returns
returns c =
    let steps : let a = c.args in c.count-sends.result + c.count-drops.result ≡ step_count a.old a.new = unfold step_count in
    ap₂ ◌+◌ (c.count-sends.ensures ∙ ap count_of c.difference.ensures) (c.count-drops.ensures ∙ ap count_of c.difference-2.ensures) in
    steps
