-- `move_list::count_steps` meets its contract. The loop's invariant: the steps of the rows passed are counted.
use borrow.Author.Rules.{rules}
use native.Mathlib.Omega.{arith}
use Prim.Native.Nat.{◌≤◌, ◌*◌}
use mathlib.Core.Path.{◌≡◌, refl, ap, ap₂, ◌∙◌}
use Rattle.sums.specs.TermsSums.{sum_to}
use Rattle.sums.proofs.Sum.{sum-next}
use Rattle.sets.specs.ModelBits.{mask_bits}
use Rattle.cluster.specs.Terms.{topology, partitions}
use Rattle.cluster.proofs.Accepting.{partitions_in_range}
use Rattle.masks.specs.ModelMasks.{row_mask}
use Rattle.step_cells.specs.ModelSteps.{step_count}
use Rattle.step_cells.proofs.StepWalk.{few_steps}
use Rattle.masks.proofs.Where.{ids_used}
use Rattle.move_list.specs.ModelMoveRows.{wide_mask, steps_to}
use Rattle.move_list.proofs.MovesOrder.{all_pass, new_accepted}
use Rattle.move_list.proofs.AllRows.{steps_all}
use Rattle.move_list.proofs.count_steps.Goals as goal

pub loop-p-init : goal.loop-p-init
unfolding steps_to sum_to
loop-p-init c = (search rules, search rules, λ ns e. refl)

pub row_sets-old-requires : goal.row_sets-old-requires
row_sets-old-requires c =
    let a = c.args in
    (search rules, search rules, (all_pass a.c a.former.now a.assignment.now c.requires).0)

pub overflow_add-steps : goal.overflow_add-steps
overflow_add-steps c =
    -- A row has few steps.
    let few : c.count-steps.result ≤ 2 * mask_bits = omega (arith, c.count-steps.ensures, few_steps c.row_sets-old.result.0 c.row_sets-old.result.1) in
    omega (arith, few)

pub loop-p-preserved : goal.loop-p-preserved
unfolding steps_to
loop-p-preserved c =
    let few : c.count-steps.result ≤ 2 * mask_bits = omega (arith, c.count-steps.ensures, few_steps c.row_sets-old.result.0 c.row_sets-old.result.1) in
    let a = c.args in (
      search rules,
      omega (arith, few),
      λ ns e. sum-next (λ q. step_count (wide_mask ns a.former.now q) (row_mask ns a.assignment.now q)) c.loop-p.p c.loop-p.steps c.count-steps.result
          (c.loop-p.invariant.2 ns e) (c.count-steps.ensures ∙ ap₂ step_count (c.row_sets-old.ensures ns e).0 (c.row_sets-old.ensures ns e).1),
    )

pub returns : goal.returns
returns c =
    let a = c.args in
    let t = topology a.c in
    let e : c.loop-p.p ≡ partitions t = omega (arith, c.partitions-partitions.ensures.0 ∙ partitions_in_range a.c.bits (new_accepted a.c a.former.now a.assignment.now c.requires).bits) in
    c.loop-p.invariant.2 t.nodes (ids_used t.nodes _ _ c.used-n.ensures.1 c.used-n.ensures.0 c.ids_of-all.ensures)
    ∙ (ap (steps_to t.nodes a.former.now a.assignment.now) e ∙ steps_all a.c a.former.now a.assignment.now c.requires)
