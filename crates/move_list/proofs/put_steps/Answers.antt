-- `move_list::put_steps` meets its contract. The loop's invariant: the steps of the rows passed are written, and the cells after them are as lent.
use borrow.Author.Rules.{rules}
use native.Mathlib.Omega.{arith}
use Prim.Native.Nat.{ℕ, ◌*◌, ◌^◌}
use mathlib.Core.Path.{◌≡◌, refl, ap, ap₂, ◌∙◌}
use mathlib.Core.List.{List, ◌++◌}
use lib.ListN.{take, drop, length-take}
use Rattle.sums.specs.TermsSums.{sum_to}
use Rattle.cluster.specs.Terms.{topology, partitions}
use Rattle.cluster.proofs.Accepting.{partitions_in_range}
use Rattle.moves.specs.TermsMoves.{step_width}
use Rattle.step_cells.specs.ModelSteps.{step_count}
use Rattle.masks.proofs.Where.{ids-many, ids_used}
use Rattle.move_list.specs.ModelMoveRows.{steps_to, cells_to}
use Rattle.move_list.proofs.MovesOrder.{all_pass, new_accepted}
use Rattle.move_list.proofs.MoveRows.{wide_low, row_low, steps_upto, steps_next, rows_none, rows-put}
use Rattle.move_list.proofs.AllRows.{steps_all, cells-all}
use Rattle.move_list.proofs.put_steps.Goals as goal

pub loop-p-init : goal.loop-p-init
unfolding steps_to sum_to
loop-p-init c = (search rules, λ ns e. (refl, rows_none ns _ _ _))

pub row_sets-old-requires : goal.row_sets-old-requires
row_sets-old-requires c =
    let a = c.args in
    (search rules, search rules, (all_pass a.c a.former.now a.assignment.now c.requires.0).0)

pub put_row-at-requires : goal.put_row-at-requires
put_row-at-requires c =
    -- The number of partitions is that of the cluster.
    let rows : c.partitions-partitions.result ≡ partitions (topology c.args.c) = (let a = c.args in
    c.partitions-partitions.ensures.0 ∙ partitions_in_range a.c.bits (new_accepted a.c a.former.now a.assignment.now c.requires.0).bits) in
    let a = c.args in
    let ns = (topology a.c).nodes in
    let ids = ids_used ns c.ids_of-all.result c.used-n.result c.used-n.ensures.1 c.used-n.ensures.0 c.ids_of-all.ensures in
    let many = ids-many ns (take c.used-n.result c.ids_of-all.result) ids in
    let sets = c.row_sets-old.ensures ns ids in
    let few = ap (λ (x : ℕ). 2 ^ x) many in (
      search rules,
      omega (arith, sets.0, wide_low ns a.former.now c.loop-p.p, few),
      omega (arith, sets.1, row_low ns a.assignment.now c.loop-p.p, few),
      omega (
        arith,
        (c.loop-p.invariant.1 ns ids).0,
        ap₂ step_count sets.0 sets.1,
        steps_upto ns a.former.now a.assignment.now (partitions (topology a.c)) c.loop-p.p (omega (arith, rows)),
        steps_all a.c a.former.now a.assignment.now c.requires.0,
        c.requires.1,
      ),
    )

pub loop-p-preserved : goal.loop-p-preserved
loop-p-preserved c =
    let a = c.args in (
      search rules,
      λ ns e.
          let inv = c.loop-p.invariant.1 ns e in
          let sets = c.row_sets-old.ensures ns e in (
            omega (arith, c.put_row-at.ensures.0, inv.0, ap₂ step_count sets.0 sets.1, steps_next ns a.former.now a.assignment.now c.loop-p.p),
            rows-put ns a.former.now a.assignment.now a.cells.now c.loop-p.cells _ c.loop-p.p c.loop-p.at c.row_sets-old.result.0 c.row_sets-old.result.1
                (omega (arith, ids-many ns _ e, length-take c.used-n.result c.ids_of-all.result)) sets.0 sets.1 inv.0 inv.1 (c.put_row-at.ensures.1 ns e),
          ),
    )

pub returns : goal.returns
returns c =
    let rows : c.partitions-partitions.result ≡ partitions (topology c.args.c) = (let a = c.args in
    c.partitions-partitions.ensures.0 ∙ partitions_in_range a.c.bits (new_accepted a.c a.former.now a.assignment.now c.requires.0).bits) in
    let a = c.args in
    let ns = (topology a.c).nodes in
    let e : c.loop-p.p ≡ partitions (topology a.c) = omega (arith, rows) in
    (c.loop-p.invariant.1 ns (ids_used ns _ _ c.used-n.ensures.1 c.used-n.ensures.0 c.ids_of-all.ensures)).1
    ∙ (ap (λ (n : ℕ). cells_to ns a.former.now a.assignment.now n ++ drop (step_width * steps_to ns a.former.now a.assignment.now n) a.cells.now) e
    ∙ ap₂ (λ (l : List ℕ) (n : ℕ). l ++ drop (step_width * n) a.cells.now) (cells-all a.c a.former.now a.assignment.now c.requires.0)
    (steps_all a.c a.former.now a.assignment.now c.requires.0))
