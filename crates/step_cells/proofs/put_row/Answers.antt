-- `step_cells::put_row` meets its contract.
-- Assumes nothing.
use borrow.Author.Rules.{rules}
use native.Mathlib.Omega.{arith}
use Prim.Native.Nat.{ℕ, ◌^◌}
use mathlib.Core.Path.{◌≡◌, ap}
use lib.ListN.{length}
use Rattle.sets.specs.ModelBits.{difference_of, count_of}
use Rattle.masks.proofs.Where.{ids-many}
use Rattle.step_cells.specs.ModelSteps.{step_count}
use Rattle.step_cells.proofs.StepWalk.{difference_low, row_put}
use Rattle.step_cells.proofs.put_row.Goals as goal

pub put_steps-then-requires : goal.put_steps-then-requires
unfolding step_count
put_steps-then-requires c =
    -- What is sent is what is new,
    let sent : let a = c.args in c.difference.result ≡ difference_of a.new a.old = c.difference.ensures in
    let a = c.args in
    let e = sent in (
      search rules,
      omega (arith, e, difference_low (length a.ids.now) c.requires.0 a.new a.old c.requires.2),
      omega (arith, ap count_of e, c.requires.3),
    )

pub put_steps-requires : goal.put_steps-requires
unfolding step_count
put_steps-requires c =
    let sent : let a = c.args in c.difference.result ≡ difference_of a.new a.old = c.difference.ensures in
    -- and what is dropped is what was held and is not new.
    let dropped : let a = c.args in c.difference-2.result ≡ difference_of a.old a.new = c.difference-2.ensures in
    let a = c.args in
    let e = dropped in (
      search rules,
      omega (arith, e, difference_low (length a.ids.now) c.requires.0 a.old a.new c.requires.1),
      omega (arith, ap count_of e, ap count_of sent, c.put_steps-then.ensures.0, c.requires.3),
    )

pub returns : goal.returns
unfolding step_count
returns c =
    let sent : let a = c.args in c.difference.result ≡ difference_of a.new a.old = c.difference.ensures in
    let dropped : let a = c.args in c.difference-2.result ≡ difference_of a.old a.new = c.difference-2.ensures in
    let a = c.args in
    let es = sent in
    let ed = dropped in (
      omega (arith, c.put_steps.ensures.0, c.put_steps-then.ensures.0, ap count_of es, ap count_of ed),
      λ ns e.
          let many = ids-many ns a.ids.now e in
          row_put ns a.partition c.first_id.result a.old a.new c.difference.result c.difference-2.result a.at c.put_steps-then.result
          a.cells.now _ _ (omega (arith, many)) (omega (arith, c.requires.2, ap (λ (x : ℕ). 2 ^ x) many)) (c.first_id.ensures ns e) es ed (omega arith)
          c.put_steps-then.ensures.0 (c.put_steps-then.ensures.1 ns e) (c.put_steps.ensures.1 ns e),
    )
