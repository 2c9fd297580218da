-- `move_list::list` meets its contract.
-- Assumes nothing.
use native.Mathlib.Omega.{arith}
use Prim.Native.Nat.{ℕ, ◌*◌, ◌≤◌}
use mathlib.Core.Path.{◌≡◌, sym, ap, ◌∙◌}
use mathlib.Core.List.{List}
use lib.ListN.{length}
use Rattle.cluster.specs.declared.Cluster.{Cluster}
use Rattle.moves.specs.TermsMoves.{step_width}
use Rattle.std.proofs.lemmas.Result.{err_from_is_err_and}
use Rattle.layouts.proofs.FaultScan.{number-some}
use Rattle.cluster.specs.TermsRefusal.{number_of}
use Rattle.move_list.specs.TermsMoveList.{Listed, moves_fault, moves_in, listed, count_moves, list_moves}
use Rattle.move_list.proofs.MovesOrder.{count-made, counted_sound, list-refused, list_short, list-made, cells-kept, cells-made}
use Rattle.move_list.proofs.list.Goals as goal

-- Past the tests there is no fault, and room for the steps.
module _ (c : Cluster) (former assignment : List ℕ) (n : ℕ) (count : listed 0 0 n ≡ count_moves c former assignment) where
  none : (moves_fault c former assignment).refusal ≡ 0
  none = counted_sound c former assignment (sym (ap (λ (x : Listed). x.refusal) count))

  steps : n ≡ length (moves_in c former assignment)
  steps = ap (λ (x : Listed). x.steps) (count ∙ count-made c former assignment none)

  module _ (cells : List ℕ) (fits : step_width * n ≤ length cells) where
    room : step_width * length (moves_in c former assignment) ≤ length cells
    room = omega (arith, steps)

    -- So the list is answered as the count.
    made : listed 0 0 n ≡ list_moves c former assignment (length cells)
    made = count ∙ sym (list-made c former assignment (length cells) (omega (arith, room, ap (λ (x : Listed). x.steps) count)))

pub returns-in_err-steps : goal.returns-in_err-steps
returns-in_err-steps c =
    let a = c.args in
    let p = err_from_is_err_and c.from_residual.result c.from_residual.ensures.1 in
    let r = c.in_err-steps.field-0.0 in
    let e : listed (number_of r.refusal) r.place 0 ≡ count_moves a.c a.former.now a.assignment.now = c.in_err-steps.ensures.0 in
    let list = list-refused a.c a.former.now a.assignment.now (length a.cells.now) (λ z. number-some r.refusal (ap (λ (x : Listed). x.refusal) e ∙ z)) in
    rw (p.1, p.2) (
      e ∙ sym list,
      sym (cells-kept a.c a.former.now a.assignment.now a.cells.now (λ z. number-some r.refusal (ap (λ (x : Listed). x.refusal) (e ∙ sym list) ∙ z))),
      tt,
    )

pub returns-then-cells-steps : goal.returns-then-cells-steps
returns-then-cells-steps c =
    let a = c.args in
    let list = list_short a.c a.former.now a.assignment.now (length a.cells.now) (omega (arith, ap (λ (x : Listed). x.steps) c.in_ok-steps.ensures.0, c.if-cells-steps.true)) in
    rw c.into.ensures (
      sym list,
      sym (cells-kept a.c a.former.now a.assignment.now a.cells.now (λ z. omega (arith, ap (λ (x : Listed). x.refusal) list, z))),
      tt,
    )

pub put_steps-requires : goal.put_steps-requires
put_steps-requires c =
    let a = c.args in
    let e = c.in_ok-steps.ensures.0 in (
      none a.c a.former.now a.assignment.now _ e,
      room a.c a.former.now a.assignment.now _ e a.cells.now c.if-cells-steps.false,
    )

pub returns : goal.returns
returns c =
    let a = c.args in
    let e = c.in_ok-steps.ensures.0 in
    let told = made a.c a.former.now a.assignment.now _ e a.cells.now c.if-cells-steps.false in
    (told, c.put_steps.ensures ∙ sym (cells-made a.c a.former.now a.assignment.now a.cells.now _ (sym told ∙ ap (listed 0 0) (steps a.c a.former.now a.assignment.now _ e))), c.in_ok-steps.ensures.1)
