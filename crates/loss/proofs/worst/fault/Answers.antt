-- `loss::worst::fault` meets its contract.
-- Assumes nothing.
use native.Mathlib.Omega.{arith}
use mathlib.Core.Path.{sym, ◌∙◌}
use Rattle.loss.proofs.LossOrder.{order_short, order-nodes, order-number, order-check, over-most, over-count, few_enough}
use Rattle.loss.proofs.worst.fault.Goals as goal

pub returns-then-assignment-lt-CELLS : goal.returns-then-assignment-lt-CELLS
returns-then-assignment-lt-CELLS c = let a = c.args in
    rw c.into.ensures (sym (order_short a.c a.assignment.now a.number (omega arith)))

pub returns-then-c-gt-NODES : goal.returns-then-c-gt-NODES
returns-then-c-gt-NODES c = let a = c.args in
    rw c.into-then-c-gt-NODES.ensures (sym (order-nodes a.c a.assignment.now a.number (omega arith) (omega arith)))

pub returns-then-number-gt-MOST : goal.returns-then-number-gt-MOST
returns-then-number-gt-MOST c =
    let a = c.args in
    rw c.into-then-number-gt-MOST.ensures
    (sym (order-number a.c a.assignment.now a.number (omega arith) (omega arith) (over-most a.c a.assignment.now a.number (omega arith))))

pub returns-then-c-number : goal.returns-then-c-number
returns-then-c-number c =
    let a = c.args in
    rw c.into-then-c-number.ensures
    (sym (order-number a.c a.assignment.now a.number (omega arith) (omega arith) (over-count a.c a.assignment.now a.number (omega arith) (omega arith))))

pub returns : goal.returns
returns c =
    let a = c.args in
    c.check.ensures
    ∙ sym (order-check a.c a.assignment.now a.number (omega arith) (omega arith) (few_enough a.c a.assignment.now a.number (omega arith) (omega arith)))
