-- `walks::weight` meets its contract. Assumes nothing.
use native.Mathlib.Omega.{arith}
use Prim.Native.Nat.{◌+◌}
use Rattle.levels.specs.ModelGraph.{weight_of}
use mathlib.Core.Bool.{true, false}
use Rattle.cluster.specs.Terms.{most_nodes}
use Rattle.walks.proofs.Steps.{member-at}
use Rattle.walks.proofs.weight.Goals as goal

pub returns-then-member : goal.returns-then-member
unfolding weight_of
returns-then-member c = let a = c.args in
    let e = member-at a.arcs.now a.u a.v c.cell.result c.member.result true c.member.ensures c.cell.ensures c.if-member.true in
    (rw e, omega arith)

pub overflow_add-u : goal.overflow_add-u
overflow_add-u c = omega arith

pub returns-then-member-2 : goal.returns-then-member-2
unfolding weight_of
returns-then-member-2 c = let a = c.args in
    let d = member-at a.arcs.now a.u a.v c.cell.result c.member.result false c.member.ensures c.cell.ensures c.if-member.false in
    let e = member-at a.arcs.now (most_nodes + a.u) a.v c.cell-2.result c.member-2.result true c.member-2.ensures c.cell-2.ensures c.if-member-2.true in
    (rw (d, e), omega arith)

pub returns : goal.returns
unfolding weight_of
returns c = let a = c.args in
    let d = member-at a.arcs.now a.u a.v c.cell.result c.member.result false c.member.ensures c.cell.ensures c.if-member.false in
    let e = member-at a.arcs.now (most_nodes + a.u) a.v c.cell-2.result c.member-2.result false c.member-2.ensures c.cell-2.ensures c.if-member-2.false in
    (rw (d, e), omega arith)
