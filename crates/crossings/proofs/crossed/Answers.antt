-- `crossings::crossed` meets its contract. Assumes nothing.
use native.Mathlib.Omega.{arith}
use Rattle.crossings.proofs.Steps.{cross_store, cross_apart, cross_first, cross_both}
use Rattle.walks.specs.ModelWalks.{ok_of}
use Rattle.crossings.proofs.crossed.Goals as goal

pub returns-then-given-p : goal.returns-then-given-p
returns-then-given-p c = let a = c.args in
    let ok = ok_of a.rows.now a.given.now.mates.now a.all a.given.now.z in
    cross_store a.given.now.partitions ok a.y.now a.q.now a.i a.j c.cell-e.result c.cell-e.ensures c.if-given-p.true

pub returns-then-e-cell : goal.returns-then-e-cell
returns-then-e-cell c = let a = c.args in
    let ok = ok_of a.rows.now a.given.now.mates.now a.all a.given.now.z in
    cross_apart a.given.now.partitions ok a.y.now a.q.now a.i a.j c.cell-e.result c.cell-e.ensures c.cell.result c.cell.ensures
    c.if-given-p.false (λ e. omega arith)

pub overflow_add-j : goal.overflow_add-j
overflow_add-j c = omega arith

pub returns-then-not-allows : goal.returns-then-not-allows
returns-then-not-allows c = let a = c.args in
    let ok = ok_of a.rows.now a.given.now.mates.now a.all a.given.now.z in
    cross_first a.given.now.partitions ok a.y.now a.q.now a.i a.j c.cell-e.result c.cell-e.ensures c.cell.result
    c.cell-from.result c.cell-to.result c.cell.ensures c.cell-from.ensures c.cell-to.ensures
    c.if-given-p.false (omega arith) c.allows.result c.allows.ensures c.if-not-allows.true

pub overflow_add-i : goal.overflow_add-i
overflow_add-i c = omega arith

pub returns : goal.returns
returns c = let a = c.args in
    let ok = ok_of a.rows.now a.given.now.mates.now a.all a.given.now.z in
    cross_both a.given.now.partitions ok a.y.now a.q.now a.i a.j c.cell-e.result c.cell-e.ensures c.cell.result
    c.cell-from.result c.cell-to.result c.cell.ensures c.cell-from.ensures c.cell-to.ensures
    c.if-given-p.false (omega arith) c.allows.result c.allows.ensures
    c.if-not-allows.false
    c.cell-from-2.result c.cell-to-2.result c.cell-from-2.ensures c.cell-to-2.ensures c.allows-2.result
    c.allows-2.ensures
