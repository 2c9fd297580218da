-- `freeing::divide` meets its contract. Assumes nothing.
use borrow.Author.Rules.{rules}
use native.Mathlib.Omega.{arith}
use Rattle.freeing.proofs.Freeing.{inner_in, outer_in, split-inner, split-outer}
use Rattle.sets.specs.ModelBits.{bits_at}
use mathlib.Core.Path.{sym, ◌∙◌}
use Rattle.freeing.proofs.divide.Goals as goal

pub overflow_sub-k : goal.overflow_sub-k
overflow_sub-k c = omega arith

pub overflow_cast-i : goal.overflow_cast-i
overflow_cast-i c = omega arith

pub overflow_cast-j : goal.overflow_cast-j
overflow_cast-j c = omega arith

pub overflow_add-i : goal.overflow_add-i
overflow_add-i c = omega arith

pub overflow_add-i-then-gains : goal.overflow_add-i-then-gains
overflow_add-i-then-gains c = omega arith

pub bounds-y-0 : goal.bounds-y-0
bounds-y-0 c = omega arith

pub offset_bounds-y-k : goal.offset_bounds-y-k
offset_bounds-y-k c = omega arith

pub bounds-y-k : goal.bounds-y-k
bounds-y-k c = omega arith

pub shape_of-q-then-gains : goal.shape_of-q-then-gains
shape_of-q-then-gains c = omega arith

pub returns-then-gains : goal.returns-then-gains
returns-then-gains c = let a = c.args in
    let i = a.i in
    let j = a.j in
    let g = bits_at a.given.now.former.now in (
      omega arith,
      search rules,
      omega arith,
      split-inner a.given.now.partitions a.m i j g a.y.now a.q.now (omega arith) (omega arith) (omega arith) (omega arith)
          (sym c.gains.ensures ∙ c.if-gains.true)
          (inner_in a.given.now.partitions a.m i j g a.y.now a.q.now (omega arith) (omega arith) (omega arith) (omega arith)
          c.shift.new.cells c.shift-then-gains.new.cells c.shift.ensures c.shift-then-gains.ensures),
    )

pub overflow_add-i-2 : goal.overflow_add-i-2
overflow_add-i-2 c = omega arith

pub overflow_sub-m : goal.overflow_sub-m
overflow_sub-m c = omega arith

pub overflow_add-i-3 : goal.overflow_add-i-3
overflow_add-i-3 c = omega arith

pub overflow_sub-m-2 : goal.overflow_sub-m-2
overflow_sub-m-2 c = omega arith

pub overflow_sub-m-3 : goal.overflow_sub-m-3
overflow_sub-m-3 c = omega arith

pub overflow_sub-result : goal.overflow_sub-result
overflow_sub-result c = omega arith

pub shape_of-y : goal.shape_of-y
shape_of-y c = omega arith

pub shape_of-q : goal.shape_of-q
shape_of-q c = omega arith

pub returns : goal.returns
returns c = let a = c.args in
    let i = a.i in
    let j = a.j in
    let g = bits_at a.given.now.former.now in (
      omega arith,
      omega arith,
      omega arith,
      split-outer a.given.now.partitions a.m i j g a.y.now a.q.now (omega arith) (omega arith) (omega arith) (omega arith)
          (sym c.gains.ensures ∙ c.if-gains.false)
          (outer_in a.given.now.partitions a.m i j g a.y.now a.q.now (omega arith) (omega arith) (omega arith) (omega arith)
          c.shift-2.new.cells c.shift-3.new.cells c.shift-2.ensures c.shift-3.ensures),
    )
