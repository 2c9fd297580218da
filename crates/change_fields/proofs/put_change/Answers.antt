-- `change_fields::put_change` meets its contract: the head of the field, then its body.
-- Assumes nothing.
use Prim.Native.Nat.{◌+◌}
use mathlib.Core.Path.{sym, subst}
use native.Mathlib.Omega.{arith}
use Rattle.fields.specs.RecordField.{head_width, node_width, remove_width, resize_width}
use Rattle.change_fields.specs.declared.Change.TheVariants.{Add, Remove, Resize}
use Rattle.change_fields.proofs.Changes.{IsPut, put-field, put_words}
use Rattle.change_fields.proofs.put_change.Goals as goal

pub returns-in-Add : goal.returns-in-Add
returns-in-Add c =
    let s = c.args.out.now in
    subst (IsPut s c.put_node.new.out (head_width + node_width)) (sym c.in-Add.is)
    (put-field s _ _ (Add c.in-Add.node) (omega arith) c.put_head.ensures c.put_node.ensures)

pub returns-in-Remove : goal.returns-in-Remove
returns-in-Remove c =
    let s = c.args.out.now in
    subst (IsPut s c.put_word.new.out (head_width + remove_width)) (sym c.in-Remove.is)
    (put-field s _ _ (Remove c.in-Remove.id) (omega arith) c.put_head-in-Remove.ensures c.put_word.ensures)

pub returns-in-Resize : goal.returns-in-Resize
returns-in-Resize c =
    let s = c.args.out.now in
    let i = c.in-Resize.id in
    let k = c.in-Resize.capacity in
    subst (IsPut s c.put_word-in-Resize-2.new.out (head_width + resize_width)) (sym c.in-Resize.is)
    (put-field s _ _ (Resize i k) (omega arith) c.put_head-in-Resize.ensures
    (put_words _ _ _ i k (omega arith) c.put_word-in-Resize.ensures c.put_word-in-Resize-2.ensures))
