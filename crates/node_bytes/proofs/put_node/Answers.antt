-- `node_bytes::put_node` meets its contract: the four numbers are written one after the other.
-- Assumes nothing.
use mathlib.Core.Path.{sym, ◌∙◌}
use native.Mathlib.Omega.{arith}
use Rattle.fields.specs.RecordField.{node_bytes}
use Rattle.numbers.proofs.Numbers.{true-has, false-has}
use Rattle.node_bytes.proofs.Nodes.{length-node, put-numbers}
use Rattle.numbers.proofs.Written.{written_not}
use Rattle.node_bytes.proofs.put_node.Goals as goal

pub returns-then-reaches : goal.returns-then-reaches
returns-then-reaches c =
    let a = c.args in
    c.put_pair-then-reaches.ensures
    ∙ put-numbers a.out.now _ _ _ a.node a.at c.put_word.ensures c.put_pair.ensures c.put_word-then-reaches.ensures
    (true-has _ _ _ (sym c.reaches.ensures ∙ c.if-reaches.true))

pub returns-else-reaches : goal.returns-else-reaches
returns-else-reaches c =
    let a = c.args in
    sym (written_not a.out.now a.at (node_bytes a.node) (omega (arith, length-node a.node, false-has _ _ _ (sym c.reaches.ensures ∙ c.if-reaches.false))))
