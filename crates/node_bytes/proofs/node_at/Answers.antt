-- `node_bytes::node_at` meets its contract: the four numbers, each at its byte.
-- Assumes nothing.
use mathlib.Core.Path.{sym, ◌∙◌}
use Rattle.numbers.proofs.Numbers.{true-has, false-has}
use Rattle.node_bytes.proofs.Nodes.{node_cong, node_there, node-none}
use Rattle.node_bytes.proofs.node_at.Goals as goal

pub returns-then-reaches : goal.returns-then-reaches
returns-then-reaches c =
    node_cong _ _ _ _ _ _ _ _ c.word_at.ensures.0 c.pair_at.ensures.0 c.word_at-then-reaches.ensures.0 c.pair_at-then-reaches.ensures.0
    ∙ sym (node_there c.args.s.now c.args.at (true-has _ _ _ (sym c.reaches.ensures ∙ c.if-reaches.true)))

pub returns-else-reaches : goal.returns-else-reaches
returns-else-reaches c = sym (node-none c.args.s.now c.args.at (false-has _ _ _ (sym c.reaches.ensures ∙ c.if-reaches.false)))
