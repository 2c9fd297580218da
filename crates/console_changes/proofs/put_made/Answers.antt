-- `console_changes::put_made` meets its contract.
-- Assumes nothing.
use Prim.Native.Nat.{ℕ, ◌*◌}
use mathlib.Core.Path.{ap, ◌∙◌}
use mathlib.Core.List.{List, ◌∷◌, ◌++◌}
use lib.ListN.{take, drop}
use lib.Seq.{drop-drop}
use Rattle.cluster.specs.Terms.{most_nodes}
use Rattle.answers.specs.TermsAnswers.{halves, node_cells_width, node_cells}
use Rattle.console_changes.specs.TermsConsoleChanges.{head_cells, change_cells}
use Rattle.console_changes.proofs.put_made.Goals as goal

pub returns : goal.returns
returns c =
    let a = c.args in
    let k = a.c in
    let lent = a.cells.now in
    let nodes = node_cells k.nodes in
    c.put_nodes.ensures
    ∙ (ap (λ (x : List ℕ). take head_cells x ++ nodes ++ drop change_cells x) c.put_after.ensures
    ∙ (λ i. halves a.byte
    ++ (c.high.ensures i ∷ c.low.ensures i ∷ a.len ∷ k.bits ∷ k.replication ∷ k.redundancy ∷ k.count ∷ nodes)
    ++ drop-drop (node_cells_width * most_nodes) head_cells lent i))
