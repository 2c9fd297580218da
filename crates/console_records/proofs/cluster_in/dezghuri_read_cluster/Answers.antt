-- `console_records::cluster_in::dezghuri_read_cluster` meets its contract.
-- Assumes nothing.
use native.Mathlib.Omega.{arith}
use borrow.Author.Rules.{rules}
use Prim.Native.Nat.{ℕ, ◌*◌, ◌≤◌}
use mathlib.Core.Path.{◌≡◌, ap, ◌∙◌}
use mathlib.Core.List.{List, ◌++◌}
use lib.ListN.{length, take, drop}
use lib.Seq.{drop-drop}
use Rattle.cells.proofs.Cells.{length_of_map}
use Rattle.cluster.specs.Terms.{most_nodes}
use Rattle.cluster.specs.declared.Cluster.{Cluster}
use Rattle.cluster_record.specs.RecordClusterAnswer.{ReadCluster, read_as, read_cluster_of}
use Rattle.answers.specs.TermsAnswers.{node_cells_width, node_cells}
use Rattle.console_records.specs.TermsConsoleRecords.{head_cells, read_cluster_cells, cluster_numbers}
use Rattle.answers.proofs.Answered.{short, long}
use Rattle.std.specs.Prelude.{Ok}
use Rattle.answers.proofs.Entered.{read_few}
use Rattle.console_records.proofs.cluster_in.dezghuri_read_cluster.Goals as goal
use Rattle.console_records.proofs.cluster_in.dezghuri_read_cluster.Goals.{in-Ok, in-Err}

pub returns-then-answer-lt-ANSWER : goal.returns-then-answer-lt-ANSWER
returns-then-answer-lt-ANSWER c =
    let lent = c.args.answer.now in
    let h = c.if-answer-lt-ANSWER.true in
    (c.into.ensures ∙ short _ read_cluster_cells lent h, short _ read_cluster_cells lent h, short _ read_cluster_cells lent h)

-- What is told of a reading.
told : ℕ × ℕ × Cluster → ReadCluster
told r = record { refusal = r.0; byte = r.1; cluster = r.2 }

-- The nodes in use of a cluster that was read are no more than its slots, and a refused reading yields none.
pub overflow_cast-numbers : goal.overflow_cast-numbers
overflow_cast-numbers c =
    let a = c.args in
    let few : c.match-read_cluster.refusal.2.count ≤ most_nodes =
    elim c.match-read_cluster.branch [
      | in-Ok w ↦
          let long : length w.in-Ok.c.nodes ≡ most_nodes = search length_of_map in
          rw w.refusal-is (read_few a.bytes.now a.former.now (read_as (Ok w.in-Ok.c)) w.in-Ok.ensures.0 long)
      | in-Err w ↦ rw (w.refusal-is, w.none.ensures) (search rules)
    ] in
    omega arith

pub returns : goal.returns
unfolding told
returns c =
    let a = c.args in
    let lent = a.answer.now in
    let h = c.if-answer-lt-ANSWER.false in
    let r = told c.match-read_cluster.refusal in
    let read : r ≡ read_cluster_of a.bytes.now a.former.now =
    elim c.match-read_cluster.branch [
      | in-Ok w ↦ ap told w.refusal-is ∙ w.in-Ok.ensures.0
      | in-Err w ↦ ap told w.refusal-is
          ∙ ((λ i. told (w.into-in-Err.ensures i, w.in-Err.refused.at, w.none.ensures i)) ∙ w.in-Err.ensures.0)
    ] in
    let nodes = node_cells r.cluster.nodes in (
      long _ read_cluster_cells lent h (ap (λ (x : ReadCluster). x.refusal) read),
      long _ read_cluster_cells lent h c.read_cluster.ensures.1,
      long _ read_cluster_cells lent h
          (c.put_nodes.ensures
          ∙ (ap (λ (l : List ℕ). take head_cells l ++ nodes ++ drop read_cluster_cells l) c.put_after.ensures
          ∙ (ap (λ (l : List ℕ). cluster_numbers r ++ l) (drop-drop (node_cells_width * most_nodes) head_cells lent) ∙ ap (λ (x : ReadCluster). cluster_numbers x ++ drop read_cluster_cells lent) read))),
    )
