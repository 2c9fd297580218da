-- What planning owes through C: a record that is read leaves planning nothing to refuse but the lack of a layout.
-- Assumes nothing.
use Prim.Native.Nat.{ℕ, ◌≤◌}
use mathlib.Core.Path.{◌≡◌, sym, ap, ◌∙◌, subst}
use mathlib.Core.List.{List}
use native.Mathlib.Omega.{arith}
use lib.ListN.{length, drop, replicate, length-replicate}
use Rattle.cluster.specs.Terms.{layout_cells, scratch_cells, Topology, topology, partitions, Layout, IsFormer, rows_in}
use Rattle.cluster.proofs.Slots.{topology-slots}
use Rattle.cluster_reading.specs.RecordClusterReading.{read_cluster}
use Rattle.cluster_record.specs.RecordClusterAnswer.{ReadCluster, cluster_answer, read_cluster_of}
use Rattle.cluster_record.proofs.Answers.{long_answer, accepted_former}
use Rattle.cluster_record.proofs.Exactly.{reads_yield, answer_yields}
use Rattle.planner.specs.TermsPlan.{unusable, Owed}
use Rattle.planner.proofs.Refusals.{cells-usable}
use Rattle.answers.specs.TermsAnswers.{reading}
use Rattle.console_plan.specs.TermsConsolePlan.{former_in, PlanOwed}

abbrev zeros : List ℕ
zeros = replicate layout_cells 0

module _ (s : List ℕ) (a z : ℕ) where
  pub record_usable : (reading s).refusal ≡ 0 → layout_cells ≤ a → scratch_cells ≤ z → unusable (reading s).cluster (former_in s) a z ≡ 0
  unfolding reading former_in cluster_answer
  record_usable e long ample =
      let enough : layout_cells ≤ length zeros = omega (arith, length-replicate {A = ℕ} layout_cells 0) in
      let q = long_answer s zeros enough in
      let none : (read_cluster s).refusal ≡ 0 = sym (ap (λ (r : ReadCluster). r.refusal) q) ∙ e in
      let t : Topology = (read_cluster s).cluster in
      let F : Layout = (read_cluster s).former in
      let c = (read_cluster_of s zeros).cluster in
      ap (λ (l : List ℕ). unusable c l a z) (accepted_former s zeros enough none)
      ∙ cells-usable c F (drop layout_cells zeros) a z (answer_yields s zeros).sound
      (subst (λ (x : Topology). IsFormer x F) (sym (ap (λ (r : ReadCluster). topology r.cluster) q ∙ topology-slots t)) ((reads_yield s).1 none)) long ample

  -- What planning owes of the reading and the cells of its former layout.
  abbrev pub Owes : ℕ → Type 0
  Owes refusal =
      let r = reading s in let t = topology r.cluster in
      r.refusal ≡ 0 → unusable r.cluster (former_in s) a z ≡ 0 → Owed t (rows_in (partitions t) (former_in s)) refusal

  pub record_owed : (n refusal : ℕ) → Owes refusal → PlanOwed s a z n refusal
  record_owed n refusal owed e long ample enough = owed e (record_usable e long ample)
