-- `cluster_record::read_cluster` meets its contract: the lent cells are written once the whole record is read.
-- Assumes nothing.
use Prim.Native.Nat.{ℕ}
use native.Mathlib.Omega.{arith}
use Rattle.std.proofs.lemmas.Result.{err_from_is_err_and}
use mathlib.Core.Path.{refl, sym, ap, ◌∙◌}
use mathlib.Core.List.{List, ◌++◌}
use lib.ListN.{length, drop}
use Rattle.cluster.specs.Terms.{cells_of}
use Rattle.cluster.specs.TermsReading.{slots_of}
use Rattle.fields.proofs.RecordField.{refusal-some}
use Rattle.cell_rows.proofs.CellLayouts.{length-cells_of}
use Rattle.cluster_reading.specs.RecordClusterReading.{read_cluster}
use Rattle.cluster_record.specs.RecordClusterAnswer.{ReadCluster, cluster_answer}
use Rattle.cluster_record.proofs.Answers.{short_answer, short_former, long_answer, accepted_former, refused-former}
use Rattle.cluster_record.proofs.read_cluster.Goals as goal

pub returns-then-former-lt-CELLS : goal.returns-then-former-lt-CELLS
unfolding cluster_answer slots_of
returns-then-former-lt-CELLS c =
    let a = c.args in
    let h = c.if-former-lt-CELLS.true in
    (sym (short_answer a.bytes.now a.former.now h), sym (short_former a.bytes.now a.former.now h))

pub returns-in_err-c : goal.returns-in_err-c
unfolding cluster_answer
returns-in_err-c c =
    let a = c.args in
    let p = err_from_is_err_and c.from_residual.result c.from_residual.ensures.1 in
    let e = c.in_err-c.ensures.0 in
    rw (p.1, p.2) (
      e ∙ sym (long_answer a.bytes.now a.former.now c.if-former-lt-CELLS.false),
      sym (refused-former a.bytes.now a.former.now c.if-former-lt-CELLS.false
          (λ z. omega (arith, refusal-some c.in_err-c.field-0.0.refusal, ap (λ (r : ReadCluster). r.refusal) e, z))),
    )

pub returns : goal.returns
unfolding cluster_answer
returns c =
    let a = c.args in
    let e = c.in_ok-c.ensures.0 in (
      e ∙ sym (long_answer a.bytes.now a.former.now c.if-former-lt-CELLS.false),
      c.copy.ensures
          ∙ (ap (λ (l : List ℕ). l ++ drop (length l) a.former.now) (c.in_ok-c.ensures.1 refl)
          ∙ (ap (λ (n : ℕ). cells_of (read_cluster a.bytes.now).former ++ drop n a.former.now) (length-cells_of (read_cluster a.bytes.now).former)
          ∙ sym (accepted_former a.bytes.now a.former.now c.if-former-lt-CELLS.false (sym (ap (λ (r : ReadCluster). r.refusal) e))))),
    )
