-- What certify owes through C: a record that is read leaves it nothing to refuse but what check refuses; and the cells of its answer.
-- Assumes nothing.
use Prim.Native.Nat.{ℕ, ◌+◌}
use mathlib.Core.Path.{◌≡◌, ap, ◌∙◌, subst}
use mathlib.Core.List.{List, [], ◌∷◌, ◌++◌}
use native.Mathlib.Omega.{arith}
use lib.ListN.{length, take, drop}
use lib.Seq.{drop-drop}
use Rattle.cluster.specs.Terms.{most_nodes, layout_cells, scratch_cells, topology}
use Rattle.planner.proofs.Refusals.{usable-has}
use Rattle.certificate.specs.TermsCertify.{certify_fault, former_in as former_rows_of, new_in, Certified, Owed}
use Rattle.certificate.proofs.Owing.{pass_all}
use Rattle.answers.specs.TermsAnswers.{halves, reading}
use Rattle.console_plan.specs.TermsConsolePlan.{former_in}
use Rattle.console_plan.specs.TermsConsoleCertify.{certify_cells, certified_read, CertifyOwed}
use Rattle.console_plan.proofs.PlanAnswers.{record_usable}

module _ (s assignment : List ℕ) (size : ℕ) where
  -- What certify owes of the reading and the cells of its former layout.
  abbrev Owes : Certified → Type 0
  Owes made =
      let r = reading s in
      r.refusal ≡ 0 → (certify_fault r.cluster (former_in s) assignment size).refusal ≡ 0
      → Owed (topology r.cluster) (former_rows_of r.cluster (former_in s)) (new_in r.cluster assignment) size made

  pub certify_owed : (made : Certified) → made ≡ certified_read (reading s) (former_in s) assignment size → Owes made → (n : ℕ) → CertifyOwed s assignment size n
  certify_owed made m owes n e passed enough =
      let u = usable-has (reading s).cluster (former_in s) layout_cells scratch_cells (record_usable s layout_cells scratch_cells e (omega arith) (omega arith)) in
      subst (λ (x : Certified). Owes x) m owes e (pass_all (reading s).cluster (former_in s) assignment size u.former_long passed u.rows-formed)

-- The cells of the answer, once the prices stand after the other numbers.
pub numbers-written : (lent : List ℕ) (byte : ℕ) (p : Certified) (cells : List ℕ) → length p.prices ≡ most_nodes
    → cells ≡ halves byte ++ (p.place ∷ []) ++ drop 3 lent
    → take 3 cells ++ p.prices ++ drop (3 + length p.prices) cells ≡ (halves byte ++ (p.place ∷ []) ++ p.prices) ++ drop certify_cells lent
numbers-written lent byte p cells l e =
    (λ i. take 3 (e i) ++ p.prices ++ drop (3 + l i) (e i))
    ∙ ap (λ (x : List ℕ). halves byte ++ (p.place ∷ []) ++ p.prices ++ x) (drop-drop most_nodes 3 lent)
