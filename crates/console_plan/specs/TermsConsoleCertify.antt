-- What the C function of certificates answers, leaves in its lent cells and owes, for all bytes, numbers and lengths.
-- Assumes nothing.
use Rattle.std.specs.Prelude.{ℕ, ◌+◌, ◌≤◌, ◌≡◌, List, [], ◌∷◌, ◌++◌}
use Rattle.cluster.specs.Terms.{most_nodes, topology}
use Rattle.cluster_record.specs.RecordClusterAnswer.{ReadCluster}
use Rattle.layouts.specs.TermsCheck.{check_of}
use Rattle.certificate.specs.TermsCertify.{former_in as former_rows_of, new_in, Certified, unpriced, certified_of, Owed}
use Rattle.answers.specs.TermsAnswers.{halves, after_reading, reading}
use Rattle.console_plan.specs.TermsConsolePlan.{former_in}

-- "byte; place; the price of each slot"
abbrev pub certify_cells : ℕ
certify_cells = 3 + most_nodes

-- `former` are the cells of the former layout.
unfoldable pub certified_read : ReadCluster → List ℕ → List ℕ → ℕ → Certified
certified_read r former assignment size = after_reading r (unpriced r.refusal 0) (certified_of r.cluster former assignment size)

abbrev pub certify_numbers : ReadCluster → Certified → List ℕ
certify_numbers r p = halves r.byte ++ (p.place ∷ []) ++ p.prices

-- What is owed to a call whose record is read, whose assignment check passes at the size and whose cells are enough.
abbrev pub CertifyOwed : List ℕ → List ℕ → ℕ → ℕ → Type 0
CertifyOwed s assignment size answer =
    (reading s).refusal ≡ 0 → let c = (reading s).cluster in (check_of c assignment size).refusal ≡ 0 → certify_cells ≤ answer
    → Owed (topology c) (former_rows_of c (former_in s)) (new_in c assignment) size (certified_read (reading s) (former_in s) assignment size)
