-- What the C functions of losses answer and what they leave in every lent slice, for all bytes, numbers and lengths.
-- Assumes nothing.
use Rattle.std.specs.Prelude.{ℕ, List, [], ◌∷◌, ◌++◌, get_or}
use Rattle.cluster_record.specs.RecordClusterAnswer.{ReadCluster}
use Rattle.loss.specs.TermsLossAnswer.{Loss, loss, worst_loss, Lost, lost_with, given_loss}
use Rattle.answers.specs.TermsAnswers.{halves, after_reading}

-- ---- of so many nodes

abbrev pub worst_cells : ℕ
worst_cells = 8

unfoldable pub worst_found : ReadCluster → List ℕ → ℕ → Loss
worst_found r assignment number = after_reading r (loss r.refusal 0 0 []) (worst_loss r.cluster assignment number)

-- "byte; place; lost; the ids of the nodes, rising, then zeros"
abbrev pub worst_numbers : ReadCluster → Loss → List ℕ
worst_numbers r f =
    halves r.byte ++ (f.place ∷ f.lost ∷ get_or f.nodes 0 0 ∷ get_or f.nodes 1 0 ∷ get_or f.nodes 2 0 ∷ get_or f.nodes 3 0 ∷ [])

-- ---- of given nodes

abbrev pub given_cells : ℕ
given_cells = 4

unfoldable pub given_found : ReadCluster → List ℕ → List ℕ → Lost
given_found r assignment nodes = after_reading r (lost_with r.refusal 0 0) (given_loss r.cluster assignment nodes)

-- "byte; place; lost"
abbrev pub given_numbers : ReadCluster → Lost → List ℕ
given_numbers r f = halves r.byte ++ (f.place ∷ f.lost ∷ [])
