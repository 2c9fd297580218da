-- What the C functions of the list of moves answer and what they leave in every lent slice, for all bytes, numbers and lengths.
-- Assumes nothing.
use Rattle.std.specs.Prelude.{ℕ, List, [], ◌∷◌, ◌++◌, length}
use Rattle.cluster_record.specs.RecordClusterAnswer.{ReadCluster}
use Rattle.move_list.specs.TermsMoveList.{Listed, listed, count_moves, list_moves, cells_listed}
use Rattle.answers.specs.TermsAnswers.{halves, after_reading}

abbrev pub moves_cells : ℕ
moves_cells = 4

unfoldable pub counted_of : ReadCluster → List ℕ → List ℕ → Listed
counted_of r former assignment = after_reading r (listed r.refusal 0 0) (count_moves r.cluster former assignment)

unfoldable pub listed_of : ReadCluster → List ℕ → List ℕ → List ℕ → Listed
listed_of r former assignment moves = after_reading r (listed r.refusal 0 0) (list_moves r.cluster former assignment (length moves))

unfoldable pub moves_left : ReadCluster → List ℕ → List ℕ → List ℕ → List ℕ
moves_left r former assignment moves = after_reading r moves (cells_listed r.cluster former assignment moves)

-- "byte; place; steps"
abbrev pub moves_numbers : ReadCluster → Listed → List ℕ
moves_numbers r f = halves r.byte ++ (f.place ∷ f.steps ∷ [])
