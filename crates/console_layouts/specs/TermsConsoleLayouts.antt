-- What the C functions over a layout in hand answer and what they leave in every lent slice, for all bytes, numbers and lengths.
-- Assumes nothing.
use Rattle.std.specs.Prelude.{ℕ, cond, List, [], ◌∷◌, ◌++◌, eqb, drop}
use Rattle.cluster.specs.Terms.{row_cells, row_at}
use Rattle.cluster_record.specs.RecordClusterAnswer.{ReadCluster}
use Rattle.layouts.specs.TermsCheck.{Checked, fault, check_of}
use Rattle.figures.specs.TermsFigures.{Figured, figures_of, figures_in}
use Rattle.show.specs.TermsShow.{show_code}
use Rattle.answers.specs.TermsAnswers.{halves, unless_short, after_reading}

-- ---- check and figures

abbrev pub check_cells : ℕ
check_cells = 3

unfoldable pub checked : ReadCluster → List ℕ → ℕ → Checked
checked r assignment size = after_reading r (fault r.refusal 0) (check_of r.cluster assignment size)

-- "byte; place"
abbrev pub check_numbers : ReadCluster → Checked → List ℕ
check_numbers r f = halves r.byte ++ (f.place ∷ [])

abbrev pub figured_cells : ℕ
figured_cells = 5

unfoldable pub figured : ReadCluster → List ℕ → ℕ → List ℕ → Figured
figured r assignment size figures =
    after_reading r (record { refusal = r.refusal; place = 0; hope = 0 }) (figures_of r.cluster assignment size figures)

unfoldable pub figures_left : ReadCluster → List ℕ → ℕ → List ℕ → List ℕ
figures_left r assignment size figures = after_reading r figures (figures_in r.cluster assignment size figures)

-- "byte; place; the size to hope for"
abbrev pub figured_numbers : ReadCluster → Figured → List ℕ
figured_numbers r f = halves r.byte ++ (f.place ∷ halves f.hope)

-- ---- showing a row

unfoldable pub row_refusal : List ℕ → ℕ → List ℕ → ℕ
row_refusal assignment p row = unless_short row_cells row 8 (show_code assignment p)

-- "takes the row's eight cells; refused, row keeps what was lent"
unfoldable pub row_after : List ℕ → ℕ → List ℕ → List ℕ
row_after assignment p row = cond (eqb (row_refusal assignment p row) 0) (row_at assignment p ++ drop row_cells row) row
