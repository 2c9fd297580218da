-- What the C function of planning answers, leaves in every lent slice and owes, for all bytes, numbers and lengths.
-- Assumes nothing.
use Rattle.std.specs.Prelude.{ℕ, ◌≤◌, ◌≡◌, List, [], ◌∷◌, ◌++◌, replicate, Result, Ok, Err}
use Rattle.sums.specs.TermsSums.{one_if}
use Rattle.cluster.specs.Terms.{layout_cells, scratch_cells, topology, partitions, rows_in}
use Rattle.cluster.specs.declared.refusal.Refusal.{Refusal}
use Rattle.cluster_record.specs.RecordClusterAnswer.{ReadCluster, former_read}
use Rattle.planner.specs.TermsPlan.{Planned, refused_with, planned_of, assignment_after, scratch_after, Owed}
use Rattle.answers.specs.declared.stopped.Stopped.{Stopped}
use Rattle.answers.specs.TermsAnswers.{halves, after_reading, reading}

-- The cells of the former layout that the reading leaves.
unfoldable pub former_in : List ℕ → List ℕ
former_in s = former_read s (replicate layout_cells 0)

-- The answer of planning, without the byte of a reading; no refusal of planning has a place.
abbrev pub refusal_in : {A : Type 0} → Result A Stopped → Result A Refusal
refusal_in (Ok v) = Ok v
refusal_in (Err s) = Err s.refusal

abbrev pub plan_cells : ℕ
plan_cells = 6

-- `former` are the cells of the former layout; of assignment and scratch only the lengths matter.
unfoldable pub planned : ReadCluster → List ℕ → ℕ → ℕ → ℕ → Planned
planned r former allowance assignment scratch =
    after_reading r (refused_with r.refusal) (planned_of r.cluster former allowance assignment scratch)

-- "assignment and scratch as planning lays down; kept when reading refuses"
unfoldable pub planned_assignment : ReadCluster → List ℕ → ℕ → List ℕ → ℕ → List ℕ
planned_assignment r former allowance assignment scratch =
    after_reading r assignment (assignment_after r.cluster former allowance assignment scratch)

unfoldable pub planned_scratch : ReadCluster → List ℕ → ℕ → List ℕ → List ℕ
planned_scratch r former assignment scratch = after_reading r scratch (scratch_after r.cluster former assignment scratch)

-- "byte; size; sent; verdict; improvements"; the verdict is 1 for finished, else 0.
abbrev pub planned_numbers : ReadCluster → Planned → List ℕ
planned_numbers r p = halves r.byte ++ (p.size ∷ p.sent ∷ one_if p.finished ∷ p.improvements ∷ [])

-- What is owed to a call whose record is read and whose slices are long enough, of the cluster and the former layout that the record carries: 9
-- exactly where no layout is valid at size 1, and demand 3.
abbrev pub PlanOwed : List ℕ → ℕ → ℕ → ℕ → ℕ → Type 0
PlanOwed s assignment scratch answer refusal =
    (reading s).refusal ≡ 0 → layout_cells ≤ assignment → scratch_cells ≤ scratch → plan_cells ≤ answer
    → let t = topology (reading s).cluster in Owed t (rows_in (partitions t) (former_in s)) refusal
