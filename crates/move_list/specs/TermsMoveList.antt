-- What the list of moves and its count answer (2026-07): the refusals in their order, the number of steps, the lent cells; and what the list owes its
-- callers where power goes.
-- Assumes nothing.
use Rattle.std.specs.Prelude.{ℕ, ◌+◌, ◌*◌, ◌≤◌, ◌<◌, ◌≡◌, cond, List, Result, Ok, Err, ◌++◌, ltb, eqb, length, drop}
use Rattle.sums.specs.TermsSums.{every_to}
use Rattle.cluster.specs.Terms.{buffer_rows, row_cells, wide_row_cells, wide_cells, Topology, topology, partitions, Layout, row, sent, row_of, formed, rows_in}
use Rattle.cluster.specs.declared.Cluster.{Cluster}
use Rattle.layouts.specs.TermsCheck.{Checked, fault, or_else, check_of}
use Rattle.moves.specs.TermsMoves.{wide_rows_in, wide_cells_of, Move, moves_of, step_width, step_cells, held, KeptWhole, FitsSixteen, SourcesHold, sends}
use Rattle.cluster.specs.TermsRefusal.{number_of}
use Rattle.layouts.specs.declared.check.Fault.{Fault}

-- ---- the answers

-- What list and count answer: a refusal, 0 for none, its place, as check answers it, and the number of steps, 0 where it is refused.
pub record Listed : Type 0 where
  pub refusal : ℕ
  pub place : ℕ
  pub steps : ℕ

abbrev pub listed : ℕ → ℕ → ℕ → Listed
listed refusal place steps = record { refusal = refusal; place = place; steps = steps }

-- An answer as these numbers.
abbrev pub listed_as : Result ℕ Fault → Listed
listed_as (Ok steps) = listed 0 0 steps
listed_as (Err f) = listed (number_of f.refusal) f.place 0

-- "then one of the first P former rows not rising ids and zeros (5)"
unfoldable pub former_fault : Topology → List ℕ → ℕ
former_fault t former = cond (every_to (partitions t) (λ p. formed (row_of wide_row_cells former p))) 0 5

-- "List and count refuse as check does at size 1, 8 also for a short former buffer, then .." the former rows.
unfoldable pub moves_fault : Cluster → List ℕ → List ℕ → Checked
moves_fault c former assignment =
    cond (ltb (length former) wide_cells) (fault 8 0) (or_else (check_of c assignment 1) (fault (former_fault (topology c) former) 0))

-- The two layouts in lent cells: the former one in rows of sixteen, the new one in rows of eight.
abbrev pub former_in : Cluster → List ℕ → Layout
former_in c former = wide_rows_in (partitions (topology c)) former

abbrev pub new_in : Cluster → List ℕ → Layout
new_in c assignment = rows_in (partitions (topology c)) assignment

-- The moves from the one to the other.
abbrev pub moves_in : Cluster → List ℕ → List ℕ → List Move
moves_in c former assignment = moves_of (topology c) (former_in c former) (new_in c assignment)

-- "The number of steps must be known beforehand from the same three without making the list"; 0 where it is refused.
unfoldable pub count_moves : Cluster → List ℕ → List ℕ → Listed
count_moves c former assignment =
    let f = moves_fault c former assignment in
    cond (eqb f.refusal 0) (listed 0 0 (length (moves_in c former assignment))) (listed f.refusal f.place 0)

-- "then, the list only, a buffer too short for the steps (8)", where the buffer has `room` cells.
unfoldable pub list_moves : Cluster → List ℕ → List ℕ → ℕ → Listed
list_moves c former assignment room =
    let n = count_moves c former assignment in
    cond (ltb room (step_width * n.steps)) (listed 8 0 0) n

-- "a refused list leaves its buffer unwritten, a made one the cells past its steps"
unfoldable pub cells_listed : Cluster → List ℕ → List ℕ → List ℕ → List ℕ
cells_listed c former assignment cells =
    let n = list_moves c former assignment (length cells) in
    cond (eqb n.refusal 0)
    (step_cells (topology c) (former_in c former) (moves_in c former assignment) ++ drop (step_width * n.steps) cells) cells

-- ---- what is owed

-- What is held after k steps, in rows of sixteen cells.
abbrev pub held_cells : Cluster → List ℕ → List ℕ → ℕ → List ℕ
held_cells c former assignment k = wide_cells_of (held (topology c) (former_in c former) (new_in c assignment) k)

-- The moves that are left after k steps.
abbrev pub moves_left : Cluster → List ℕ → List ℕ → ℕ → List Move
moves_left c former assignment k = drop k (moves_in c former assignment)

-- The two calls made afresh after k steps, with `again` as the former layout: neither is refused, the list in no buffer that has room for the steps that
-- were left; these are its steps, their sources excepted; it ends in the new layout, and after j of its steps what is held is what the first list would
-- have come to. The sixteen suffice again.
pub record MadeAfresh (c : Cluster) (former assignment : List ℕ) (k : ℕ) (again : List ℕ) : Type 0 where
  pub counted : count_moves c again assignment ≡ listed 0 0 (length (moves_left c former assignment k))
  pub accepted : (room : ℕ) → step_width * length (moves_left c former assignment k) ≤ room
      → list_moves c again assignment room ≡ listed 0 0 (length (moves_left c former assignment k))
  pub written : (cells : List ℕ) → step_width * length (moves_left c former assignment k) ≤ length cells
      → cells_listed c again assignment cells
      ≡ step_cells (topology c) (former_in c again) (moves_left c former assignment k) ++ drop (step_width * length (moves_left c former assignment k)) cells
  pub ends : (p : ℕ) → p < partitions (topology c)
      → held (topology c) (former_in c again) (new_in c assignment) (length (moves_left c former assignment k)) p ≡ row (new_in c assignment) p
  pub onward : (j p : ℕ) → p < partitions (topology c)
      → held (topology c) (former_in c again) (new_in c assignment) j p ≡ held (topology c) (former_in c former) (new_in c assignment) (k + j) p
  pub fits : FitsSixteen (topology c) (former_in c again) (new_in c assignment)

-- What holds of every list that is not refused.
pub record MovesOwed (c : Cluster) (former assignment : List ℕ) : Type 0 where
  -- "Each partition then has all its surviving former copies or all its new ones"
  pub whole : KeptWhole (topology c) (former_in c former) (new_in c assignment)
  -- and at the end the new layout is held.
  pub ends : (p : ℕ) → p < partitions (topology c)
      → held (topology c) (former_in c former) (new_in c assignment) (length (moves_in c former assignment)) p ≡ row (new_in c assignment) p
  -- "where no partition's surviving and new ids together pass sixteen, a list made afresh from what is held .. has the same steps that were left"
  pub resumes : FitsSixteen (topology c) (former_in c former) (new_in c assignment)
      → (k : ℕ) (rest : List ℕ) → MadeAfresh c former assignment k (held_cells c former assignment k ++ rest)
  -- No send is from a node that has no copy.
  pub sources : SourcesHold (topology c) (former_in c former) (new_in c assignment)
  -- There are as many sends as 2026-01 counts.
  pub sending : sends (moves_in c former assignment) ≡ sent (topology c) (new_in c assignment) (former_in c former)
  -- 24 steps for each of 256 partitions always suffice.
  pub few : length (moves_in c former assignment) ≤ buffer_rows * (wide_row_cells + row_cells)
