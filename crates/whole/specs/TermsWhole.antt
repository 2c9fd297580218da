-- The numbers of a plan as its layout record has them, what it means that a plan stays, and the moves that it asks for.
-- Assumes nothing.
use Rattle.std.specs.Prelude.{ℕ, ◌≡◌, true, List, ◌++◌, take, drop}
use Rattle.sums.specs.TermsSums.{one_if}
use Rattle.cluster.specs.Terms.{layout_cells, topology, partitions, row, rows_in}
use Rattle.cluster.specs.declared.Cluster.{Cluster}
use Rattle.planner.specs.TermsPlan.{Planned}
use Rattle.layout_head.specs.declared.Numbers.{Numbers}
use Rattle.layouts.specs.TermsCheck.{fault}
use Rattle.moves.specs.TermsMoves.{wide_cells_of, FitsSixteen, sends}
use Rattle.move_list.specs.TermsMoveList.{moves_fault, former_in, new_in, moves_in}

-- "1, 2, then 6 size, 7 sent, 8 verdict (1: 1 finished, 0 stopped), 9 improvements": bits and replication are the cluster's, the others are
-- what planning answers.
abbrev pub plan_numbers : Cluster → Planned → Numbers
plan_numbers c r = record {
  bits = c.bits;
  replication = c.replication;
  size = r.size;
  sent = r.sent;
  verdict = one_if r.finished;
  improvements = r.improvements;
}

-- A plan with the answer r and these cells stays: planned again it has this answer, and what is then in the lent cells is the same layout.
pub record Stays (r : Planned) (cells : List ℕ) (again : Planned) (lent held : List ℕ) : Type 0 where
  pub refusal : again.refusal ≡ 0
  pub size : again.size ≡ r.size
  pub sent : again.sent ≡ 0
  pub finished : again.finished ≡ true
  pub same : held ≡ take layout_cells cells ++ drop layout_cells lent

-- The former layout of a plan as the list of moves takes it: the same rows, each in sixteen cells.
abbrev pub widened : Cluster → List ℕ → List ℕ
widened c former = wide_cells_of (row (rows_in (partitions (topology c)) former))

-- The moves from the former layout of a plan to its layout: neither list nor count is refused, as many copies are sent as planning answered, and
-- 2026-07: "no partition's surviving and new ids together pass sixteen".
pub record PlanMoves (c : Cluster) (wide cells : List ℕ) (sent : ℕ) : Type 0 where
  pub accepted : moves_fault c wide cells ≡ fault 0 0
  pub sending : sends (moves_in c wide cells) ≡ sent
  pub fits : FitsSixteen (topology c) (former_in c wide) (new_in c cells)
