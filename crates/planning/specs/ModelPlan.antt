-- The run of planning over row masks: the walk that was turned last, where it stands again in the rows, else the cycle found in the graph of the
-- rows; the exchanges of that walk; until there is none or the allowance is spent; and, where there is none, the first of the layouts that are as near.
-- Nobody has to believe this file: the theorem of proofs/Demands.antt says in the paper's terms what it achieves.
-- Assumes nothing.
use Rattle.std.specs.Prelude.{ℕ, ◌-◌, ◌*◌, Bool, cond, List, ◌++◌, drop, replicate}
use Rattle.sets.specs.ModelBits.{bits_at, mask_of}
use Rattle.sums.specs.TermsSums.{tab}
use Rattle.exchange.specs.ModelRow.{weigh}
use Rattle.ties.specs.ModelOrder.{first_of}
use Rattle.cluster.specs.Terms.{buffer_rows, Topology, partitions, Layout}
use Rattle.incidence.specs.ModelIncidence.{zone_index, cap_at, incidence, layout_of, zone_cells}
use Rattle.sizing.specs.ModelSizing.{nodes_of, mate_cells, cap_cells, size_of, dealt_rows}
use Rattle.agreement.specs.ModelAgreement.{agreement_in}
use Rattle.steps.specs.ModelSteps.{State, improves_in, next_in}
use Rattle.allowances.specs.ModelRun.{Ran, run}
use Rattle.improve.specs.ModelImprove.{begun, ran_in}
use Rattle.planning.specs.Demand.{Answer}

-- ---- the plan of a topology

-- The nodes of each node's zone.
abbrev pub mates_of : Topology → List ℕ
mates_of t = mate_cells (zone_cells t) (nodes_of t)

-- The former rows, cut to the nodes of the cluster.
unfoldable pub former_masks : Topology → Layout → List ℕ
former_masks t F = tab (λ p. mask_of (incidence t F p) (nodes_of t)) (partitions t) ++ drop (partitions t) (replicate buffer_rows 0)

-- The rows dealt at a size.
abbrev pub dealt_at : Topology → ℕ → List ℕ
dealt_at t s = dealt_rows t s (replicate buffer_rows 0)

-- The rows of the beginning.
unfoldable pub start_rows : Topology → List ℕ
start_rows t = dealt_at t (size_of t)

-- The layout that rows stand for.
unfoldable pub layout_rows : Topology → List ℕ → Layout
layout_rows t rows = layout_of t (bits_at rows)

-- What the layout of the rows sends: all its copies but those that the former layout has.
unfoldable pub sent_rows : Topology → Layout → List ℕ → ℕ
sent_rows t F rows = t.replication * partitions t - agreement_in rows (former_masks t F) (partitions t)

-- The same of a state of the run.
abbrev pub sent_at : Topology → Layout → State → ℕ
sent_at t F s = sent_rows t F s.rows

abbrev pub improves_at : Topology → Layout → State → Bool
improves_at t F = improves_in (former_masks t F) (partitions t) (mates_of t) (cap_cells t (size_of t)) (nodes_of t) t.redundancy

abbrev pub next_at : Topology → Layout → State → State
next_at t F = next_in (former_masks t F) (partitions t) (mates_of t) (cap_cells t (size_of t)) (nodes_of t) t.redundancy

-- Where the run with an allowance ends, from any first rows within the caps of a size, `before` the former rows as masks.
unfoldable pub ran_from : Topology → ℕ → List ℕ → List ℕ → ℕ → Ran State
ran_from t s before rows a = ran_in before (partitions t) (mates_of t) (cap_cells t s) (nodes_of t) t.redundancy a rows

-- ---- the answer

-- The first of the layouts within the caps of a size that share as many copies with the former rows `before` as these rows do, as 0/1 rows.
unfoldable pub first_bits : Topology → ℕ → List ℕ → List ℕ → ℕ → ℕ → ℕ
first_bits t s before rows =
    first_of (partitions t) (nodes_of t) t.replication t.redundancy (zone_index t) (cap_at t s) (bits_at before)
    (weigh (partitions t) (nodes_of t) (bits_at before) (bits_at rows))

-- The 0/1 rows that are answered where a run has reached these rows: where it finished, the first that share as much.
unfoldable pub answer_bits : Topology → ℕ → List ℕ → Bool → List ℕ → ℕ → ℕ → ℕ
answer_bits t s before finished rows = cond finished (first_bits t s before rows) (bits_at rows)

-- Their layout, at the cluster's size.
unfoldable pub answer_layout : Topology → Layout → Bool → State → Layout
answer_layout t F finished s = layout_of t (answer_bits t (size_of t) (former_masks t F) finished s.rows)

module _ {A : Type 0} (improves : A → Bool) (next : A → A) (lay : Bool → A → Layout) (sends : A → ℕ) (s : ℕ) (start : A) where
  -- How the run with an allowance ended.
  abbrev pub ended : ℕ → Ran A
  ended a = run improves next a start

  -- The state that it reached.
  abbrev pub reached : ℕ → A
  reached a = (ended a).state

  -- The answer with an allowance, s the size, `lay` the layout that is answered where a run finished, or did not, in a state, and `sends` the copies
  -- that a state sends.
  abbrev pub answer_at : ℕ → Answer
  answer_at a = record { layout = lay (ended a).finished (reached a); size = s; sent = sends (reached a); finished = (ended a).finished; improvements = (ended a).steps }

-- The answer of planning from any first rows.
unfoldable pub plan_from : Topology → Layout → List ℕ → ℕ → Answer
plan_from t F rows = answer_at (improves_at t F) (next_at t F) (answer_layout t F) (sent_at t F) (size_of t) (begun rows)

-- The answer of planning, of the nodes in use, the first P former rows and the allowance alone: the run from the beginning.
unfoldable pub plan_of : Topology → Layout → ℕ → Answer
plan_of t F = plan_from t F (start_rows t)
