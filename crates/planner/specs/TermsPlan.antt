-- What planning refuses, answers, leaves in lent buffers and owes. `size_of` and `plan_of` are a model's: `Owed` says what they achieve.
-- Assumes nothing.
use Rattle.std.specs.Prelude.{ℕ, ◌≡◌, Bool, false, Result, Ok, Err, ◌||◌, cond, List, ◌++◌, ltb, eqb, length, drop, replicate}
use Rattle.sums.specs.TermsSums.{every_to}
use Rattle.cluster.specs.Terms.{layout_cells, scratch_cells, Topology, topology, partitions, Layout, ValidAt, IsFormer, row_at, formed, rows_in, cells_of, fault_of}
use Rattle.cluster.specs.declared.Cluster.{Cluster}
use Rattle.sizing.specs.ModelSizing.{size_of}
use Rattle.planning.specs.Demand.{Answer, Demand3}
use Rattle.planning.specs.ModelPlan.{plan_of}
use Rattle.cluster.specs.TermsRefusal.{number_of}
use Rattle.cluster.specs.declared.refusal.Refusal.{Refusal}
use Rattle.planner.specs.declared.settle.Plan.{Plan}

-- What planning answers: the refusal, 0 for none, and the numbers of the plan, 0 where it is refused.
pub record Planned : Type 0 where
  pub refusal : ℕ
  pub size : ℕ
  pub sent : ℕ
  pub finished : Bool
  pub improvements : ℕ

-- "8: any buffer too short. 6: more than 32 boxes. 4: bits, replication, redundancy or an id out of range. 5: ids not rising, or one of the
-- first P former rows not rising ids followed by zeros."
unfoldable pub unusable : Cluster → List ℕ → ℕ → ℕ → ℕ
unusable c former assignment scratch =
    cond (ltb (length former) layout_cells || ltb assignment layout_cells || ltb scratch scratch_cells) 8
    (cond (eqb (fault_of c) 0) (cond (every_to (partitions (topology c)) (λ p. formed (row_at former p))) 0 5) (fault_of c))

-- "9: no layout is valid at size 1", where nothing else is refused.
unfoldable pub plan_refusal : Cluster → List ℕ → ℕ → ℕ → ℕ
plan_refusal c former assignment scratch =
    cond (eqb (unusable c former assignment scratch) 0) (cond (eqb (size_of (topology c)) 0) 9 0) (unusable c former assignment scratch)

-- The plan of a cluster that has a layout, with the former layout that the first P rows of lent cells are.
abbrev pub plan_in : Cluster → List ℕ → ℕ → Answer
plan_in c former a = plan_of (topology c) (rows_in (partitions (topology c)) former) a

-- "every number for which nothing is laid down here is 0"
abbrev pub refused_with : ℕ → Planned
refused_with n = record { refusal = n; size = 0; sent = 0; finished = false; improvements = 0 }

abbrev pub answered : Answer → Planned
answered x = record { refusal = 0; size = x.size; sent = x.sent; finished = x.finished; improvements = x.improvements }

-- An answer as these numbers.
abbrev pub planned_as : Result Plan Refusal → Planned
planned_as (Ok p) = record { refusal = 0; size = p.size; sent = p.sent; finished = p.finished; improvements = p.improvements }
planned_as (Err refusal) = refused_with (number_of refusal)

-- What planning answers, for every cluster, former layout, allowance and length of the other buffers.
unfoldable pub planned_of : Cluster → List ℕ → ℕ → ℕ → ℕ → Planned
planned_of c former a assignment scratch =
    cond (eqb (plan_refusal c former assignment scratch) 0) (answered (plan_in c former a)) (refused_with (plan_refusal c former assignment scratch))

-- "On success .. planning [sets] all 2,048 assignment cells. On refusal these cells keep what was lent"; cells beyond are never touched.
unfoldable pub assignment_after : Cluster → List ℕ → ℕ → List ℕ → ℕ → List ℕ
assignment_after c former a assignment scratch =
    cond (eqb (plan_refusal c former (length assignment) scratch) 0) (cells_of (plan_in c former a).layout ++ drop layout_cells assignment) assignment

-- "Planning zeroes scratch on success and on refusal 9; on any other refusal scratch keeps what was lent."
unfoldable pub scratch_after : Cluster → List ℕ → ℕ → List ℕ → List ℕ
scratch_after c former assignment scratch =
    cond (eqb (unusable c former assignment (length scratch)) 0) (replicate scratch_cells 0 ++ drop scratch_cells scratch) scratch

-- What is owed to a call without other fault, of the cluster t and the former layout F of this very call.
pub record Owed (t : Topology) (F : Layout) (refusal : ℕ) : Type 0 where
  -- "'No layout' (refusal 9) is answered to a planning call without other fault just when no valid layout of size 1 exists"
  pub nine : refusal ≡ 9 → (L : Layout) → ValidAt t L 1 → ⊥
  pub none : ((L : Layout) → ValidAt t L 1 → ⊥) → refusal ≡ 9
  -- Demand 3, "whatever the former layout", and F is one of which it speaks.
  pub nearest : (L : Layout) → ValidAt t L 1 → Demand3 t (plan_of t)
  pub former : IsFormer t F
