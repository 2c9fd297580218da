-- The run of improvements of rows of masks, until there is none or the allowance is spent. Nobody has to believe this file: the theorem of
-- crates/planning/proofs/Demands.antt says in the paper's terms what it achieves.
-- Assumes nothing.
use Rattle.std.specs.Prelude.{ℕ, List}
use Rattle.exchange.specs.ModelUncross.{walk}
use Rattle.steps.specs.ModelSteps.{State, improves_in, next_in}
use Rattle.allowances.specs.ModelRun.{Ran, run}

-- Rows at the beginning of a run, with a walk that has no arcs.
abbrev pub begun : List ℕ → State
begun rows = record { rows = rows; last = walk 0 (λ t. 0) (λ t. 0) }

module _ (former : List ℕ) (P : ℕ) (mates caps : List ℕ) (n z : ℕ) where
  -- Where the run from the rows ends with an allowance of improvements.
  unfoldable pub ran_in : ℕ → List ℕ → Ran State
  ran_in allowance rows = run (improves_in former P mates caps n z) (next_in former P mates caps n z) allowance (begun rows)
