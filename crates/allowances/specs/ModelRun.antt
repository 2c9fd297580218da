-- A run of improvements by allowance, over any state: while the allowance lasts and the state can be improved, it is.
-- Assumes nothing.
use Rattle.std.specs.Prelude.{ℕ, zero, suc, ◌+◌, Bool, true, not, cond}

-- Where a run ended: its state, whether nothing is left to improve, and how many improvements were made.
pub record Ran (A : Type 0) : Type 0 where
  pub state : A
  pub finished : Bool
  pub steps : ℕ

-- The same end, with i improvements made before.
abbrev pub later : {A : Type 0} → ℕ → Ran A → Ran A
later i r = record { state = r.state; finished = r.finished; steps = i + r.steps }

module _ {A : Type 0} (improves : A → Bool) (next : A → A) where
  -- The state after n improvements, whether there is still one or not.
  unfoldable pub after : ℕ → A → A
  after zero s = s
  after (suc n) s = after n (next s)

  -- The run from a state with an allowance of improvements.
  unfoldable pub run : ℕ → A → Ran A
  run zero s = record { state = s; finished = not (improves s); steps = 0 }
  run (suc a) s = cond (improves s) (later 1 (run a (next s))) (record { state = s; finished = true; steps = 0 })
