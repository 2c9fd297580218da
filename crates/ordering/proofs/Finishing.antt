-- From the end of a run to rows in which no cycle is found, which are ordered.
-- Assumes nothing.
use Prim.Native.Nat.{ℕ}
use mathlib.Core.Path.{◌≡◌, sym, ap, ◌∙◌, subst}
use mathlib.Core.Bool.{true}
use mathlib.Core.List.{List}
use Rattle.sets.specs.ModelBits.{bits_at}
use Rattle.exchange.specs.ModelRow.{weigh}
use Rattle.exchange.proofs.Agreeing.{SameLayout}
use Rattle.ties.specs.ModelOrder.{first_of}
use Rattle.steps.specs.ModelSteps.{cycle_in, improves_in, next_in}
use Rattle.improve.specs.ModelImprove.{begun, ran_in}
use Rattle.allowances.proofs.Runs.{finished_done}
use Rattle.improve.proofs.Ground.{Ground, Good, sought-none, run_good}

module _ (P N R Z : ℕ) (zone cap : ℕ → ℕ) (former mates caps : List ℕ) where
  -- In the rows that a finished run ends with no cycle is found.
  finished_none : (G : Ground P N R Z zone cap former mates caps) (start : List ℕ) → Good P N R Z zone cap start → (a : ℕ)
      → (ran_in former P mates caps N Z a start).finished ≡ true → cycle_in former P mates caps N Z (ran_in former P mates caps N Z a start).state.rows ≡ 0
  unfolding ran_in
  finished_none G start g a f =
      sought-none G (ran_in former P mates caps N Z a start).state (run_good G start g a)
      (finished_done (improves_in former P mates caps N Z) (next_in former P mates caps N Z) (begun start) a f)

  -- So what orders rows in which no cycle is found makes those of a finished run the first.
  pub run-first : Ground P N R Z zone cap former mates caps → (start : List ℕ) → Good P N R Z zone cap start → (a : ℕ)
      → (ran_in former P mates caps N Z a start).finished ≡ true → (rows new : List ℕ) → rows ≡ (ran_in former P mates caps N Z a start).state.rows
      → (Good P N R Z zone cap rows → cycle_in former P mates caps N Z rows ≡ 0
      → Good P N R Z zone cap new × SameLayout P N (bits_at new) (first_of P N R Z zone cap (bits_at former) (weigh P N (bits_at former) (bits_at rows))))
      → Good P N R Z zone cap new
      × SameLayout P N (bits_at new)
      (first_of P N R Z zone cap (bits_at former) (weigh P N (bits_at former) (bits_at (ran_in former P mates caps N Z a start).state.rows)))
  run-first G start g a f rows new e orders =
      subst
      (λ (x : List ℕ). Good P N R Z zone cap new
      × SameLayout P N (bits_at new) (first_of P N R Z zone cap (bits_at former) (weigh P N (bits_at former) (bits_at x))))
      e
      (orders (subst (Good P N R Z zone cap) (sym e) (run_good G start g a).good) (ap (cycle_in former P mates caps N Z) e ∙ finished_none G start g a f))
