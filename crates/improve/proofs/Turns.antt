-- What the functions of the run rest on, over plain lists and numbers: a run of one improvement more, and the run's turns.
-- Assumes nothing.
use Prim.Native.Nat.{ℕ, zero, suc, ◌+◌, ◌-◌, ◌≤◌, ◌<◌}
use mathlib.Core.Path.{◌≡◌, refl, sym, ap, ◌∙◌, subst}
use mathlib.Core.Bool.{Bool, true, false, not, cond}
use mathlib.Core.List.{List}
use mathlib.Core.Logic.{⊎_elim}
use native.Mathlib.Omega.{arith}
use native.Mathlib.Numerals.{add-one}
use native.Mathlib.Nat.{sub-zero}
use lib.Dec.{eqb, ltb}
use lib.ListN.{get_or, replicate}
use borrow.Author.Tests.{lt-ltb, le-ltb, eq-eqb, ne_eqb}
use Rattle.sums.proofs.Sum.{lt_or_ge}
use Rattle.exchange.specs.ModelUncross.{Walk, Same}
use Rattle.cycles.specs.ModelFound.{walk_cells}
use Rattle.walks.specs.ModelWalks.{walk_in}
use Rattle.allowances.specs.ModelRun.{Ran, later, after, run}
use Rattle.steps.specs.ModelSteps.{State, improves_in, next_in, stepped_in}
use Rattle.improve.specs.ModelImprove.{begun, ran_in}
use Rattle.steps.proofs.Steps.{Holds, look_improves, look_keeps, step-improves, step-next, step-none}

later-none : {A : Type 0} (r : Ran A) → r ≡ later 0 r
later-none r = λ i. record { state = r.state; finished = r.finished; steps = zero_steps r.steps i }
  where
    zero_steps : (n : ℕ) → n ≡ 0 + n
    zero_steps n = omega arith

module _ {A : Type 0} (improves : A → Bool) (next : A → A) where
  -- One improvement more is the last one.
  after_next : (i : ℕ) (s : A) → after improves next (i + 1) s ≡ next (after improves next i s)
  unfolding after
  after_next zero s = refl
  after_next (suc i) s =
      ap (λ (k : ℕ). after improves next k s) (add-one (suc i))
      ∙ (ap (λ (k : ℕ). after improves next k (next s)) (sym (add-one i)) ∙ after_next i (next s))

  -- While the allowance lasts, an improvement goes on, and its lack ends the run.
  pub run_on : (a i : ℕ) (s : A) → i < a → improves s ≡ true
      → later i (run improves next (a - i) s) ≡ later (i + 1) (run improves next (a - (i + 1)) (next s))
  unfolding run
  run_on a i s l e =
      let q : a - i ≡ suc (a - (i + 1)) = omega arith in
      ap (λ (n : ℕ). later i (run improves next n s)) q
      ∙ (ap (λ (b : Bool). later i (cond b (later 1 (run improves next (a - (i + 1)) (next s))) (record { state = s; finished = true; steps = 0 }))) e
      ∙ added (run improves next (a - (i + 1)) (next s)))
    where
      added : (r : Ran A) → later i (later 1 r) ≡ later (i + 1) r
      added r = λ k. record { state = r.state; finished = r.finished; steps = plus r.steps k }
        where
          plus : (n : ℕ) → i + (1 + n) ≡ i + 1 + n
          plus n = omega arith

  pub run-over : (a i : ℕ) (s : A) → i < a → improves s ≡ false
      → later i (run improves next (a - i) s) ≡ record { state = s; finished = true; steps = i }
  unfolding run
  run-over a i s l e =
      let q : a - i ≡ suc (a - (i + 1)) = omega arith in
      ap (λ (n : ℕ). later i (run improves next n s)) q
      ∙ (ap (λ (b : Bool). later i (cond b (later 1 (run improves next (a - (i + 1)) (next s))) (record { state = s; finished = true; steps = 0 }))) e
      ∙ (λ k. record { state = s; finished = true; steps = none k }))
    where
      none : i + 0 ≡ i
      none = omega arith

  pub run_spent : (a i : ℕ) (s : A) → a ≤ i → later i (run improves next (a - i) s) ≡ record { state = s; finished = not (improves s); steps = i }
  unfolding run
  run_spent a i s l =
      let q : a - i ≡ 0 = omega arith in
      ap (λ (n : ℕ). later i (run improves next n s)) q ∙ (λ k. record { state = s; finished = not (improves s); steps = none k })
    where
      none : i + 0 ≡ i
      none = omega arith

-- Blank cells are a walk without arcs.
pub blank-walk : (start : List ℕ) → Same (begun start).last (walk_in 0 (replicate walk_cells 0) (replicate walk_cells 0))
blank-walk start =
    record {
      lens = refl;
      nodes = λ t l. let e : 0 ≡ t = omega arith in ap (λ (k : ℕ). get_or (replicate walk_cells 0) k 0) e;
      partitions = λ t l. absurd (omega arith);
    }

module _ (former : List ℕ) (P : ℕ) (mates caps : List ℕ) (n z : ℕ) where
  -- The turns of the run, each told by what a step answered and left.
  module _ (a : ℕ) (start : List ℕ) where
    abbrev ran : Ran State
    ran = ran_in former P mates caps n z a start

    -- The state after i improvements.
    abbrev reached : ℕ → State
    reached i = after (improves_in former P mates caps n z) (next_in former P mates caps n z) i (begun start)

    -- Cells in which i improvements were made, and from which the run goes on.
    pub record At (i : ℕ) (rows : List ℕ) (w : Walk) : Type 0 where
      pub goes : ran ≡ later i (run (improves_in former P mates caps n z) (next_in former P mates caps n z) (a - i) (reached i))
      pub holds : Holds (reached i) rows w

    -- The run stopped at the rows with its allowance spent.
    abbrev pub Stopped : List ℕ → Type 0
    Stopped rows = (rows ≡ ran.state.rows) × (false ≡ ran.finished) × (a ≡ ran.steps)

    pub run_begins : (w : Walk) → Same (begun start).last w → At 0 start w
    unfolding ran_in after
    run_begins w s =
        record {
          goes = later-none ran ∙ ap (λ (k : ℕ). later 0 (run (improves_in former P mates caps n z) (next_in former P mates caps n z) k (begun start))) (sym (sub-zero a));
          holds = record { rows_are = refl; last-is = s };
        }

    module _ (i : ℕ) (rows : List ℕ) (w : Walk) (h : At i rows w) (new : List ℕ) (u : Walk) where
      -- A walk was turned: the run goes on.
      run-next : i < a → new ≡ (stepped_in former P mates caps n z true rows w).rows → Same (stepped_in former P mates caps n z true rows w).last u
          → (u.len ≡ 0 → ⊥) → At (i + 1) new u
      run-next l e t some =
          record {
            goes = h.goes
                ∙ (run_on (improves_in former P mates caps n z) (next_in former P mates caps n z) a i (reached i) l
                (step-improves former P mates caps n z (reached i) rows w h.holds new u t ∙ ap not (ne_eqb u.len 0 some))
                ∙ ap (λ (s : State). later (i + 1) (run (improves_in former P mates caps n z) (next_in former P mates caps n z) (a - (i + 1)) s)) (sym reached-next));
            holds = subst (λ (s : State). Holds s new u) (sym reached-next) (step-next former P mates caps n z (reached i) rows w h.holds new u e t);
          }
        where
          reached-next : reached (i + 1) ≡ next_in former P mates caps n z (reached i)
          reached-next = after_next (improves_in former P mates caps n z) (next_in former P mates caps n z) i (begun start)

      -- There was none: the run is over.
      run_done : i < a → new ≡ (stepped_in former P mates caps n z true rows w).rows → Same (stepped_in former P mates caps n z true rows w).last u
          → u.len ≡ 0 → (new ≡ ran.state.rows) × (true ≡ ran.finished) × (i ≡ ran.steps)
      run_done l e t none =
          let f = step-improves former P mates caps n z (reached i) rows w h.holds new u t ∙ ap not (eq-eqb u.len 0 none) in
          let q = h.goes ∙ run-over (improves_in former P mates caps n z) (next_in former P mates caps n z) a i (reached i) l f in (
            step-none former P mates caps n z (reached i) rows w h.holds new u e f ∙ sym (ap (λ (r : Ran State). r.state.rows) q),
            sym (ap (λ (r : Ran State). r.finished) q),
            sym (ap (λ (r : Ran State). r.steps) q),
          )

      -- The allowance is spent: the last step only looks.
      run_stops : a ≤ i → new ≡ (stepped_in former P mates caps n z false rows w).rows → Same (stepped_in former P mates caps n z false rows w).last u
          → (new ≡ ran.state.rows) × (eqb u.len 0 ≡ ran.finished) × (i ≡ ran.steps)
      run_stops l e t =
          let q = h.goes ∙ run_spent (improves_in former P mates caps n z) (next_in former P mates caps n z) a i (reached i) l in (
            look_keeps former P mates caps n z (reached i) rows w h.holds new u e ∙ sym (ap (λ (r : Ran State). r.state.rows) q),
            sym (ap (λ (r : Ran State). r.finished) q ∙ (ap not (look_improves former P mates caps n z (reached i) rows w h.holds new u t) ∙ not_not (eqb u.len 0))),
            sym (ap (λ (r : Ran State). r.steps) q),
          )
        where
          not_not : (b : Bool) → not (not b) ≡ b
          not_not true = refl
          not_not false = refl

      module _ (l : i ≤ a) (e : new ≡ (stepped_in former P mates caps n z (ltb i a) rows w).rows) (t : Same (stepped_in former P mates caps n z (ltb i a) rows w).last u) where
        made : (b : Bool) → ltb i a ≡ b → (new ≡ (stepped_in former P mates caps n z b rows w).rows) × Same (stepped_in former P mates caps n z b rows w).last u
        made b q = (
          e ∙ ap (λ (x : Bool). (stepped_in former P mates caps n z x rows w).rows) q,
          subst (λ (x : Bool). Same (stepped_in former P mates caps n z x rows w).last u) q t,
        )

        -- Where no walk was left, the run has finished.
        pub run_finished : u.len ≡ 0 → (new ≡ ran.state.rows) × (true ≡ ran.finished) × (i ≡ ran.steps)
        run_finished none =
            ⊎_elim (λ h. let m = made true (lt-ltb i a h) in run_done h m.0 m.1 none)
            (λ h. let m = made false (le-ltb i a h) in
            let s = run_stops h m.0 m.1 in (s.0, sym (eq-eqb u.len 0 none) ∙ s.1, s.2)) (lt_or_ge i a)

        -- Where there was one, the run goes on, unless its allowance is spent.
        pub run_goes : (u.len ≡ 0 → ⊥) → (i + 1 ≤ a → At (i + 1) new u) × (a < i + 1 → Stopped new)
        run_goes some = (
          λ h. let m = made true (lt-ltb i a (omega (arith, h))) in run-next (omega (arith, h)) m.0 m.1 some,
          λ h. let g : a ≤ i = omega (arith, h) in
              let m = made false (le-ltb i a g) in
              let s = run_stops g m.0 m.1 in
              let d : a ≡ i = omega (arith, g, l) in (s.0, sym (ne_eqb u.len 0 some) ∙ s.1, d ∙ s.2),
        )
