-- What a run of improvements is, whatever is improved: its steps, its verdict, and that allowances past the least finishing one change nothing.
-- Assumes nothing.
use Prim.Native.Nat.{ℕ, zero, suc, ◌+◌, ◌≤◌, ◌<◌}
use mathlib.Core.Path.{◌≡◌, refl, sym, ap, ◌∙◌}
use mathlib.Core.Bool.{Bool, true, false, not, cond, false≢true}
use mathlib.Core.Logic.{⊎_elim}
use native.Mathlib.Omega.{arith}
use native.Mathlib.Numerals.{one-add}
use Rattle.sums.proofs.Sum.{lt_or_ge}
use Rattle.sums.proofs.Tests.{true_or_false}
use Rattle.allowances.specs.ModelRun.{Ran, later, after, run}

-- A test is not both true and false.
pub not_both : (b : Bool) → b ≡ true → b ≡ false → ⊥
not_both b p q = let z : ◌≡◌ {A = ℕ} 0 1 = cc in omega arith

module _ {A : Type 0} (improves : A → Bool) (next : A → A) where
  -- What holds of every run follows from the three ways it can go: no allowance, nothing to improve, an improvement and the run after it.
  run-rule : (Q : ℕ → A → Ran A → Type 0) → ((s : A) → Q 0 s (record { state = s; finished = not (improves s); steps = 0 }))
      → ((a : ℕ) (s : A) → improves s ≡ false → Q (suc a) s (record { state = s; finished = true; steps = 0 }))
      → ((a : ℕ) (s : A) → improves s ≡ true → Q a (next s) (run improves next a (next s)) → Q (suc a) s (later 1 (run improves next a (next s))))
      → (a : ℕ) (s : A) → Q a s (run improves next a s)
  unfolding run
  run-rule Q none over more zero s = none s
  run-rule Q none over more (suc a) s = go (run-rule Q none over more a (next s)) (improves s) refl
    where
      go : Q a (next s) (run improves next a (next s)) → (b : Bool) → improves s ≡ b
          → Q (suc a) s (cond b (later 1 (run improves next a (next s))) (record { state = s; finished = true; steps = 0 }))
      go h true e = more a s e h
      go h false e = over a s e

  -- A run with allowance a from the state s: it made `steps` improvements, all that were possible, unless the allowance was spent.
  pub record Run (a : ℕ) (s : A) (r : Ran A) : Type 0 where
    pub few : r.steps ≤ a
    pub there : r.state ≡ after improves next r.steps s
    pub before : (j : ℕ) → j < r.steps → improves (after improves next j s) ≡ true
    pub verdict : r.finished ≡ not (improves r.state)
    pub early : r.steps < a → improves r.state ≡ false

  -- Every run is such a one.
  pub run_is : (a : ℕ) (s : A) → Run a s (run improves next a s)
  unfolding after
  run_is =
      run-rule Run
      (λ s. record { few = omega arith; there = refl; before = λ j l. absurd (omega arith); verdict = refl; early = λ l. absurd (omega arith) })
      (λ a s e. record { few = omega arith; there = refl; before = λ j l. absurd (omega arith); verdict = ap not (sym e); early = λ l. e }) more
    where
      first : (s : A) (n : ℕ) → improves s ≡ true → ((j : ℕ) → j < n → improves (after improves next j (next s)) ≡ true) → (j : ℕ) → j < 1 + n
          → improves (after improves next j s) ≡ true
      first s n can before zero l = can
      first s n can before (suc j) l = before j (omega arith)

      more : (a : ℕ) (s : A) → improves s ≡ true → Run a (next s) (run improves next a (next s)) → Run (suc a) s (later 1 (run improves next a (next s)))
      more a s can x =
          record {
            few = omega (arith, x.few);
            there = x.there ∙ ap (λ (n : ℕ). after improves next n s) (sym (one-add (run improves next a (next s)).steps));
            before = first s (run improves next a (next s)).steps can x.before;
            verdict = x.verdict;
            early = λ l. x.early (omega arith);
          }

  -- Without an allowance the state stays.
  pub run_none : (s : A) → run improves next 0 s ≡ record { state = s; finished = not (improves s); steps = 0 }
  unfolding run
  run_none s = refl

  module _ (Good : A → Type 0) (stays : (x : A) → Good x → improves x ≡ true → Good (next x)) where
    -- What improvements keep, a run keeps.
    pub run_keeps : (a : ℕ) (s : A) → Good s → Good (run improves next a s).state
    run_keeps = run-rule (λ a s r. Good s → Good r.state) (λ s g. g) (λ a s e g. g) (λ a s e h g. h (stays s g e))

    -- Where each improvement makes good states worth more, and none is worth more than `most`, an allowance of what is missing to it finishes.
    pub run_ends : (worth : A → ℕ) (most : ℕ) → ((x : A) → Good x → improves x ≡ true → worth x + 1 ≤ worth (next x))
        → ((x : A) → Good x → worth x ≤ most) → (a : ℕ) (s : A) → Good s → most ≤ worth s + a → (run improves next a s).finished ≡ true
    run_ends worth most gains few =
        run-rule (λ a s r. Good s → most ≤ worth s + a → r.finished ≡ true)
        (λ s g l.
        ⊎_elim (λ e. absurd (omega (arith, gains s g e, few (next s) (stays s g e)))) (λ e. ap not e) (true_or_false (improves s)))
        (λ a s e g l. refl) (λ a s e h g l. h (stays s g e) (omega (arith, gains s g e)))

  module _ (s : A) where
    pub stopped_improves : (a : ℕ) → (run improves next a s).finished ≡ false → improves (run improves next a s).state ≡ true
    stopped_improves a e =
        ⊎_elim (λ y. y) (λ n. absurd (not_both (run improves next a s).finished ((run_is a s).verdict ∙ ap not n) e))
        (true_or_false (improves (run improves next a s).state))

    pub finished_done : (a : ℕ) → (run improves next a s).finished ≡ true → improves (run improves next a s).state ≡ false
    finished_done a e =
        ⊎_elim (λ y. absurd (not_both (run improves next a s).finished e ((run_is a s).verdict ∙ ap not y))) (λ n. n)
        (true_or_false (improves (run improves next a s).state))

    -- A stopped run has spent its allowance.
    pub stopped_spent : (a : ℕ) → (run improves next a s).finished ≡ false → (run improves next a s).steps ≡ a
    stopped_spent a e =
        ⊎_elim (λ l. absurd (not_both (improves (run improves next a s).state) (stopped_improves a e) ((run_is a s).early l)))
        (λ g. omega (arith, (run_is a s).few)) (lt_or_ge (run improves next a s).steps a)

    -- Where a state that cannot be improved is reached first after m improvements, each allowance of m or more ends there.
    ends_at : (m a : ℕ) → improves (after improves next m s) ≡ false → ((j : ℕ) → j < m → improves (after improves next j s) ≡ true) → m ≤ a
        → (run improves next a s).steps ≡ m
    ends_at m a done before l =
        ⊎_elim
        (λ u. absurd (not_both (improves (after improves next (run improves next a s).steps s)) (before (run improves next a s).steps u)
        (ap improves (sym (run_is a s).there) ∙ (run_is a s).early (omega arith))))
        (λ v. ⊎_elim (λ w. absurd (not_both (improves (after improves next m s)) ((run_is a s).before m w) done)) (λ z. omega arith)
        (lt_or_ge m (run improves next a s).steps))
        (lt_or_ge (run improves next a s).steps m)

    same_run : (a b : ℕ) → (run improves next a s).steps ≡ (run improves next b s).steps → run improves next a s ≡ run improves next b s
    same_run a b e =
        let p : (run improves next a s).state ≡ (run improves next b s).state =
        (run_is a s).there ∙ (ap (λ (n : ℕ). after improves next n s) e ∙ sym (run_is b s).there) in
        let q : (run improves next a s).finished ≡ (run improves next b s).finished =
        (run_is a s).verdict ∙ (ap (λ (x : A). not (improves x)) p ∙ sym (run_is b s).verdict) in
        λ i. record { state = p i; finished = q i; steps = e i }

    module _ (a : ℕ) (e : (run improves next a s).finished ≡ true) where
      -- An allowance of at least the improvements of a finished run ends in the same way.
      pub finished_larger : (b : ℕ) → (run improves next a s).steps ≤ b → run improves next b s ≡ run improves next a s
      finished_larger b l =
          same_run b a
          (ends_at (run improves next a s).steps b (ap improves (sym (run_is a s).there) ∙ finished_done a e) (run_is a s).before l)

      -- Each allowance that finishes is at least the improvements of a finished run.
      pub finished_smallest : (b : ℕ) → (run improves next b s).finished ≡ true → (run improves next a s).steps ≤ b
      finished_smallest b f =
          ⊎_elim
          (λ l. absurd (not_both (improves (run improves next b s).state)
          (ap improves (run_is b s).there ∙ (run_is a s).before (run improves next b s).steps (omega (arith, (run_is b s).few)))
          (finished_done b f)))
          (λ g. g) (lt_or_ge b (run improves next a s).steps)

  -- After a stopped run an allowance one larger makes one improvement more.
  pub stopped_next : (a : ℕ) (s : A) → (run improves next a s).finished ≡ false → (run improves next (suc a) s).state ≡ next (run improves next a s).state
  unfolding run
  stopped_next =
      run-rule (λ a s r. r.finished ≡ false → (run improves next (suc a) s).state ≡ next r.state) (λ s f. rw (stopped_improves s 0 f))
      (λ a s e f. absurd (false≢true (sym f))) (λ a s e h f. rw e (h f))
