-- From a machine that improves layouts step by step to the rules of planning by allowance.
-- Assumes nothing.
use mathlib.Core.List.{[]}
use Prim.Native.Nat.{ℕ, suc, ◌+◌, ◌*◌, ◌≤◌, ◌<◌, min}
use mathlib.Core.Path.{◌≡◌, sym, ap, ◌∙◌, subst}
use mathlib.Core.Bool.{Bool, true, false, not}
use mathlib.Core.Logic.{◌⊎◌, ⊎_elim}
use native.Mathlib.Omega.{arith}
use lib.ListN.{length}
use Rattle.sums.proofs.Sum.{lt_or_ge}
use Rattle.cluster.specs.Terms.{Topology, partitions, Layout, row, ValidAt, IsSize, sent}
use Rattle.cluster.specs.TermsFirst.{Before}
use Rattle.allowances.specs.ModelRun.{Ran, run}
use Rattle.cluster.specs.TermsReading.{most_improvements}
use Rattle.planning.specs.Demand.{Answer, Rules}
use Rattle.planning.specs.ModelPlan.{reached, answer_at}
use Rattle.sums.proofs.Tests.{true_or_false}
use Rattle.allowances.proofs.Runs.{not_both, run_is, run_none, run_keeps, stopped_improves, finished_done, stopped_spent, finished_larger, finished_smallest, stopped_next}

module _ (t : Topology) (F : Layout) (s : ℕ) {A : Type 0} (improves : A → Bool) (next : A → A) (lay : Bool → A → Layout) (sends : A → ℕ) (start : A) (Good : A → Type 0) where
  -- States that stand for layouts valid at the size s: an improvement lowers what is sent, and where there is none, no layout sends less. The layout that
  -- a finished run answers is the first of those that send as much.
  pub record Machine : Type 0 where
    pub sized : IsSize t s
    pub starts : Good start
    pub stays : (x : A) → Good x → improves x ≡ true → Good (next x)
    pub valid : (finished : Bool) (x : A) → Good x → ValidAt t (lay finished x) s
    pub measured : (finished : Bool) (x : A) → Good x → sends x ≡ sent t (lay finished x) F
    pub first : (x : A) → Good x → (L : Layout) → ValidAt t L s → sent t L F ≡ sends x → (lay true x ≡ L) ⊎ Before (lay true x) L
    pub falls : (x : A) → Good x → improves x ≡ true → sends (next x) + 1 ≤ sends x
    pub bounded : (x : A) → Good x → improves x ≡ true → sends x ≤ sends (next x) + length t.nodes
    pub nearest : (x : A) → Good x → improves x ≡ false → (L : Layout) → ValidAt t L s → sends x ≤ sent t L F
    pub enough : (run improves next most_improvements start).finished ≡ true
    pub blank : ((p : ℕ) → p < partitions t → row F p ≡ []) → (improves start ≡ false) × (sends start ≡ t.replication * partitions t)

  abbrev plan : ℕ → Answer
  plan = answer_at improves next lay sends s start

  -- Each rule is proved of the answers by itself, so that an answer that breaks it is refused there.
  module _ (machine : Machine) where
    abbrev state : ℕ → A
    state = reached improves next lay sends s start

    -- All states that a run reaches are good.
    good : (a : ℕ) → Good (state a)
    good a = run_keeps improves next Good machine.stays _ start machine.starts

    begins : (plan 0).sent ≡ sent t (lay false start) F
    begins = ap (λ (r : Ran A). sends r.state) (run_none improves next start) ∙ machine.measured false start machine.starts

    -- ---- a stopped run: it can still be improved

    module _ (a : ℕ) (e : (plan a).finished ≡ false) where
      lower : (plan (suc a)).sent + 1 ≤ (plan a).sent
      lower =
          omega (
            arith,
            ap sends (stopped_next improves next a start (cc)),
            machine.falls (state a) (good a) (stopped_improves improves next start a (cc)),
          )

      spent : (plan a).improvements ≡ a
      spent = omega (arith, stopped_spent improves next start a (cc))

      bounded : (plan a).sent ≤ (plan (suc a)).sent + length t.nodes
      bounded =
          omega (
            arith,
            ap sends (stopped_next improves next a start (cc)),
            machine.bounded (state a) (good a) (stopped_improves improves next start a (cc)),
          )

    -- ---- a finished run

    steps_few : (a : ℕ) → (run improves next a start).steps ≤ a
    steps_few a = (run_is improves next a start).few

    module _ (a : ℕ) (e : (plan a).finished ≡ true) where
      nearest : (L : Layout) → ValidAt t L s → (plan a).sent ≤ sent t L F
      nearest = machine.nearest (state a) (good a) (finished_done improves next start a (cc))

      first : (L : Layout) → ValidAt t L s → sent t L F ≡ (plan a).sent → ((plan a).layout ≡ L) ⊎ Before (plan a).layout L
      first = subst (λ (f : Bool). (L : Layout) → ValidAt t L s → sent t L F ≡ (plan a).sent → (lay f (state a) ≡ L) ⊎ Before (lay f (state a)) L) (sym e)
          (machine.first (state a) (good a))

      smallest : (b : ℕ) → (plan b).finished ≡ true → (plan a).improvements ≤ b
      smallest b f = finished_smallest improves next start a (cc) b (cc)

      -- An allowance of at least its improvements ends in the same way.
      same : (b : ℕ) → (run improves next a start).steps ≤ b → plan b ≡ plan a
      same b l =
          let q = finished_larger improves next start a e b l in
          λ i. record { layout = lay (q i).finished (q i).state; size = s; sent = sends (q i).state; finished = (q i).finished; improvements = (q i).steps }

    -- ---- the rules

    counted : (a : ℕ) → (plan a).improvements ≡ min a (plan most_improvements).improvements
    counted a =
        ⊎_elim
        (λ e.
        let l = smallest a e most_improvements machine.enough in
        omega (arith, steps_few a, ap (λ (x : Answer). x.improvements) (same a e most_improvements l)))
        (λ e.
        ⊎_elim (λ l. omega (arith, spent a e))
        (λ g. absurd (not_both (plan a).finished (ap (λ (x : Answer). x.finished) (same most_improvements machine.enough a g) ∙ machine.enough) e))
        (lt_or_ge a (plan most_improvements).improvements))
        (true_or_false (plan a).finished)

    exactly : (a : ℕ) → ((L : Layout) → ValidAt t L s → (plan a).sent ≤ sent t L F) → (plan a).finished ≡ true
    exactly a h =
        ⊎_elim (λ e. e)
        (λ e. absurd (omega (arith, lower a e, machine.measured true (state (suc a)) (good (suc a)), h _ (machine.valid true (state (suc a)) (good (suc a))))))
        (true_or_false (plan a).finished)

    -- The rules hold of the answers of such a machine.
    pub rules : Rules t (lay false start) F plan
    rules =
        record {
          size = λ a. machine.sized;
          valid = λ a. machine.valid (plan a).finished (state a) (good a);
          measured = λ a. machine.measured (plan a).finished (state a) (good a);
          begins = begins;
          stopped = λ a e. record { spent = spent a e; lower = lower a e; bounded = bounded a e };
          finished = λ a e.
              record {
                nearest = nearest a e;
                first = first a e;
                finishes = ap (λ (x : Answer). x.finished) (same a e (plan a).improvements (omega arith)) ∙ e;
                smallest = smallest a e;
                larger = λ b l. same a e b (omega (arith, steps_few a));
              };
          exactly = exactly;
          counted = counted;
          enough = machine.enough;
          nothing_former = λ h.
              let b = machine.blank h in
              (ap (λ (r : Ran A). r.finished) (run_none improves next start) ∙ ap not b.0, begins ∙ (sym (machine.measured false start machine.starts) ∙ b.1));
        }
