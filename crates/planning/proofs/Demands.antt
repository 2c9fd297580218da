-- Demand 3 of the planner, and what refusal 9 means: the theorems that a customer reads. Their statements are in the terms of document 01 and requests 2026-01
-- and 2026-03.
-- Assumes nothing.
use Prim.Native.Nat.{ℕ, suc, ◌+◌, ◌≤◌}
use mathlib.Core.Path.{◌≡◌, sym, ◌∙◌, subst}
use mathlib.Core.Bool.{true, false}
use mathlib.Core.List.{List}
use native.Mathlib.Omega.{arith}
use native.Mathlib.Nat.{le_antisymm}
use Rattle.cluster.specs.Terms.{Topology, Layout, ValidAt, IsSize, IsFormer, sent}
use Rattle.cluster.specs.TermsFirst.{First}
use Rattle.cluster.proofs.Ordering.{one-first}
use Rattle.cluster.specs.TermsReading.{Accepted, Fits32}
use Rattle.incidence.proofs.TieLayouts.{valid_of_within}
use Rattle.sizing.specs.ModelSizing.{size_of}
use Rattle.sizing.proofs.Sizes.{size_none, none-size, size-largest}
use Rattle.improve.specs.ModelImprove.{begun}
use Rattle.planning.specs.Demand.{Answer, Rules, Demand3}
use Rattle.planning.specs.ModelPlan.{plan_from, plan_of, start_rows, layout_rows, answer_bits, answer_layout, sent_at, improves_at, next_at}
use Rattle.sets.specs.ModelBits.{bits_at}
use Rattle.planning.proofs.Rules.{rules}
use Rattle.planning.proofs.Distances.{in_distance}
use Rattle.planning.proofs.Grounds.{GoodRows, GoodAt, start_good}
use Rattle.planning.proofs.Machines.{machine}

-- From any good first rows the answers of planning obey the rules of planning by allowance, with the layout of these rows as the beginning.
pub rules-from : (t : Topology) → Accepted t → Fits32 t → 1 ≤ size_of t → (F : Layout) (start : List ℕ) → GoodRows t start
    → Rules t (layout_rows t start) F (plan_from t F start)
unfolding plan_from layout_rows answer_layout answer_bits
rules-from t a low large F start g =
    rules t F (size_of t) (improves_at t F) (next_at t F) (answer_layout t F) (sent_at t F) (begun start) (GoodAt t a F) (machine t a F low large start g)

-- Demand 3: whatever the former layout and the allowance, the answers of planning obey the rules of planning by allowance.
pub demand3 : (t : Topology) → Accepted t → Fits32 t → (L : Layout) → ValidAt t L 1 → Demand3 t (plan_of t)
unfolding plan_of layout_rows
demand3 t a low L v =
    record {
      beginning = layout_rows t (start_rows t);
      beginning_valid = begins_valid;
      rules = λ F fo. rules_of F;
      distances = λ F fo. in_distance t (layout_rows t (start_rows t)) F (plan_from t F (start_rows t)) begins_valid fo (rules_of F);
    }
  where
    large : 1 ≤ size_of t
    large = size-largest t a low L 1 v

    good : GoodRows t (start_rows t)
    good = start_good t a large

    valid : ValidAt t (layout_rows t (start_rows t)) (size_of t)
    valid = unfold layout_rows in valid_of_within t a.ids (bits_at (start_rows t)) (size_of t) large good.within

    begins_valid : (s : ℕ) → IsSize t s → ValidAt t (layout_rows t (start_rows t)) s
    begins_valid s h =
        subst (λ (k : ℕ). ValidAt t (layout_rows t (start_rows t)) k)
        (le_antisymm (h.largest (layout_rows t (start_rows t)) (size_of t) valid) (size-largest t a low h.reached.0 s h.reached.1)) valid

    rules_of : (F : Layout) → Rules t (layout_rows t (start_rows t)) F (plan_from t F (start_rows t))
    rules_of F = rules-from t a low large F (start_rows t) good

-- A stopped answer is never the nearest: one more improvement reaches a layout valid at the size that sends at least one copy less.
pub stopped_nearer : (t : Topology) → Accepted t → Fits32 t → (L : Layout) → ValidAt t L 1 → (F : Layout) → IsFormer t F → (n : ℕ)
    → (plan_of t F n).finished ≡ false → (M : Layout) × (ValidAt t M (plan_of t F n).size × (sent t M F + 1 ≤ (plan_of t F n).sent))
unfolding plan_of plan_from
stopped_nearer t a low L v F fo n e =
    let r = (demand3 t a low L v).rules F fo in
    ((plan_of t F (suc n)).layout, (r.valid (suc n), omega (arith, r.measured (suc n), (r.stopped n e).lower)))

-- The layout of a finished run is the first of the nearest.
pub finished_first : (t : Topology) (B F : Layout) (plan : ℕ → Answer) → Rules t B F plan → (a : ℕ) → (plan a).finished ≡ true
    → First t F (plan a).size (plan a).layout
finished_first t B F plan r a e =
    let f = r.finished a e in
    record {
      valid = r.valid a;
      nearest = λ M v. omega (arith, f.nearest M v, r.measured a);
      first = λ M v q. f.first M v (q ∙ sym (r.measured a));
    }

-- "Always the same layout among equals": whatever obeys the rules, from whatever beginning, a finished run answers the same layout.
pub one-layout : (t : Topology) (B C F : Layout) (plan other : ℕ → Answer) → Rules t B F plan → Rules t C F other → (a b : ℕ) → (plan a).finished ≡ true
    → (other b).finished ≡ true → (plan a).layout ≡ (other b).layout
one-layout t B C F plan other r u a b e f =
    one-first t F (plan a).size (plan a).layout (other b).layout (finished_first t B F plan r a e)
    (subst (λ (s : ℕ). First t F s (other b).layout)
    (le_antisymm ((r.size a).largest (u.size b).reached.0 (other b).size (u.size b).reached.1)
    ((u.size b).largest (r.size a).reached.0 (plan a).size (r.size a).reached.1))
    (finished_first t C F other u b f))

-- Demand 2: the size that planning finds is 0 exactly when no layout is valid at size 1.
pub no-layout : (t : Topology) → Accepted t → (size_of t ≡ 0 → (L : Layout) → ValidAt t L 1 → ⊥) × (((L : Layout) → ValidAt t L 1 → ⊥) → size_of t ≡ 0)
no-layout t a = (size_none t a, none-size t a)
