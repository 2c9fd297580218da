-- The three ends of a planning call, over plain lists and numbers: refused, no layout, planned. Each gives the answer, the lent buffers and
-- what is owed, as the contract has them.
-- Assumes nothing.
use Prim.Native.Nat.{ℕ, ◌+◌, ◌-◌, ◌≤◌}
use mathlib.Core.Path.{◌≡◌, sym, ap, ◌∙◌}
use mathlib.Core.Bool.{Bool, false, cond}
use mathlib.Core.List.{List, ◌++◌}
use native.Mathlib.Omega.{arith}
use lib.Dec.{eqb}
use lib.ListN.{length, drop, replicate}
use lib.Seq.{drop-append-add, drop-drop}
use borrow.Author.Tests.{eq-eqb, ne_eqb}
use Rattle.cluster.specs.Terms.{layout_cells, scratch_cells, topology, partitions, IsFormer, cells_of, rows_in, fault_of}
use Rattle.cluster.specs.declared.Cluster.{Cluster}
use Rattle.cluster.proofs.Accepting.{accepted}
use Rattle.cluster.specs.TermsReading.{Fits32}
use Rattle.unions.specs.ModelUnions.{kept_cells}
use Rattle.sizing.specs.ModelSizing.{size_of, size_in}
use Rattle.sizing.proofs.Reading.{size_in_lem}
use Rattle.planner.specs.TermsPlan.{Planned, unusable, plan_refusal, plan_in, refused_with, answered, planned_of, assignment_after, scratch_after, Owed}
use Rattle.planner.proofs.Refusals.{usable-has, lent-former}
use Rattle.planning.proofs.Demands.{demand3, no-layout}

-- The cells beyond the first k of a list, which were lent and come back.
part_beyond : (k n : ℕ) (xs ys : List ℕ) → length ys ≡ k → k ≤ n → drop n (ys ++ drop k xs) ≡ drop n xs
part_beyond k n xs ys e l =
    let t : n ≡ length ys + (n - k) = omega arith in
    let u : k + (n - k) ≡ n = omega arith in
    ap (λ (i : ℕ). drop i (ys ++ drop k xs)) t ∙ (drop-append-add ys (drop k xs) (n - k) ∙ (drop-drop (n - k) k xs ∙ ap (λ (i : ℕ). drop i xs) u))

module _ (c : Cluster) (former : List ℕ) (allowance : ℕ) (assignment scratch : List ℕ) where
  abbrev a : ℕ
  a = length assignment

  abbrev s : ℕ
  s = length scratch

  -- What a call with this answer and these buffers at its end has to meet.
  abbrev Ends : Planned → List ℕ → List ℕ → Type 0
  Ends r cells rest =
      (r ≡ planned_of c former allowance a s) × (cells ≡ assignment_after c former allowance assignment s) × (rest ≡ scratch_after c former a scratch)
      × (unusable c former a s ≡ 0 → Owed (topology c) (rows_in (partitions (topology c)) former) r.refusal)

  -- The answer and the assignment with a refusal.
  with-refusal : (n : ℕ) → plan_refusal c former a s ≡ n → (n ≡ 0 → ⊥) → (refused_with n ≡ planned_of c former allowance a s) × (assignment ≡ assignment_after c former allowance assignment s)
  unfolding planned_of assignment_after
  with-refusal n e some = (
    sym (ap (λ (b : Bool). cond b (answered (plan_in c former allowance)) (refused_with (plan_refusal c former a s))) test ∙ ap refused_with e),
    sym (ap (λ (b : Bool). cond b (cells_of (plan_in c former allowance).layout ++ drop layout_cells assignment) assignment) test),
  )
    where
      test : eqb (plan_refusal c former a s) 0 ≡ false
      test = ne_eqb (plan_refusal c former a s) 0 (λ z. some (sym e ∙ z))

  -- Something but the lack of a layout is refused: the buffers are kept.
  pub refused_ends : (u : ℕ) → u ≡ unusable c former a s → (u ≡ 0 → ⊥) → (r : Planned) → r ≡ refused_with u → Ends r assignment scratch
  unfolding plan_refusal scratch_after
  refused_ends u e some r q = (
    q ∙ (ap refused_with e ∙ w.0),
    w.1,
    sym (ap (λ (b : Bool). cond b (replicate scratch_cells 0 ++ drop scratch_cells scratch) scratch) test),
    λ z. absurd (not_zero z),
  )
    where
      not_zero : unusable c former a s ≡ 0 → ⊥
      not_zero z = some (e ∙ z)

      test : eqb (unusable c former a s) 0 ≡ false
      test = ne_eqb (unusable c former a s) 0 not_zero

      w : (refused_with (unusable c former a s) ≡ planned_of c former allowance a s) × (assignment ≡ assignment_after c former allowance assignment s)
      w =
          with-refusal (unusable c former a s)
          (ap (λ (b : Bool). cond b (cond (eqb (size_of (topology c)) 0) 9 0) (unusable c former a s)) test) not_zero

  module _ (u : unusable c former a s ≡ 0) where
    faultless : fault_of c ≡ 0
    faultless = (usable-has c former a s u).faultless

    lent : IsFormer (topology c) (rows_in (partitions (topology c)) former)
    lent = lent-former c former a s (usable-has c former a s u)

    none_or_nine : plan_refusal c former a s ≡ cond (eqb (size_of (topology c)) 0) 9 0
    unfolding plan_refusal
    none_or_nine = ap (λ (b : Bool). cond b (cond (eqb (size_of (topology c)) 0) 9 0) (unusable c former a s)) (eq-eqb (unusable c former a s) 0 u)

    cleared : (rest : List ℕ) → rest ≡ replicate scratch_cells 0 ++ drop scratch_cells scratch → rest ≡ scratch_after c former a scratch
    unfolding scratch_after
    cleared rest e = e ∙ sym (ap (λ (b : Bool). cond b (replicate scratch_cells 0 ++ drop scratch_cells scratch) scratch) (eq-eqb (unusable c former a s) 0 u))

    -- No layout is valid at size 1.
    pub none_ends : (size : ℕ) → size ≡ size_in c → size ≡ 0 → (rest : List ℕ) → rest ≡ replicate scratch_cells 0 ++ drop scratch_cells scratch
        → (r : Planned) → r ≡ refused_with 9 → Ends r assignment rest
    none_ends size e z rest er r q =
        let none : size_of (topology c) ≡ 0 = sym (size_in_lem c faultless) ∙ (sym e ∙ z) in
        let w =
        with-refusal 9 (none_or_nine ∙ ap (λ (b : Bool). cond b 9 0) (eq-eqb (size_of (topology c)) 0 none)) (λ x. absurd (omega arith)) in
        let empty = (no-layout (topology c) (accepted c faultless)).0 none in (
          q ∙ w.0,
          w.1,
          cleared rest er,
          λ v. record { nine = λ x. empty; none = λ x. ap (λ (p : Planned). p.refusal) q; nearest = λ L x. absurd (empty L x); former = lent },
        )

    -- The plan is made, with a part of the scratch lent to the run.
    pub planned_ends : (size : ℕ) → size ≡ size_in c → (size ≡ 0 → ⊥)
        → (kept : List ℕ) → length kept ≡ kept_cells → (rest : List ℕ) → rest ≡ replicate scratch_cells 0 ++ drop scratch_cells (kept ++ drop kept_cells scratch)
        → (r : Planned) → r ≡ answered (plan_in c former allowance) → (cells : List ℕ)
        → cells ≡ cells_of (plan_in c former allowance).layout ++ drop layout_cells assignment → Fits32 (topology c) → Ends r cells rest
    unfolding planned_of assignment_after
    planned_ends size e some kept l rest er r q cells ec low =
        let large : size_of (topology c) ≡ 0 → ⊥ = λ z. some (e ∙ (size_in_lem c faultless ∙ z)) in
        let no-refusal : plan_refusal c former a s ≡ 0 = none_or_nine ∙ ap (λ (b : Bool). cond b 9 0) (ne_eqb (size_of (topology c)) 0 large) in
        let test = eq-eqb (plan_refusal c former a s) 0 no-refusal in
        let zero : r.refusal ≡ 0 = ap (λ (p : Planned). p.refusal) q in (
          q ∙ sym (ap (λ (b : Bool). cond b (answered (plan_in c former allowance)) (refused_with (plan_refusal c former a s))) test),
          ec ∙ sym (ap (λ (b : Bool). cond b (cells_of (plan_in c former allowance).layout ++ drop layout_cells assignment) assignment) test),
          cleared rest (er ∙ ap (λ (beyond : List ℕ). replicate scratch_cells 0 ++ beyond) (part_beyond kept_cells scratch_cells scratch kept l (omega arith))),
          λ v. record {
            nine = λ x. absurd (omega (arith, zero, x));
            none = λ x. absurd (large ((no-layout (topology c) (accepted c faultless)).1 x));
            nearest = demand3 (topology c) (accepted c faultless) low;
            former = lent;
          },
        )

  -- What settling asks for.
  pub settle_asks : unusable c former a s ≡ 0 → (size : ℕ) → size ≡ size_in c → size ≡ size_of (topology c)
  settle_asks u size e = e ∙ size_in_lem c (faultless u)
