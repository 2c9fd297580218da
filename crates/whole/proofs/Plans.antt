-- A plan that is made: where planning refuses nothing, its answer and its cells are those of a layout valid at the cluster's size, and its
-- numbers are in the ranges of a layout record.
-- Assumes nothing.
use Prim.Native.Nat.{ℕ, ◌*◌, ◌^◌, ◌≤◌, ◌<◌}
use mathlib.Core.Path.{◌≡◌, refl, sym, ap, ◌∙◌}
use mathlib.Core.Bool.{Bool, true, false, false≢true, cond}
use mathlib.Core.List.{List, [], ◌++◌}
use mathlib.Core.Logic.{⊎_elim}
use native.Mathlib.Omega.{arith}
use native.Mathlib.Nat.{le_antisymm, mul-le-mul, eq-zero-or-pos}
use lib.Dec.{eqb}
use lib.ListN.{length, drop, get_or, get_or-eq_default}
use borrow.Author.Tests.{eq-eqb, ne_eqb, eqb-true}
use Rattle.cluster.proofs.Accepting.{few_partitions}
use Rattle.sums.proofs.Sum.{lt_or_ge}
use Rattle.cluster.specs.Terms.{layout_cells, Topology, topology, partitions, node_at, Layout, row, ValidAt, IsSize, sent, cells_of}
use Rattle.cluster.specs.TermsReading.{most_sent, Accepted, Fits32}
use Rattle.incidence.specs.ModelIncidence.{layout_of}
use Rattle.cluster.specs.declared.Cluster.{Cluster}
use Rattle.cluster.proofs.Lists.{index_mem}
use Rattle.incidence.proofs.TieRows.{known_id}
use Rattle.incidence.proofs.TieSending.{sent_law}
use Rattle.sizing.specs.ModelSizing.{size_of, dealt_bits}
use Rattle.sizing.proofs.Sizes.{size_best, size-largest, beginning_valid}
use Rattle.planning.specs.Demand.{Demand3, Rules}
use Rattle.planning.specs.ModelPlan.{plan_of}
use Rattle.planner.specs.TermsPlan.{unusable, plan_refusal, plan_in, refused_with, answered, planned_of, assignment_after}
use Rattle.planner.proofs.Refusals.{Usable, usable-has}
use Rattle.planning.proofs.Demands.{demand3}

-- ---- refused or not

module _ (c : Cluster) (former : List ℕ) (a s : ℕ) where
  -- Nothing is refused where the call is usable and the cluster has a size.
  pub none-refused : unusable c former a s ≡ 0 → 1 ≤ size_of (topology c) → plan_refusal c former a s ≡ 0
  unfolding plan_refusal
  none-refused u l =
      ap (λ (b : Bool). cond b (cond (eqb (size_of (topology c)) 0) 9 0) (unusable c former a s)) (eq-eqb (unusable c former a s) 0 u)
      ∙ ap (λ (b : Bool). cond b 9 0) (ne_eqb (size_of (topology c)) 0 (λ e. omega arith))

  -- And where nothing is refused, both hold.
  pub usable_sized : plan_refusal c former a s ≡ 0 → Usable c former a s × (1 ≤ size_of (topology c))
  unfolding plan_refusal
  usable_sized e = go (eqb (unusable c former a s) 0) refl e
    where
      size : (b : Bool) → eqb (size_of (topology c)) 0 ≡ b → ◌≡◌ {A = ℕ} (cond b 9 0) 0 → 1 ≤ size_of (topology c)
      size true q h = absurd (omega arith)
      size false q h =
          ⊎_elim (λ z. absurd (false≢true (sym q ∙ eq-eqb (size_of (topology c)) 0 z))) (λ l. l) (eq-zero-or-pos (size_of (topology c)))

      go : (b : Bool) → eqb (unusable c former a s) 0 ≡ b
          → ◌≡◌ {A = ℕ} (cond b (cond (eqb (size_of (topology c)) 0) 9 0) (unusable c former a s)) 0
          → Usable c former a s × (1 ≤ size_of (topology c))
      go true q h = (usable-has c former a s (eqb-true (unusable c former a s) 0 q), size (eqb (size_of (topology c)) 0) refl h)
      go false q h = absurd (false≢true (sym q ∙ eq-eqb (unusable c former a s) 0 h))

  module _ (allowance : ℕ) where
    -- The answer tells whether planning refused.
    pub not_refused : (planned_of c former allowance a s).refusal ≡ 0 → plan_refusal c former a s ≡ 0
    unfolding planned_of
    not_refused e = go (eqb (plan_refusal c former a s) 0) refl e
      where
        go : (b : Bool) → eqb (plan_refusal c former a s) 0 ≡ b
            → (cond b (answered (plan_in c former allowance)) (refused_with (plan_refusal c former a s))).refusal ≡ 0 → plan_refusal c former a s ≡ 0
        go true q h = eqb-true (plan_refusal c former a s) 0 q
        go false q h = h

    -- Where it did not, the answer is that of the plan.
    pub plan-answered : plan_refusal c former a s ≡ 0 → planned_of c former allowance a s ≡ answered (plan_in c former allowance)
    unfolding planned_of
    plan-answered e =
        ap (λ (b : Bool). cond b (answered (plan_in c former allowance)) (refused_with (plan_refusal c former a s))) (eq-eqb (plan_refusal c former a s) 0 e)

-- And the cells are those of its layout.
pub plan_laid : (c : Cluster) (former : List ℕ) (allowance : ℕ) (assignment : List ℕ) (s : ℕ) → plan_refusal c former (length assignment) s ≡ 0
    → assignment_after c former allowance assignment s ≡ cells_of (plan_in c former allowance).layout ++ drop layout_cells assignment
unfolding assignment_after
plan_laid c former allowance assignment s e =
    ap (λ (b : Bool). cond b (cells_of (plan_in c former allowance).layout ++ drop layout_cells assignment) assignment)
    (eq-eqb (plan_refusal c former (length assignment) s) 0 e)

-- ---- the terms

-- A cluster has one size.
pub one_size : (t : Topology) (s s' : ℕ) → IsSize t s → IsSize t s' → s ≡ s'
one_size t s s' h k = le_antisymm (k.largest h.reached.0 s h.reached.1) (h.largest k.reached.0 s' k.reached.1)

module _ (t : Topology) (acc : Accepted t) where
  -- A size of capacities of 32 bits has 32 bits.
  pub size_below : Fits32 t → (s : ℕ) → IsSize t s → s < 2 ^ 32
  size_below low s h = omega (arith, size-largest t acc low h.reached.0 s h.reached.1, (size_best t acc).below)

  -- A valid layout sends no more than all its copies.
  pub sent-most : (L F : Layout) (s : ℕ) → ValidAt t L s → sent t L F ≤ t.replication * partitions t
  sent-most L F s v = omega (arith, sent_law t L F acc.ids v.rows)

  -- They are 2,048 at most.
  pub sent_few : (L F : Layout) (s : ℕ) → ValidAt t L s → sent t L F ≤ most_sent
  sent_few L F s v = omega (arith, sent-most L F s v, mul-le-mul acc.replication.1 (few_partitions t.bits acc.bits))

  -- The ids of a valid layout are those of nodes, and so have 32 bits where theirs have.
  pub valid_words : ((b : ℕ) → b < length t.nodes → (node_at t b).id < 2 ^ 32) → (L : Layout) (s : ℕ) → ValidAt t L s
      → (p j : ℕ) → get_or (row L p) j 0 < 2 ^ 32
  valid_words ids L s v p j =
      ⊎_elim
      (λ l. ⊎_elim
      (λ k. let m = (v.rows p l).known (get_or (row L p) j 0) (index_mem (row L p) j k) in
      let w = known_id t.nodes (get_or (row L p) j 0) m in
      omega (arith, ids w.0 w.1, w.2))
      (λ g. omega (arith, get_or-eq_default (row L p) 0 {n = j} g)) (lt_or_ge j (length (row L p))))
      (λ g. omega (arith, ap (λ (r : List ℕ). get_or r j 0) (get_or-eq_default L [] {n = p} (omega (arith, v.partition_rows)))))
      (lt_or_ge p (partitions t))

-- The rules of planning, of a cluster that has a size.
pub plan-rules : (t : Topology) → Accepted t → Fits32 t → 1 ≤ size_of t → Demand3 t (plan_of t)
plan-rules t acc low l = demand3 t acc low (layout_of t (dealt_bits t 1)) (beginning_valid t acc 1 (omega arith) l)

-- Improvements are never more than 2,048.
pub few_improvements : (t : Topology) (B F : Layout) (a : ℕ) → Rules t B F (plan_of t F) → (plan_of t F a).improvements ≤ 2048
few_improvements t B F a r = omega (arith, r.counted a, (r.finished 2048 r.enough).smallest 2048 r.enough)
