-- The order in which check finds its faults, and what it means that it finds none.
-- Assumes nothing.
use Prim.Native.Nat.{ℕ, zero, suc, ◌+◌, ◌≤◌, ◌<◌}
use mathlib.Core.Path.{◌≡◌, refl, sym, ap, ◌∙◌}
use mathlib.Core.Bool.{Bool, true, false, cond}
use mathlib.Core.List.{List}
use mathlib.Core.Logic.{⊎_elim}
use native.Mathlib.Omega.{arith}
use lib.Dec.{ltb, eqb}
use lib.ListN.{length}
use borrow.Author.Tests.{lt-ltb, le-ltb, eq-eqb, ne_eqb, eqb-true, eqb-false}
use Rattle.sums.proofs.Sum.{lt_or_ge, eq_or_ne}
use Rattle.cluster.specs.Terms.{most_nodes, layout_cells, topology, partitions, rows_in, fault_of}
use Rattle.cluster.specs.declared.Cluster.{Cluster}
use Rattle.layouts.specs.TermsCheck.{Checked, fault, first_fault, cluster_fault, rows_fault, nodes_fault, check_of}
use Rattle.cluster.proofs.Accepting.{few_nodes}

-- ---- a first fault

-- Where no fault is found there is none.
pub none_found : (n i : ℕ) (f : ℕ → Checked) → (first_fault n i f).refusal ≡ 0 → (j : ℕ) → i ≤ j → j < i + n → (f j).refusal ≡ 0
unfolding first_fault
none_found zero i f e j l k = absurd (omega arith)
none_found (suc n) i f e j l k = go (eqb (f i).refusal 0) refl e (none_found n (suc i) f)
  where
    go : (b : Bool) → eqb (f i).refusal 0 ≡ b → (cond b (first_fault n (suc i) f) (f i)).refusal ≡ 0
        → ((first_fault n (suc i) f).refusal ≡ 0 → (x : ℕ) → suc i ≤ x → x < suc i + n → (f x).refusal ≡ 0) → (f j).refusal ≡ 0
    go false q h r = absurd (eqb-false (f i).refusal 0 q h)
    go true q h r =
        ⊎_elim (λ a. r h j a (omega arith)) (λ a. let d : j ≡ i = omega arith in ap (λ (x : ℕ). (f x).refusal) d ∙ eqb-true (f i).refusal 0 q)
        (lt_or_ge i j)

-- Where there is none, none is found.
pub find_none : (n i : ℕ) (f : ℕ → Checked) → ((j : ℕ) → i ≤ j → j < i + n → (f j).refusal ≡ 0) → first_fault n i f ≡ fault 0 0
unfolding first_fault
find_none zero i f h = refl
find_none (suc n) i f h =
    ap (λ (b : Bool). cond b (first_fault n (suc i) f) (f i)) (eq-eqb (f i).refusal 0 (h i (omega arith) (omega arith)))
    ∙ find_none n (suc i) f (λ j l k. h j (omega arith) (omega arith))

-- ---- the order

-- The fault of the cluster and of the size is none exactly where the cluster has none and the size is not 0.
pub sound : (c : Cluster) (size : ℕ) → cluster_fault c size ≡ 0 → (fault_of c ≡ 0) × (1 ≤ size)
unfolding cluster_fault
sound c size e = go (ltb most_nodes c.count) (eqb size 0) refl e
  where
    go : (a b : Bool) → eqb size 0 ≡ b → ◌≡◌ {A = ℕ} (cond a 6 (cond b 4 (fault_of c))) 0 → (fault_of c ≡ 0) × (1 ≤ size)
    go true b q h = absurd (omega arith)
    go false true q h = absurd (omega arith)
    go false false q h = let n : (size ≡ 0 → ⊥) = eqb-false size 0 q in (h, omega arith)

pub no_cluster-fault : (c : Cluster) (size : ℕ) → fault_of c ≡ 0 → 1 ≤ size → cluster_fault c size ≡ 0
unfolding cluster_fault
no_cluster-fault c size e l = simp (le-ltb most_nodes c.count (few_nodes c e), ne_eqb size 0 (λ z. omega arith)) e

module _ (c : Cluster) (cells : List ℕ) (size : ℕ) where
  -- A short buffer is refused first.
  pub order_short : length cells < layout_cells → check_of c cells size ≡ fault 8 0
  unfolding check_of
  order_short h = simp (lt-ltb (length cells) layout_cells h)

  module _ (whole : layout_cells ≤ length cells) where
    -- Then the cluster and the size,
    pub order-cluster : (cluster_fault c size ≡ 0 → ⊥) → check_of c cells size ≡ fault (cluster_fault c size) 0
    unfolding check_of
    order-cluster h = simp (le-ltb (length cells) layout_cells whole, ne_eqb (cluster_fault c size) 0 h)

    -- then the rows,
    pub order-rows : cluster_fault c size ≡ 0 → ((rows_fault (topology c) cells).refusal ≡ 0 → ⊥) → check_of c cells size ≡ rows_fault (topology c) cells
    unfolding check_of
    order-rows e h =
        simp (le-ltb (length cells) layout_cells whole, eq-eqb (cluster_fault c size) 0 e, ne_eqb (rows_fault (topology c) cells).refusal 0 h)

    -- then the nodes.
    pub order-nodes : cluster_fault c size ≡ 0 → (rows_fault (topology c) cells).refusal ≡ 0
        → check_of c cells size ≡ nodes_fault (topology c) (rows_in (partitions (topology c)) cells) size
    unfolding check_of
    order-nodes e h =
        simp (le-ltb (length cells) layout_cells whole, eq-eqb (cluster_fault c size) 0 e, eq-eqb (rows_fault (topology c) cells).refusal 0 h)

  -- Where nothing is refused, none of the four has a fault.
  pub all_pass : (check_of c cells size).refusal ≡ 0
      → (layout_cells ≤ length cells) × (cluster_fault c size ≡ 0) × ((rows_fault (topology c) cells).refusal ≡ 0)
      × ((nodes_fault (topology c) (rows_in (partitions (topology c)) cells) size).refusal ≡ 0)
  all_pass e =
      ⊎_elim (λ h. absurd (omega (arith, ap (λ (k : Checked). k.refusal) (order_short h)))) (λ w.
      ⊎_elim (λ z.
      ⊎_elim (λ r. (w, z, r, sym (ap (λ (k : Checked). k.refusal) (order-nodes w z r)) ∙ e))
      (λ r. absurd (r (sym (ap (λ (k : Checked). k.refusal) (order-rows w z r)) ∙ e))) (eq_or_ne (rows_fault (topology c) cells).refusal 0))
      (λ z. absurd (z (sym (ap (λ (k : Checked). k.refusal) (order-cluster w z)) ∙ e))) (eq_or_ne (cluster_fault c size) 0))
      (lt_or_ge (length cells) layout_cells)
