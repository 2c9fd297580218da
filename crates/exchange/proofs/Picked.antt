-- The exchanges of one row S, picked by a mask from m arcs, each from a i to b i: how often a node is the source or the target of a picked arc,
-- and what the row, its size and its weights are after all of them.
-- Assumes nothing.
use Prim.Native.Nat.{ℕ, ◌+◌, ◌-◌, ◌*◌, ◌≤◌, ◌<◌}
use mathlib.Core.Path.{◌≡◌, sym, ap, ap₂, ◌∙◌}
use mathlib.Core.Logic.{⊎_elim}
use native.Mathlib.Nat.{mul-one, zero-mul, mul_assoc, add-mul, mul-le-mul_right}
use native.Mathlib.Omega.{arith}
use Rattle.sums.specs.TermsSums.{sum_to}
use Rattle.sums.specs.ModelSums.{is}
use Rattle.sums.proofs.Sum.{lt_or_ge, is_eq, is_le, is_one, sum_cong, sum_le, sum-add, sum_scale, sum_scale_right, sum-swap, sum_is, sum_term}
use Rattle.sums.proofs.Count.{bit_times, bit-both, sum_pos, two_bits}

-- How many picked arcs have x at the end f.
abbrev pub picked : ℕ → (ℕ → ℕ) → (ℕ → ℕ) → ℕ → ℕ
picked m μ f x = sum_to m (λ i. μ i * is (f i) x)

-- The row after all picked exchanges: the sources leave and the targets come in.
abbrev pub several : ℕ → (ℕ → ℕ) → (ℕ → ℕ) → (ℕ → ℕ) → (ℕ → ℕ) → ℕ → ℕ
several m μ a b S x = S x + picked m μ b x - picked m μ a x

-- ---- one end of the picked arcs

module _ (m : ℕ) (μ f : ℕ → ℕ) (bits : (i : ℕ) → i < m → μ i ≤ 1) where
  -- What is counted is the end of a picked arc.
  pub picked-at : (x : ℕ) → 1 ≤ picked m μ f x → (i : ℕ) × (i < m) × (μ i ≡ 1) × (f i ≡ x)
  picked-at x h =
      let w = sum_pos m (λ i. μ i * is (f i) x) h in
      let e = bit-both (bits w.0 w.1) (is_le (f w.0) x) w.2 in
      (w.0, w.1, e.0, is_one (f w.0) x e.1)

  -- The end of a picked arc is counted.
  pub picked_pos : (i x : ℕ) → i < m → μ i ≡ 1 → f i ≡ x → 1 ≤ picked m μ f x
  picked_pos i x l e q = omega (arith, sum_term m i (λ j. μ j * is (f j) x) l, ap₂ ◌*◌ e (is_eq q))

  -- Where no two picked arcs end at x, it is counted once at most.
  pub picked_le : (x : ℕ) → ((i j : ℕ) → i < j → j < m → μ i ≡ 1 → μ j ≡ 1 → f i ≡ x → f j ≡ x → ⊥) → picked m μ f x ≤ 1
  picked_le x apart = ⊎_elim (λ l. omega arith) (λ g. absurd (two g)) (lt_or_ge (picked m μ f x) 2)
    where
      one : (i : ℕ) → i < m → μ i * is (f i) x ≡ 1 → (μ i ≡ 1) × (f i ≡ x)
      one i l e = let p = bit-both (bits i l) (is_le (f i) x) (omega arith) in (p.0, is_one (f i) x p.1)

      two : 2 ≤ picked m μ f x → ⊥
      two g =
          let w = two_bits m (λ i. μ i * is (f i) x) (λ i l. bit_times (bits i l) (is_le (f i) x)) g in
          let p = one w.0 (omega (arith, w.2, w.3)) w.4 in
          let q = one w.1 w.3 w.5 in
          apart w.0 w.1 w.2 w.3 p.0 q.0 p.1 q.1

  -- A weighted sum over the ends of the picked arcs, by nodes and by arcs.
  pub picked-sum : (N : ℕ) (g : ℕ → ℕ) → ((i : ℕ) → i < m → μ i ≡ 1 → f i < N)
      → sum_to N (λ x. picked m μ f x * g x) ≡ sum_to m (λ i. μ i * g (f i))
  picked-sum N g node =
      sum_cong N (λ x. picked m μ f x * g x) (λ x. sum_to m (λ i. μ i * (is (f i) x * g x))) (λ x l. inside x)
      ∙ (sum-swap N m (λ x i. μ i * (is (f i) x * g x))
      ∙ sum_cong m (λ i. sum_to N (λ x. μ i * (is (f i) x * g x))) (λ i. μ i * g (f i)) one)
    where
      inside : (x : ℕ) → picked m μ f x * g x ≡ sum_to m (λ i. μ i * (is (f i) x * g x))
      inside x =
          sym (sum_scale_right m (g x) (λ i. μ i * is (f i) x))
          ∙ sum_cong m (λ i. μ i * is (f i) x * g x) (λ i. μ i * (is (f i) x * g x)) (λ i l. mul_assoc (μ i) (is (f i) x) (g x))

      one : (i : ℕ) → i < m → sum_to N (λ x. μ i * (is (f i) x * g x)) ≡ μ i * g (f i)
      one i l =
          sum_scale N (μ i) (λ x. is (f i) x * g x)
          ∙ ⊎_elim (λ k. let z : μ i ≡ 0 = omega arith in simp (z, zero-mul))
          (λ k. ap (λ (t : ℕ). μ i * t) (sum_is N (f i) g (node i l (omega (arith, bits i l)))))
          (lt_or_ge (μ i) 1)

  -- Each picked arc has one end.
  pub picked-total : (N : ℕ) → ((i : ℕ) → i < m → μ i ≡ 1 → f i < N) → sum_to N (picked m μ f) ≡ sum_to m μ
  picked-total N node =
      sum_cong N (picked m μ f) (λ x. picked m μ f x * 1) (λ x l. sym (mul-one (picked m μ f x)))
      ∙ (picked-sum N (λ x. 1) node ∙ sum_cong m (λ i. μ i * 1) μ (λ i l. mul-one (μ i)))

  -- Different nodes of the row leave: at x no more than the row has there.
  pub out_le : (S : ℕ → ℕ) → ((i : ℕ) → i < m → μ i ≡ 1 → S (f i) ≡ 1)
      → ((i j : ℕ) → i < j → j < m → μ i ≡ 1 → μ j ≡ 1 → f i ≡ f j → ⊥) → (x : ℕ) → picked m μ f x ≤ S x
  out_le S here differ x = ⊎_elim (λ l. omega arith) (λ g. one (picked-at x g)) (lt_or_ge (picked m μ f x) 1)
    where
      one : (i : ℕ) × (i < m) × (μ i ≡ 1) × (f i ≡ x) → picked m μ f x ≤ S x
      one w =
          omega (arith, picked_le x (λ i j l k p q e d. differ i j l k p q (e ∙ sym d)), here w.0 w.1 w.2, ap S w.3)

  -- Different nodes outside the row come in: at x one at most, and none where the row has x.
  pub in_le : (S : ℕ → ℕ) → ((i : ℕ) → i < m → μ i ≡ 1 → S (f i) ≡ 0)
      → ((i j : ℕ) → i < j → j < m → μ i ≡ 1 → μ j ≡ 1 → f i ≡ f j → ⊥) → (x : ℕ) → S x ≤ 1 → S x + picked m μ f x ≤ 1
  in_le S away differ x bit = ⊎_elim (λ l. omega arith) (λ g. one (picked-at x g)) (lt_or_ge (picked m μ f x) 1)
    where
      one : (i : ℕ) × (i < m) × (μ i ≡ 1) × (f i ≡ x) → S x + picked m μ f x ≤ 1
      one w =
          omega (arith, picked_le x (λ i j l k p q e d. differ i j l k p q (e ∙ sym d)), away w.0 w.1 w.2, ap S w.3)

  -- What leaves weighs no more than the row.
  pub out-sum_le : (N : ℕ) (S g : ℕ → ℕ) → ((i : ℕ) → i < m → μ i ≡ 1 → f i < N) → ((x : ℕ) → x < N → picked m μ f x ≤ S x)
      → sum_to m (λ i. μ i * g (f i)) ≤ sum_to N (λ x. S x * g x)
  out-sum_le N S g node le =
      omega
      (arith, picked-sum N g node, sum_le N (λ x. picked m μ f x * g x) (λ x. S x * g x) (λ x l. mul-le-mul_right (g x) (le x l)))

-- ---- the row after the picked exchanges

-- Where no more leaves than is there, nothing is cut off.
pub several_at : (m : ℕ) (μ a b S : ℕ → ℕ) (x : ℕ) → picked m μ a x ≤ S x → several m μ a b S x + picked m μ a x ≡ S x + picked m μ b x
several_at m μ a b S x le = omega arith

-- Where no more comes in than there is room for, the row stays one of bits.
pub several_bit : (m : ℕ) (μ a b S : ℕ → ℕ) (x : ℕ) → S x + picked m μ b x ≤ 1 → several m μ a b S x ≤ 1
several_bit m μ a b S x le = omega arith

module _ (m : ℕ) (μ a b S : ℕ → ℕ) (bits : (i : ℕ) → i < m → μ i ≤ 1) (N : ℕ)
    (node : (i : ℕ) → i < m → μ i ≡ 1 → (a i < N) × (b i < N)) (le : (x : ℕ) → x < N → picked m μ a x ≤ S x)
  where
    -- The weight of the row after the exchanges, with what left, is the weight before, with what came in.
    pub several_sum : (g : ℕ → ℕ)
        → sum_to N (λ x. several m μ a b S x * g x) + sum_to m (λ i. μ i * g (a i)) ≡ sum_to N (λ x. S x * g x) + sum_to m (λ i. μ i * g (b i))
    several_sum g =
        omega (
          arith,
          picked-sum m μ a bits N g (λ i l e. (node i l e).0),
          picked-sum m μ b bits N g (λ i l e. (node i l e).1),
          sum-add N (λ x. several m μ a b S x * g x) (λ x. picked m μ a x * g x),
          sum-add N (λ x. S x * g x) (λ x. picked m μ b x * g x),
          sum_cong N (λ x. several m μ a b S x * g x + picked m μ a x * g x) (λ x. S x * g x + picked m μ b x * g x) step,
        )
      where
        step : (x : ℕ) → x < N → several m μ a b S x * g x + picked m μ a x * g x ≡ S x * g x + picked m μ b x * g x
        step x l =
            sym (add-mul (several m μ a b S x) (picked m μ a x) (g x))
            ∙ (ap (λ (t : ℕ). t * g x) (several_at m μ a b S x (le x l)) ∙ add-mul (S x) (picked m μ b x) (g x))

    -- The number of nodes stays.
    pub several_size : sum_to N (several m μ a b S) ≡ sum_to N S
    several_size =
        omega (
          arith,
          several_sum (λ x. 1),
          sum_cong N (λ x. several m μ a b S x * 1) (several m μ a b S) (λ x l. mul-one (several m μ a b S x)),
          sum_cong N (λ x. S x * 1) S (λ x l. mul-one (S x)),
        )
