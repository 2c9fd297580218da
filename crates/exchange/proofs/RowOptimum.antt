-- A row that no single exchange betters is best: no valid row weighs more.
-- Assumes nothing.
use Prim.Native.Nat.{ℕ, zero, suc, ◌+◌, ◌-◌, ◌*◌, ◌≤◌, ◌<◌, min}
use mathlib.Core.Path.{◌≡◌, refl, ap}
use mathlib.Core.Logic.{⊎_elim}
use native.Mathlib.Nat.{mul-le-mul_left, mul-add, mul_comm}
use native.Mathlib.Omega.{arith}
use Rattle.sums.specs.TermsSums.{sum_to}
use Rattle.sums.specs.ModelSums.{max_to}
use Rattle.sums.proofs.Sum.{lt_or_ge, is_eq, is_cases, sum_le, sum-add, sum_scale, sum_scale_right}
use Rattle.sums.proofs.Count.{max_ge, max_le}
use Rattle.exchange.specs.ModelRow.{zone_count, cover, Valid, swap}
use Rattle.exchange.specs.ModelSwap.{fits}
use Rattle.exchange.proofs.Row.{sum-zones, fits_valid}

-- ---- zone by zone

-- In one zone, with s and t nodes of two rows: ℓ is the largest weight that could come into the zone, k the largest that could come in anywhere,
-- k + μ the largest of all. The second row wins no more here than it pays, at k + μ for a node and μ for a zone.
zone_step : (s t ℓ k μ m : ℕ) → k + μ ≡ m → k ≤ ℓ → ℓ ≤ m → (2 ≤ s → m ≤ ℓ) → (s ≡ 0 → ℓ ≤ k)
    → t * ℓ + (s * m + μ * min 1 t) ≤ s * ℓ + (t * m + μ * min 1 s)
zone_step zero t ℓ k μ m e a b two none =
    let l : min 1 t ≤ t = omega arith in
    omega (arith, mul-le-mul_left t (none refl), mul-add t k μ, ap (λ (n : ℕ). t * n) e, mul-le-mul_left μ l, mul_comm t μ)
zone_step (suc zero) zero ℓ k μ m e a b two none = omega arith
zone_step (suc zero) (suc t) ℓ k μ m e a b two none =
    let l : min 1 (suc t) ≡ 1 = omega arith in omega (arith, mul-le-mul_left t b, ap (λ (n : ℕ). μ * n) l)
zone_step (suc (suc s)) t ℓ k μ m e a b two none =
    let l : min 1 t ≤ min 1 (suc (suc s)) = omega arith in
    omega (arith, mul-le-mul_left t b, mul-le-mul_left (suc (suc s)) (two (omega arith)), mul-le-mul_left μ l)

-- What the row pays over all zones: m for each node, μ for each zone that the other row touches.
zones_pay : (N R m μ : ℕ) (zone S f g : ℕ → ℕ) → ((x : ℕ) → x < N → zone x < N) → sum_to N S ≡ R
    → sum_to N (λ z. f z + (zone_count N zone S z * m + μ * g z)) ≡ sum_to N f + (R * m + μ * sum_to N g)
zones_pay N R m μ zone S f g zl size =
    omega (
      arith,
      sum-add N f (λ z. zone_count N zone S z * m + μ * g z),
      sum-add N (λ z. zone_count N zone S z * m) (λ z. μ * g z),
      sum_scale N μ g,
      sum-zones N zone S (λ z. m) zl,
      sum_scale_right N m S,
      ap (λ (n : ℕ). n * m) size,
    )

-- Added over the zones: the second row wins nothing.
zones_le : (N R Z k μ m : ℕ) (zone S T ℓ : ℕ → ℕ) → ((x : ℕ) → x < N → zone x < N) → Valid N R Z zone S → Valid N R Z zone T
    → k + μ ≡ m → ((z : ℕ) → k ≤ ℓ z) → ((z : ℕ) → ℓ z ≤ m) → ((z : ℕ) → 2 ≤ zone_count N zone S z → m ≤ ℓ z)
    → ((z : ℕ) → zone_count N zone S z ≡ 0 → ℓ z ≤ k) → (Z < cover N zone S → μ ≡ 0)
    → sum_to N (λ x. T x * ℓ (zone x)) ≤ sum_to N (λ x. S x * ℓ (zone x))
unfolding cover
zones_le N R Z k μ m zone S T ℓ zl v w e a b two none spare =
    omega (
      arith,
      sum-zones N zone S ℓ zl,
      sum-zones N zone T ℓ zl,
      zones_pay N R m μ zone S (λ z. zone_count N zone T z * ℓ z) (λ z. min 1 (zone_count N zone T z)) zl v.size,
      zones_pay N R m μ zone T (λ z. zone_count N zone S z * ℓ z) (λ z. min 1 (zone_count N zone S z)) zl w.size,
      sum_le N (λ z. zone_count N zone T z * ℓ z + (zone_count N zone S z * m + μ * min 1 (zone_count N zone T z)))
          (λ z. zone_count N zone S z * ℓ z + (zone_count N zone T z * m + μ * min 1 (zone_count N zone S z)))
          (λ z l. zone_step (zone_count N zone S z) (zone_count N zone T z) (ℓ z) k μ m e (a z) (b z) (two z) (none z)),
      tight,
    )
  where
    tight : μ * cover N zone S ≤ μ * cover N zone T
    tight =
        ⊎_elim (λ l. let n = spare l in omega (arith, ap (λ (t : ℕ). t * cover N zone S) n, ap (λ (t : ℕ). t * cover N zone T) n))
        (λ l. let n : cover N zone S ≤ cover N zone T = omega (arith, v.wide, w.wide) in mul-le-mul_left μ n) (lt_or_ge Z (cover N zone S))

-- ---- the largest weight of the nodes that may come in

-- The largest weight of a node at which c is not 0.
most : ℕ → (ℕ → ℕ) → (ℕ → ℕ) → ℕ
most N ω c = max_to N (λ b. min 1 (c b) * ω b)

most_ge : (N : ℕ) (ω c : ℕ → ℕ) (b : ℕ) → b < N → 1 ≤ c b → ω b ≤ most N ω c
unfolding most
most_ge N ω c b l h =
    let e : min 1 (c b) ≡ 1 = omega arith in
    omega (arith, max_ge N b (λ x. min 1 (c x) * ω x) l, ap (λ (t : ℕ). t * ω b) e)

most_le : (N m : ℕ) (ω c : ℕ → ℕ) → ((b : ℕ) → b < N → 1 ≤ c b → ω b ≤ m) → most N ω c ≤ m
unfolding most
most_le N m ω c h =
    max_le N m (λ x. min 1 (c x) * ω x)
    (λ x l. ⊎_elim (λ z. let e : min 1 (c x) ≡ 0 = omega arith in omega (arith, ap (λ (t : ℕ). t * ω x) e))
    (λ o. let e : min 1 (c x) ≡ 1 = omega arith in omega (arith, h x l o, ap (λ (t : ℕ). t * ω x) e)) (lt_or_ge (c x) 1))

most_mono : (N : ℕ) (ω c d : ℕ → ℕ) → ((b : ℕ) → b < N → 1 ≤ c b → 1 ≤ d b) → most N ω c ≤ most N ω d
most_mono N ω c d h = most_le N (most N ω d) ω c (λ b l o. most_ge N ω d b l (h b l o))

-- ---- node by node

-- With ℓ the largest weight that could come into x's zone: a node that leaves weighs at least ℓ, one that comes in at most ℓ.
node-step : (s t w ℓ : ℕ) → s ≤ 1 → t ≤ 1 → (s ≡ 1 → ℓ ≤ w) → (s ≡ 0 → w ≤ ℓ) → t * w + s * ℓ ≤ s * w + t * ℓ
node-step zero zero w ℓ a b out come = omega arith
node-step zero (suc zero) w ℓ a b out come = omega (arith, come refl)
node-step zero (suc (suc t)) w ℓ a b out come = absurd (omega arith)
node-step (suc zero) zero w ℓ a b out come = omega (arith, out refl)
node-step (suc zero) (suc zero) w ℓ a b out come = omega arith
node-step (suc zero) (suc (suc t)) w ℓ a b out come = absurd (omega arith)
node-step (suc (suc s)) t w ℓ a b out come = absurd (omega arith)

-- ---- the theorem

-- Where every valid exchange brings in no more weight than it lets go, no valid row weighs more.
pub row_optimum : (N R Z : ℕ) (zone ω S T : ℕ → ℕ) → ((x : ℕ) → x < N → zone x < N) → Valid N R Z zone S
    → ((a b : ℕ) → a < N → b < N → S a ≡ 1 → S b ≡ 0 → Valid N R Z zone (swap S a b) → ω b ≤ ω a) → Valid N R Z zone T
    → sum_to N (λ x. T x * ω x) ≤ sum_to N (λ x. S x * ω x)
unfolding fits
row_optimum N R Z zone ω S T zl v best w =
    omega (
      arith,
      sum-add N (λ x. T x * ω x) (λ x. S x * ℓ (zone x)),
      sum-add N (λ x. S x * ω x) (λ x. T x * ℓ (zone x)),
      sum_le N (λ x. T x * ω x + S x * ℓ (zone x)) (λ x. S x * ω x + T x * ℓ (zone x))
          (λ x l. node-step (S x) (T x) (ω x) (ℓ (zone x)) (v.bits x l) (w.bits x l) (leaves x l) (comes x l)),
      zones_le N R Z k (m - k) m zone S T ℓ zl v w (omega (arith, k_m)) k_ℓ ℓ_m two none (λ l. omega (arith, spare l)),
    )
  where
    into : ℕ → ℕ → ℕ
    into z b = min (1 - S b) (fits N Z zone S z b)

    anywhere : ℕ → ℕ
    anywhere b = min (1 - S b) ((1 - zone_count N zone S (zone b)) + (cover N zone S - Z))

    ℓ : ℕ → ℕ
    ℓ z = most N ω (into z)

    k : ℕ
    k = most N ω anywhere

    m : ℕ
    m = most N ω (λ b. 1 - S b)

    k_m : k ≤ m
    k_m = most_mono N ω anywhere (λ b. 1 - S b) (λ b l o. omega arith)

    k_ℓ : (z : ℕ) → k ≤ ℓ z
    k_ℓ z = most_mono N ω anywhere (into z) (λ b l o. omega arith)

    ℓ_m : (z : ℕ) → ℓ z ≤ m
    ℓ_m z = most_mono N ω (into z) (λ b. 1 - S b) (λ b l o. omega arith)

    two : (z : ℕ) → 2 ≤ zone_count N zone S z → m ≤ ℓ z
    two z h = most_mono N ω (λ b. 1 - S b) (into z) (λ b l o. omega arith)

    none : (z : ℕ) → zone_count N zone S z ≡ 0 → ℓ z ≤ k
    none z h =
        most_mono N ω (into z) anywhere
        (λ b l o. ⊎_elim (λ c. omega (arith, ap (λ (t : ℕ). zone_count N zone S t) c.0)) (λ c. omega (arith, c.1)) (is_cases (zone b) z))

    spare : Z < cover N zone S → m ≤ k
    spare h = most_mono N ω (λ b. 1 - S b) anywhere (λ b l o. omega arith)

    leaves : (x : ℕ) → x < N → S x ≡ 1 → ℓ (zone x) ≤ ω x
    leaves x l h =
        most_le N (ω x) ω (into (zone x))
        (λ b k o. let e : S b ≡ 0 = omega arith in
        best x b l k h e (fits_valid N R Z zone S x b (zl x l) (zl b k) v l k h e (omega arith)))

    comes : (x : ℕ) → x < N → S x ≡ 0 → ω x ≤ ℓ (zone x)
    comes x l h = most_ge N ω (into (zone x)) x l (omega (arith, is_eq {a = zone x} {b = zone x} refl))
