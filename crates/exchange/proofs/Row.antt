-- The laws of one exchange in a row: its bits, its weighted sums, its size, its zone counts and its cover; and when it leaves the row valid.
-- Assumes nothing.
use Prim.Native.Nat.{ℕ, ◌+◌, ◌-◌, ◌*◌, ◌≤◌, ◌<◌, min}
use mathlib.Core.Path.{◌≡◌, refl, sym, ap, ◌∙◌}
use mathlib.Core.Logic.{⊎_elim}
use native.Mathlib.Nat.{mul-one, one-mul, add-mul, mul_assoc}
use native.Mathlib.Omega.{arith}
use Rattle.sums.specs.TermsSums.{sum_to}
use Rattle.sums.specs.ModelSums.{is}
use Rattle.sums.proofs.Sum.{is_eq, is_ne, is_cases, sum_cong, sum-add, sum_scale, sum_scale_right, sum-swap, sum_is, sum_term}
use Rattle.exchange.specs.ModelRow.{zone_count, cover, Valid, swap}
use Rattle.exchange.specs.ModelSwap.{fits}

-- ---- zones of a row

-- A node of the row is counted in its zone.
pub zone_one : (N : ℕ) (zone S : ℕ → ℕ) (a : ℕ) → a < N → S a ≡ 1 → 1 ≤ zone_count N zone S (zone a)
unfolding zone_count
zone_one N zone S a l h =
    omega (
      arith,
      sum_term N a (λ x. S x * is (zone x) (zone a)) l,
      ap (λ (t : ℕ). t * is (zone a) (zone a)) h,
      one-mul (is (zone a) (zone a)),
      is_eq {a = zone a} {b = zone a} refl,
    )

-- A sum over the nodes of a row that looks at their zones alone is a sum over the zones.
pub sum-zones : (N : ℕ) (zone S h : ℕ → ℕ) → ((x : ℕ) → x < N → zone x < N)
    → sum_to N (λ x. S x * h (zone x)) ≡ sum_to N (λ z. zone_count N zone S z * h z)
unfolding zone_count
sum-zones N zone S h zl =
    sum_cong N (λ x. S x * h (zone x)) (λ x. sum_to N (λ z. S x * is (zone x) z * h z)) (λ x l. sym (node x l))
    ∙ (sum-swap N N (λ x z. S x * is (zone x) z * h z)
    ∙ sum_cong N (λ z. sum_to N (λ x. S x * is (zone x) z * h z)) (λ z. sum_to N (λ x. S x * is (zone x) z) * h z)
    (λ z l. sum_scale_right N (h z) (λ x. S x * is (zone x) z)))
  where
    node : (x : ℕ) → x < N → sum_to N (λ z. S x * is (zone x) z * h z) ≡ S x * h (zone x)
    node x l =
        sum_cong N (λ z. S x * is (zone x) z * h z) (λ z. S x * (is (zone x) z * h z)) (λ z k. mul_assoc (S x) (is (zone x) z) (h z))
        ∙ (sum_scale N (S x) (λ z. is (zone x) z * h z) ∙ ap (λ (t : ℕ). S x * t) (sum_is N (zone x) h (zl x l)))

-- ---- one exchange

-- What the exchange does to one node, with nothing subtracted.
pub swap_at : (S : ℕ → ℕ) (a b x : ℕ) → S a ≡ 1 → swap S a b x + is a x ≡ S x + is b x
unfolding swap
swap_at S a b x h =
    ⊎_elim (λ c. omega (arith, c.1, ap S c.0)) (λ c. omega (arith, c.1)) (is_cases a x)

-- The row stays one of bits.
pub swap-bits : (S : ℕ → ℕ) (a b x : ℕ) → S a ≡ 1 → S b ≡ 0 → S x ≤ 1 → swap S a b x ≤ 1
swap-bits S a b x h o l =
    ⊎_elim (λ c. omega (arith, swap_at S a b x h, c.1, ap S c.0)) (λ c. omega (arith, swap_at S a b x h, c.1)) (is_cases b x)

-- A weighted sum over the row loses the weight of a and wins that of b.
pub swap-sum : (N : ℕ) (S f : ℕ → ℕ) (a b : ℕ) → a < N → b < N → S a ≡ 1
    → sum_to N (λ x. swap S a b x * f x) + f a ≡ sum_to N (λ x. S x * f x) + f b
swap-sum N S f a b la lb h =
    omega (
      arith,
      sum_is N a f la,
      sum_is N b f lb,
      sum-add N (λ x. swap S a b x * f x) (λ x. is a x * f x),
      sum-add N (λ x. S x * f x) (λ x. is b x * f x),
      sum_cong N (λ x. swap S a b x * f x + is a x * f x) (λ x. S x * f x + is b x * f x) (λ x l. at x),
    )
  where
    at : (x : ℕ) → swap S a b x * f x + is a x * f x ≡ S x * f x + is b x * f x
    at x = sym (add-mul (swap S a b x) (is a x) (f x)) ∙ (ap (λ (t : ℕ). t * f x) (swap_at S a b x h) ∙ add-mul (S x) (is b x) (f x))

-- The number of nodes stays.
pub swap-size : (N : ℕ) (S : ℕ → ℕ) (a b : ℕ) → a < N → b < N → S a ≡ 1 → sum_to N (swap S a b) ≡ sum_to N S
swap-size N S a b la lb h =
    omega (
      arith,
      swap-sum N S (λ x. 1) a b la lb h,
      sum_cong N (λ x. swap S a b x * 1) (swap S a b) (λ x l. mul-one (swap S a b x)),
      sum_cong N (λ x. S x * 1) S (λ x l. mul-one (S x)),
    )

-- a's zone has one node less, b's one more.
pub swap_zone : (N : ℕ) (zone S : ℕ → ℕ) (a b z : ℕ) → a < N → b < N → S a ≡ 1
    → zone_count N zone (swap S a b) z + is (zone a) z ≡ zone_count N zone S z + is (zone b) z
unfolding zone_count
swap_zone N zone S a b z la lb h = swap-sum N S (λ x. is (zone x) z) a b la lb h

-- The cover loses one where a was alone in its zone and b is of another, and wins one where b's zone was not touched.
pub swap-cover : (N : ℕ) (zone S : ℕ → ℕ) (a b : ℕ) → a < N → b < N → zone a < N → zone b < N → S a ≡ 1
    → cover N zone (swap S a b) + (1 - (zone_count N zone S (zone a) - 1 + is (zone b) (zone a)))
    ≡ cover N zone S + (1 - zone_count N zone S (zone b))
unfolding cover
swap-cover N zone S a b la lb za zb h =
    omega (
      arith,
      sum_is N (zone a) (λ z. left) za,
      sum_is N (zone b) (λ z. won) zb,
      sum-add N (λ z. min 1 (after z)) (λ z. is (zone a) z * left),
      sum-add N (λ z. min 1 (before z)) (λ z. is (zone b) z * won),
      sum_cong N (λ z. min 1 (after z) + is (zone a) z * left) (λ z. min 1 (before z) + is (zone b) z * won) (λ z l. at z),
    )
  where
    before : ℕ → ℕ
    before z = zone_count N zone S z

    after : ℕ → ℕ
    after z = zone_count N zone (swap S a b) z

    left : ℕ
    left = 1 - (before (zone a) - 1 + is (zone b) (zone a))

    won : ℕ
    won = 1 - before (zone b)

    at : (z : ℕ) → min 1 (after z) + is (zone a) z * left ≡ min 1 (before z) + is (zone b) z * won
    at z =
        let n = swap_zone N zone S a b z la lb h in
        let o = zone_one N zone S a la h in
        ⊎_elim
        (λ c. let p = ap (λ (t : ℕ). t * left) c.1 in
        ⊎_elim
        (λ d. omega (arith, c.1, d.1, p, ap (λ (t : ℕ). t * won) d.1, ap before c.0, ap before d.0, is_eq (d.0 ∙ sym c.0)))
        (λ d. omega (arith, c.1, d.1, p, ap (λ (t : ℕ). t * won) d.1, ap before c.0, is_ne (λ e. d.0 (e ∙ c.0))))
        (is_cases (zone b) z))
        (λ c. let p = ap (λ (t : ℕ). t * left) c.1 in
        ⊎_elim (λ d. omega (arith, c.1, d.1, p, ap (λ (t : ℕ). t * won) d.1, ap before d.0))
        (λ d. omega (arith, c.1, d.1, p, ap (λ (t : ℕ). t * won) d.1)) (is_cases (zone b) z))
        (is_cases (zone a) z)

-- ---- the exchange is valid

-- Where b fits in the place of a node of a's zone, the exchange of a for b leaves the row valid.
pub fits_valid : (N R Z : ℕ) (zone S : ℕ → ℕ) (a b : ℕ) → zone a < N → zone b < N → Valid N R Z zone S → a < N → b < N → S a ≡ 1 → S b ≡ 0
    → 1 ≤ fits N Z zone S (zone a) b → Valid N R Z zone (swap S a b)
unfolding fits
fits_valid N R Z zone S a b za zb v la lb h o f =
    record {
      bits = λ x l. swap-bits S a b x h o (v.bits x l);
      size = swap-size N S a b la lb h ∙ v.size;
      wide = omega (arith, swap-cover N zone S a b la lb za zb h);
    }

-- Where the exchange of a for b leaves the row valid, b fits in the place of a node of a's zone.
pub valid_fits : (N R Z : ℕ) (zone S : ℕ → ℕ) (a b : ℕ) → zone a < N → zone b < N → Valid N R Z zone S → a < N → b < N → S a ≡ 1
    → Valid N R Z zone (swap S a b) → 1 ≤ fits N Z zone S (zone a) b
unfolding fits
valid_fits N R Z zone S a b za zb v la lb h w = omega (arith, v.wide, w.wide, swap-cover N zone S a b la lb za zb h)
