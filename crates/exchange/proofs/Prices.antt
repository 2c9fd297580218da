-- A layout with prices is best: no layout within the caps that agrees with it on the pairs that are not free weighs more. A potential gives
-- prices. A layout weighs at most the largest weight for each of its pairs.
-- Assumes nothing.
use Prim.Native.Nat.{ℕ, zero, suc, ◌+◌, ◌-◌, ◌*◌, ◌≤◌, ◌<◌}
use mathlib.Core.Path.{◌≡◌, refl, sym, ap, ◌∙◌}
use mathlib.Core.Logic.{⊎_elim}
use native.Mathlib.Nat.{mul-le-mul_left, mul-le-mul_right, mul-add, mul_assoc}
use native.Mathlib.Omega.{arith}
use Rattle.sums.specs.TermsSums.{sum_to}
use Rattle.sums.specs.ModelSums.{max_to}
use Rattle.sums.proofs.Sum.{lt_or_ge, sum_cong, sum_le, sum-add, sum_scale_right, sum_const, sum-swap}
use Rattle.sums.proofs.Count.{max_ge, max_le}
use Rattle.exchange.specs.ModelRow.{Valid, swap, copies, weigh, Within, Agree}
use Rattle.exchange.specs.ModelPrices.{Prices, Potential}
use Rattle.exchange.proofs.RowOptimum.{row_optimum}

-- ---- one row

-- The weight by which a row is best: v on a free pair; on another, more than every v where the row has it, else 0.
worth : ℕ → ℕ → ℕ → ℕ → ℕ
worth zero s v m = s * m
worth (suc f) s v m = v

worth_le : (f f' s s' v v' m : ℕ) → f ≤ 1 → f' ≤ 1 → s ≡ 1 → s' ≡ 0 → v' ≤ m → (f ≡ 1 → f' ≡ 1 → v' ≤ v) → worth f' s' v' m ≤ worth f s v m
unfolding worth
worth_le f zero s s' v v' m a b i o h e = omega (arith, ap (λ (t : ℕ). t * m) o)
worth_le zero (suc f') s s' v v' m a b i o h e = omega (arith, ap (λ (t : ℕ). t * m) i)
worth_le (suc f) (suc f') s s' v v' m a b i o h e = e (omega arith) (omega arith)

-- Two rows that agree where the pair is not free differ in worth as they do in weight less price.
worth_same : (f s t v m g y h : ℕ) → v + y ≡ g + h → (f ≡ 0 → t ≡ s)
    → t * worth f s v m + (t * y + (s * g + s * h)) ≡ s * worth f s v m + (s * y + (t * g + t * h))
unfolding worth
worth_same zero s t v m g y h e a = rw (a refl) refl
worth_same (suc f) s t v m g y h e a =
    omega
    (arith, mul-add t v y, mul-add t g h, mul-add s v y, mul-add s g h, ap (λ (n : ℕ). t * n) e, ap (λ (n : ℕ). s * n) e)

sum-four : (n : ℕ) (a b c d : ℕ → ℕ) → sum_to n (λ i. a i + (b i + (c i + d i))) ≡ sum_to n a + (sum_to n b + (sum_to n c + sum_to n d))
sum-four n a b c d =
    omega (arith, sum-add n a (λ i. b i + (c i + d i)), sum-add n b (λ i. c i + d i), sum-add n c d)

-- A row under prices is best for weight less price, among the rows that agree with it where the pair is not free.
row-prices : (N R Z : ℕ) (zone g free S T y : ℕ → ℕ) → ((x : ℕ) → x < N → zone x < N) → ((x : ℕ) → free x ≤ 1)
    → Valid N R Z zone S → Valid N R Z zone T → ((x : ℕ) → x < N → free x ≡ 0 → T x ≡ S x)
    → ((a b : ℕ) → a < N → b < N → S a ≡ 1 → S b ≡ 0 → free a ≡ 1 → free b ≡ 1 → Valid N R Z zone (swap S a b) → y a + g b ≤ y b + g a)
    → sum_to N (λ x. T x * g x) + sum_to N (λ x. S x * y x) ≤ sum_to N (λ x. S x * g x) + sum_to N (λ x. T x * y x)
row-prices N R Z zone g free S T y zl fl v w agree fair =
    omega (
      arith,
      row_optimum N R Z zone ω S T zl v better w,
      sum_cong N (λ x. T x * ω x + (T x * y x + (S x * g x + S x * h))) (λ x. S x * ω x + (S x * y x + (T x * g x + T x * h)))
          (λ x l. worth_same (free x) (S x) (T x) (val x) m (g x) (y x) h (omega (arith, max_ge N x y l)) (agree x l)),
      sum-four N (λ x. T x * ω x) (λ x. T x * y x) (λ x. S x * g x) (λ x. S x * h),
      sum-four N (λ x. S x * ω x) (λ x. S x * y x) (λ x. T x * g x) (λ x. T x * h),
      sum_scale_right N h S,
      sum_scale_right N h T,
      ap (λ (n : ℕ). n * h) (v.size ∙ sym w.size),
    )
  where
    h : ℕ
    h = max_to N y

    val : ℕ → ℕ
    val x = g x + (h - y x)

    m : ℕ
    m = max_to N val

    ω : ℕ → ℕ
    ω x = worth (free x) (S x) (val x) m

    better : (a b : ℕ) → a < N → b < N → S a ≡ 1 → S b ≡ 0 → Valid N R Z zone (swap S a b) → ω b ≤ ω a
    better a b la lb i o u =
        worth_le (free a) (free b) (S a) (S b) (val a) (val b) m (fl a) (fl b) i o (max_ge N b val lb)
        (λ fa fb. omega (arith, fair a b la lb i o fa fb u, max_ge N a y la, max_ge N b y lb))

-- ---- all rows

-- What a layout pays for its pairs, node by node.
pub weigh-copies : (P N : ℕ) (S : ℕ → ℕ → ℕ) (y : ℕ → ℕ) → weigh P N (λ p. y) S ≡ sum_to N (λ b. copies P S b * y b)
unfolding weigh copies
weigh-copies P N S y =
    sum-swap P N (λ p b. S p b * y b)
    ∙ sum_cong N (λ b. sum_to P (λ p. S p b * y b)) (λ b. sum_to P (λ p. S p b) * y b) (λ b l. sum_scale_right P (y b) (λ p. S p b))

-- One row of a layout with prices is best for weight less price.
pub row_fair : (P N R Z : ℕ) (zone cap : ℕ → ℕ) (g free S : ℕ → ℕ → ℕ) (y : ℕ → ℕ) → ((x : ℕ) → x < N → zone x < N)
    → ((p b : ℕ) → free p b ≤ 1) → Within P N R Z zone cap S → Prices P N R Z zone cap g free S y
    → (p : ℕ) → p < P → (T : ℕ → ℕ) → Valid N R Z zone T → ((x : ℕ) → x < N → free p x ≡ 0 → T x ≡ S p x)
    → sum_to N (λ b. T b * g p b) + sum_to N (λ b. S p b * y b) ≤ sum_to N (λ b. S p b * g p b) + sum_to N (λ b. T b * y b)
row_fair P N R Z zone cap g free S y zl fl v c p l T w agree =
    row-prices N R Z zone (g p) (free p) (S p) T y zl (fl p) (v.rows p l) w agree
    (λ a b la lb i o fa fb u.
    c.fair p a b l (record { a_node = la; b_node = lb; a_in = i; b_out = o; a_free = fa; b_free = fb; valid = u }))

-- No layout within the caps pays more at a node than one that the prices are of: it has the node full where it pays.
pub node_paid : (P N R Z : ℕ) (zone cap : ℕ → ℕ) (g free S : ℕ → ℕ → ℕ) (y : ℕ → ℕ) → Prices P N R Z zone cap g free S y
    → (T : ℕ → ℕ → ℕ) → Within P N R Z zone cap T → (b : ℕ) → b < N → copies P T b * y b ≤ copies P S b * y b
node_paid P N R Z zone cap g free S y c T w b l =
    ⊎_elim
    (λ z. let e : y b ≡ 0 = omega arith in
    omega (arith, ap (λ (n : ℕ). copies P T b * n) e, ap (λ (n : ℕ). copies P S b * n) e))
    (λ o. let n : copies P T b ≤ copies P S b = omega (arith, w.caps b l, c.full b l o) in mul-le-mul_right (y b) n) (lt_or_ge (y b) 1)

-- A layout within the caps that has prices weighs the most of all layouts within the caps that agree with it on the pairs that are not free.
pub prices_best : (P N R Z : ℕ) (zone cap : ℕ → ℕ) (g free S : ℕ → ℕ → ℕ) (y : ℕ → ℕ) → ((x : ℕ) → x < N → zone x < N)
    → ((p b : ℕ) → free p b ≤ 1) → Within P N R Z zone cap S → Prices P N R Z zone cap g free S y
    → (T : ℕ → ℕ → ℕ) → Within P N R Z zone cap T → Agree P N free S T → weigh P N g T ≤ weigh P N g S
unfolding weigh
prices_best P N R Z zone cap g free S y zl fl v c T w agree =
    omega (
      arith,
      weigh-copies P N S y,
      weigh-copies P N T y,
      sum_le N (λ b. copies P T b * y b) (λ b. copies P S b * y b) (node_paid P N R Z zone cap g free S y c T w),
      sum-add P (λ p. sum_to N (λ b. T p b * g p b)) (λ p. sum_to N (λ b. S p b * y b)),
      sum-add P (λ p. sum_to N (λ b. S p b * g p b)) (λ p. sum_to N (λ b. T p b * y b)),
      sum_le P (λ p. sum_to N (λ b. T p b * g p b) + sum_to N (λ b. S p b * y b))
          (λ p. sum_to N (λ b. S p b * g p b) + sum_to N (λ b. T p b * y b))
          (λ p l. row_fair P N R Z zone cap g free S y zl fl v c p l (T p) (w.rows p l) (agree p l)),
    )

-- ---- from a potential

-- A potential gives prices: what each node lacks of the largest.
pub potential_prices : (P N R Z : ℕ) (zone cap : ℕ → ℕ) (g free S : ℕ → ℕ → ℕ) (d : ℕ → ℕ) → Within P N R Z zone cap S
    → Potential P N R Z zone cap g free S d → Prices P N R Z zone cap g free S (λ b. max_to N d - d b)
potential_prices P N R Z zone cap g free S d v c =
    record {
      full = λ b l o. ⊎_elim (λ r. absurd (omega (arith, max_le N (d b) d (λ x k. c.room b x l k r)))) (λ r. omega (arith, v.caps b l))
          (lt_or_ge (copies P S b) (cap b));
      fair = λ p a b l e. omega (arith, c.along p a b l e, max_ge N a d e.a_node, max_ge N b d e.b_node);
    }

-- A layout within the caps that has a potential weighs the most of all layouts within the caps that agree with it on the pairs that are not free.
pub potential_best : (P N R Z : ℕ) (zone cap : ℕ → ℕ) (g free S : ℕ → ℕ → ℕ) (d : ℕ → ℕ) → ((x : ℕ) → x < N → zone x < N)
    → ((p b : ℕ) → free p b ≤ 1) → Within P N R Z zone cap S → Potential P N R Z zone cap g free S d
    → (T : ℕ → ℕ → ℕ) → Within P N R Z zone cap T → Agree P N free S T → weigh P N g T ≤ weigh P N g S
potential_best P N R Z zone cap g free S d zl fl v c =
    prices_best P N R Z zone cap g free S (λ b. max_to N d - d b) zl fl v (potential_prices P N R Z zone cap g free S d v c)

-- ---- the most that a layout can weigh

-- Where no pair weighs more than C, a layout weighs at most C for each of its P * R pairs.
pub weigh_le : (P N R Z C : ℕ) (zone cap : ℕ → ℕ) (g S : ℕ → ℕ → ℕ) → Within P N R Z zone cap S
    → ((p b : ℕ) → p < P → b < N → g p b ≤ C) → weigh P N g S ≤ P * R * C
unfolding weigh
weigh_le P N R Z C zone cap g S v most =
    omega (arith, sum_le P (λ p. sum_to N (λ b. S p b * g p b)) (λ p. R * C) row, sum_const P (R * C), mul_assoc P R C)
  where
    row : (p : ℕ) → p < P → sum_to N (λ b. S p b * g p b) ≤ R * C
    row p l =
        omega (
          arith,
          sum_le N (λ b. S p b * g p b) (λ b. S p b * C) (λ b k. mul-le-mul_left (S p b) (most p b l k)),
          sum_scale_right N C (S p),
          ap (λ (n : ℕ). n * C) (v.rows p l).size,
        )
