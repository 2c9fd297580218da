-- Prices of one heaviest layout are prices of every other, and so is a potential.
-- Assumes nothing.
use Prim.Native.Nat.{ℕ, suc, ◌+◌, ◌-◌, ◌*◌, ◌≤◌, ◌<◌}
use mathlib.Core.Path.{◌≡◌, sym}
use mathlib.Core.Logic.{⊎_elim}
use native.Mathlib.Nat.{mul-le-mul_right, suc-mul}
use native.Mathlib.Omega.{arith}
use Rattle.sums.specs.TermsSums.{sum_to}
use Rattle.sums.specs.ModelSums.{max_to}
use Rattle.sums.proofs.Sum.{lt_or_ge, sum_le, sum_lt, sum-add}
use Rattle.sums.proofs.Count.{max_ge}
use Rattle.exchange.specs.ModelRow.{Within, Exchange, swap, copies, weigh}
use Rattle.exchange.specs.ModelPrices.{Prices, Potential}
use Rattle.exchange.proofs.Row.{swap-sum}
use Rattle.exchange.proofs.Prices.{row_fair, node_paid, weigh-copies, potential_prices}
use Rattle.ties.specs.ModelOrder.{any}

module _ (P N R Z : ℕ) (zone cap : ℕ → ℕ) (g S T : ℕ → ℕ → ℕ) (zones : (x : ℕ) → x < N → zone x < N) (s : Within P N R Z zone cap S)
    (t : Within P N R Z zone cap T) (same : weigh P N g T ≡ weigh P N g S) where
  module _ (y : ℕ → ℕ) (c : Prices P N R Z zone cap g any S y) where
    -- What a row of T weighs, with what that of S pays: the two sides are equal where both rows are as good.
    abbrev mine : ℕ → ℕ
    mine p = sum_to N (λ b. T p b * g p b) + sum_to N (λ b. S p b * y b)

    -- What that row of S weighs, with what the one of T pays.
    abbrev theirs : ℕ → ℕ
    theirs p = sum_to N (λ b. S p b * g p b) + sum_to N (λ b. T p b * y b)

    -- No row of T is better than that of S.
    row : (p : ℕ) → p < P → mine p ≤ theirs p
    row p l = row_fair P N R Z zone cap g any S y zones (λ p b. omega arith) s c p l (T p) (t.rows p l) (λ x k z. absurd (omega arith))

    -- T pays no more than S at any node.
    paid : (b : ℕ) → b < N → copies P T b * y b ≤ copies P S b * y b
    paid = node_paid P N R Z zone cap g any S y c T t

    -- Both sides of the rows, added up.
    totals : (weigh P N g T + weigh P N (λ p. y) S ≡ sum_to P mine) × (weigh P N g S + weigh P N (λ p. y) T ≡ sum_to P theirs)
    unfolding weigh
    totals = (
      sym (sum-add P (λ p. sum_to N (λ b. T p b * g p b)) (λ p. sum_to N (λ b. S p b * y b))),
      sym (sum-add P (λ p. sum_to N (λ b. S p b * g p b)) (λ p. sum_to N (λ b. T p b * y b))),
    )

    -- T pays no more than S.
    pay : weigh P N (λ p. y) T ≤ weigh P N (λ p. y) S
    pay =
        omega (
          arith,
          weigh-copies P N S y,
          weigh-copies P N T y,
          sum_le N (λ b. copies P T b * y b) (λ b. copies P S b * y b) paid,
        )

    -- A row of T is as good as that of S.
    as_good : (p : ℕ) → p < P → theirs p ≤ mine p
    as_good p l =
        ⊎_elim (λ h. absurd (omega (arith, totals, pay, sum_lt P mine theirs 1 p row l (omega arith)))) (λ h. h) (lt_or_ge (mine p) (theirs p))

    -- A node with a price is full in T too, or T would pay less than S.
    full : (b : ℕ) → b < N → 1 ≤ y b → copies P T b ≡ cap b
    full b l o = ⊎_elim (λ h. absurd (less h)) (λ h. omega (arith, t.caps b l)) (lt_or_ge (copies P T b) (cap b))
      where
        less : copies P T b < cap b → ⊥
        less h =
            let n : suc (copies P T b) ≤ copies P S b = omega (arith, c.full b l o) in
            omega (
              arith,
              weigh-copies P N S y,
              weigh-copies P N T y,
              sum_lt N (λ b. copies P T b * y b) (λ b. copies P S b * y b) (y b) b paid l
                  (omega (arith, mul-le-mul_right (y b) n, suc-mul (copies P T b) (y b))),
              totals,
              sum_le P mine theirs row,
            )

    -- No exchange of T wins more than it costs: a row as good as that of S is best too.
    fair : (p a b : ℕ) → p < P → Exchange N R Z zone any T p a b → y a + g p b ≤ y b + g p a
    fair p a b l e =
        omega (
          arith,
          as_good p l,
          row_fair P N R Z zone cap g any S y zones (λ p b. omega arith) s c p l (swap (T p) a b) e.valid (λ x k z. absurd (omega arith)),
          swap-sum N (T p) (g p) a b e.a_node e.b_node e.a_in,
          swap-sum N (T p) y a b e.a_node e.b_node e.a_in,
        )

    -- Prices of S are prices of T.
    pub prices_stay : Prices P N R Z zone cap g any T y
    prices_stay = record { full = full; fair = fair }

  -- A potential of S is one of T.
  pub potential_stays : (d : ℕ → ℕ) → Potential P N R Z zone cap g any S d → Potential P N R Z zone cap g any T d
  potential_stays d h =
      let c = prices_stay (λ b. max_to N d - d b) (potential_prices P N R Z zone cap g any S d s h) in
      record {
        along = λ p a b l e. omega (arith, c.fair p a b l e, max_ge N a d e.a_node, max_ge N b d e.b_node);
        room = λ u v l k r.
            ⊎_elim (λ o. absurd (omega (arith, c.full u l (omega arith)))) (λ z. omega (arith, max_ge N v d k)) (lt_or_ge (d u) (max_to N d));
      }
