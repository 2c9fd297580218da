-- Whatever the prices, no layout sends fewer than the cheapest rows cost together less what the nodes can take; so a layout with a certificate is
-- nearest. A layout with prices has one, and the prices of a certificate are such prices.
-- Assumes nothing.
use Prim.Native.Nat.{ℕ, suc, ◌+◌, ◌*◌, ◌≤◌, ◌<◌}
use mathlib.Core.Path.{◌≡◌, refl, sym, ap, ◌∙◌}
use mathlib.Core.List.{List}
use mathlib.Core.Bool.{true}
use mathlib.Core.Logic.{◌⊎◌, inl, inr, ⊎_elim}
use native.Mathlib.Nat.{mul-le-mul_right, suc-mul}
use native.Mathlib.Omega.{arith}
use lib.ListN.{length}
use Rattle.sums.specs.TermsSums.{sum_to, one_if}
use Rattle.sums.proofs.Sum.{sum_cong, sum_le, sum_lt, sum-add, lt_or_ge}
use Rattle.exchange.specs.ModelRow.{Valid, swap, copies, weigh, Exchange}
use Rattle.exchange.specs.ModelPrices.{Prices}
use Rattle.exchange.proofs.Row.{swap-sum}
use Rattle.exchange.proofs.Prices.{weigh-copies, row_fair}
use Rattle.ties.specs.ModelOrder.{any}
use Rattle.cluster.specs.Terms.{Topology, partitions, node_at, ids_of, mem, rising, Layout, row, ValidRow, ValidAt, only_in, sent}
use Rattle.cluster.proofs.Lists.{only_or_common}
use Rattle.incidence.specs.ModelIncidence.{zone_index, cap_at, bits_of, incidence, ids_where}
use Rattle.incidence.proofs.TieRows.{row-sum, where_bits}
use Rattle.incidence.proofs.TieLayouts.{valid_bits, valid_ids, within_of_valid}
use Rattle.incidence.proofs.TieZones.{zone_below}
use Rattle.certificate.specs.TermsCertificate.{room_at, costs, takings, Lows, Certificate}

module _ (t : Topology) (ids : rising (ids_of t.nodes) ≡ true) (F : Layout) (s : ℕ) where
  abbrev P : ℕ
  P = partitions t

  abbrev N : ℕ
  N = length t.nodes

  -- The room of a node is its cap.
  takings-caps : (y : ℕ → ℕ) → takings t s y ≡ sum_to N (λ b. cap_at t s b * y b)
  unfolding takings room_at cap_at
  takings-caps y = refl

  -- What the nodes of a layout of the size cost together is no more than they can take.
  pub paid : (y : ℕ → ℕ) (M : Layout) → ValidAt t M s → sum_to P (λ p. sum_to N (λ b. incidence t M p b * y b)) ≤ takings t s y
  unfolding weigh
  paid y M v =
      omega (
        arith,
        takings-caps y,
        weigh-copies P N (incidence t M) y,
        sum_le N (λ b. copies P (incidence t M) b * y b) (λ b. cap_at t s b * y b)
            (λ b l. mul-le-mul_right (y b) ((within_of_valid t ids M s v).caps b l)),
      )

  -- What the rows of a layout cost together: what it sends, and what its nodes cost.
  pub all-costs : (y : ℕ → ℕ) (M : Layout)
      → sum_to P (λ p. costs t y (row F p) (row M p)) ≡ sent t M F + sum_to P (λ p. sum_to N (λ b. incidence t M p b * y b))
  unfolding costs sent incidence
  all-costs y M =
      sum-add P (λ p. only_in (row M p) (row F p)) (λ p. sum_to N (λ b. one_if (mem (node_at t b).id (row M p)) * y b))

  -- Weak duality: whatever the prices, what the cheapest rows cost together, less what the nodes can take, is sent by every layout of the size.
  pub every-sends : (y low : ℕ → ℕ) → Lows t F y low → (M : Layout) → ValidAt t M s → sum_to P low ≤ sent t M F + takings t s y
  every-sends y low h M v =
      omega (
        arith,
        all-costs y M,
        paid y M v,
        sum_le P low (λ p. costs t y (row F p) (row M p)) (λ p l. h p l (row M p) (v.rows p l)),
      )

  -- A layout with a certificate is nearest.
  pub certified : (L : Layout) (y low : ℕ → ℕ) → Certificate t F s L y low → (M : Layout) → ValidAt t M s → sent t L F ≤ sent t M F
  certified L y low c M v = omega (arith, c.exact, every-sends y low c.lows M v)

  -- The certificate of one nearest layout is one of every other: it belongs to the cluster and the former layout.
  pub certificate_same : (L M : Layout) (y low : ℕ → ℕ) → Certificate t F s L y low → ValidAt t M s → sent t M F ≡ sent t L F → Certificate t F s M y low
  certificate_same L M y low c v e = record { valid = v; lows = c.lows; exact = omega (arith, c.exact, e) }

  -- The copies of a valid row to be sent, and those that are there, are R.
  pub sent-row : (f r : List ℕ) → ValidRow t r → only_in r f + sum_to N (λ b. bits_of t.nodes r b * bits_of t.nodes f b) ≡ t.replication
  sent-row f r v =
      omega (arith, only_or_common r f, row-sum 0 0 t.nodes r (λ i. one_if (mem i f)) ids v.ids v.known, v.many)

  -- ---- a layout with prices has a certificate

  module _ (L : Layout) (v : ValidAt t L s) (y : ℕ → ℕ)
      (c : Prices P N t.replication t.redundancy (zone_index t) (cap_at t s) (incidence t F) any (incidence t L) y) where
    -- Each row of the layout is as cheap as any.
    pub cheapest : Lows t F y (λ p. costs t y (row F p) (row L p))
    unfolding costs incidence
    cheapest p l r w =
        omega (
          arith,
          sent-row (row F p) (row L p) (v.rows p l),
          sent-row (row F p) r w,
          row_fair P N t.replication t.redundancy (zone_index t) (cap_at t s) (incidence t F) any (incidence t L) y (zone_below t)
              (λ p b. omega arith) (within_of_valid t ids L s v) c p l (bits_of t.nodes r) (valid_bits t ids r w) (λ x k e. absurd (omega (arith, e))),
        )

    -- The nodes take all that they can.
    pub all_paid : sum_to P (λ p. sum_to N (λ b. incidence t L p b * y b)) ≡ takings t s y
    unfolding weigh
    all_paid =
        weigh-copies P N (incidence t L) y
        ∙ (sum_cong N (λ b. copies P (incidence t L) b * y b) (λ b. cap_at t s b * y b) (λ b l. full b l (lt_or_ge (y b) 1)) ∙ sym (takings-caps y))
      where
        full : (b : ℕ) → b < N → (y b < 1) ⊎ (1 ≤ y b) → copies P (incidence t L) b * y b ≡ cap_at t s b * y b
        full b l (inl z) = let e : y b ≡ 0 = omega arith in omega (arith, ap (λ (n : ℕ). copies P (incidence t L) b * n) e, ap (λ (n : ℕ). cap_at t s b * n) e)
        full b l (inr o) = ap (λ (n : ℕ). n * y b) (c.full b l o)

    -- Strong duality: a layout with prices has a certificate.
    pub has-certificate : Certificate t F s L y (λ p. costs t y (row F p) (row L p))
    has-certificate = record { valid = v; lows = cheapest; exact = all-costs y L ∙ ap (λ (n : ℕ). sent t L F + n) all_paid }

  -- ---- the prices of a certificate are prices of the layout

  module _ (L : Layout) (y low : ℕ → ℕ) (c : Certificate t F s L y low) where
    abbrev held : ℕ → ℕ
    held b = copies P (incidence t L) b * y b

    abbrev own : ℕ → ℕ
    own p = costs t y (row F p) (row L p)

    -- The rows of the layout cost no less than the cheapest ones, and its nodes take no more than they can.
    low-own : (p : ℕ) → p < P → low p ≤ own p
    low-own p l = c.lows p l (row L p) (c.valid.rows p l)

    held_le : (b : ℕ) → b < N → held b ≤ cap_at t s b * y b
    held_le b l = mul-le-mul_right (y b) ((within_of_valid t ids L s c.valid).caps b l)

    -- What the rows cost together is what is sent and what the nodes take.
    own-sum : sum_to P own ≡ sent t L F + sum_to N held
    unfolding weigh
    own-sum = all-costs y L ∙ ap (λ (n : ℕ). sent t L F + n) (weigh-copies P N (incidence t L) y)

    -- So each row is a cheapest one,
    pub own-low : (p : ℕ) → p < P → own p ≤ low p
    own-low p l =
        ⊎_elim
        (λ h. absurd (omega (arith, own-sum, c.exact, takings-caps y, sum_lt P low own 1 p low-own l (omega arith), sum_le N held (λ b. cap_at t s b * y b) held_le)))
        (λ h. h) (lt_or_ge (low p) (own p))

    -- and a node with a price is full.
    priced-full : (b : ℕ) → b < N → 1 ≤ y b → copies P (incidence t L) b ≡ cap_at t s b
    priced-full b l o =
        let k = (within_of_valid t ids L s c.valid).caps b l in
        ⊎_elim
        (λ h.
        let n : suc (copies P (incidence t L) b) ≤ cap_at t s b = omega arith in
        absurd
        (omega (
          arith,
          own-sum,
          c.exact,
          takings-caps y,
          sum_le P low own low-own,
          sum_lt N held (λ b. cap_at t s b * y b) (y b) b held_le l
              (omega (arith, mul-le-mul_right (y b) n, suc-mul (copies P (incidence t L) b) (y b))),
        )))
        (λ h. omega (arith, k)) (lt_or_ge (copies P (incidence t L) b) (cap_at t s b))

    -- The row of ids after an exchange has the bits after it.
    swapped : (S : ℕ → ℕ) (g : ℕ → ℕ) → Valid N t.replication t.redundancy (zone_index t) S
        → sum_to N (λ b. bits_of t.nodes (ids_where t.nodes S) b * g b) ≡ sum_to N (λ b. S b * g b)
    swapped S g w =
        sum_cong N (λ b. bits_of t.nodes (ids_where t.nodes S) b * g b) (λ b. S b * g b)
        (λ b l. ap (λ (n : ℕ). n * g b) (where_bits 0 t.nodes S b ids l (w.bits b l)))

    -- An exchange wins no more than it costs: the row after it is no cheaper.
    exchanged : (p a b : ℕ) → p < P → Exchange N t.replication t.redundancy (zone_index t) any (incidence t L) p a b
        → y a + incidence t F p b ≤ y b + incidence t F p a
    unfolding costs incidence
    exchanged p a b l e =
        let S = swap (incidence t L p) a b in
        let r = ids_where t.nodes S in
        omega (
          arith,
          own-low p l,
          c.lows p l r (valid_ids t ids S e.valid),
          sent-row (row F p) (row L p) (c.valid.rows p l),
          sent-row (row F p) r (valid_ids t ids S e.valid),
          swapped S (incidence t F p) e.valid,
          swapped S y e.valid,
          swap-sum N (incidence t L p) (incidence t F p) a b e.a_node e.b_node e.a_in,
          swap-sum N (incidence t L p) y a b e.a_node e.b_node e.a_in,
        )

    pub certificate-prices : Prices P N t.replication t.redundancy (zone_index t) (cap_at t s) (incidence t F) any (incidence t L) y
    certificate-prices = record { full = priced-full; fair = exchanged }
