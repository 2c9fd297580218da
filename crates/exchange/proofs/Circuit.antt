-- Turning a circuit: all its exchanges at once, where no two of them can be crossed, lead to a layout that is within the caps, differs in free
-- pairs only, and is heavier.
-- Assumes nothing.
use Prim.Native.Nat.{ℕ, suc, ◌+◌, ◌-◌, ◌*◌, ◌≤◌, ◌<◌}
use mathlib.Core.Path.{◌≡◌, sym, ap, ◌∙◌, subst}
use mathlib.Core.Bool.{Bool, cond}
use mathlib.Core.Logic.{⊎_elim}
use native.Mathlib.Nat.{mul-le-mul_right}
use native.Mathlib.Omega.{arith}
use borrow.Author.Tests.{lt-ltb, le-ltb}
use Rattle.sums.specs.TermsSums.{sum_to}
use Rattle.sums.specs.ModelSums.{is, hits}
use Rattle.sums.proofs.Sum.{lt_or_ge, is_le, is_one, not_times, sum_le, sum_zero, sum_balance, sum_const, sum-swap, sum_first, sum-none, sum_is, sum-witness}
use Rattle.sums.proofs.Count.{two_bits, pigeonhole}
use Rattle.exchange.specs.ModelRow.{Valid, Within, Agree, Exchange, swap, copies, weigh}
use Rattle.exchange.specs.ModelCircuit.{cost, costs, Circuit, Crossed, Uncrossed, Better, turn}
use Rattle.exchange.proofs.Picked.{picked, picked-at, out_le, several_at, several_sum}
use Rattle.exchange.proofs.Several.{several_valid}

-- ---- the cost of an arc

module _ (P C : ℕ) (g : ℕ → ℕ → ℕ) (light : (p b : ℕ) → g p b ≤ C) where
  -- The cost of an exchange: nothing is cut off.
  pub cost-row : (q a b : ℕ) → q < P → cost P C g q a b + g q b ≡ C + g q a
  unfolding cost
  cost-row q a b l = omega (arith, ap (λ (t : Bool). cond t (C + g q a - g q b) C) (lt-ltb q P l), light q b)

  -- The cost of a step over the store.
  pub cost-store : (q a b : ℕ) → P ≤ q → cost P C g q a b ≡ C
  unfolding cost
  cost-store q a b l = ap (λ (t : Bool). cond t (C + g q a - g q b) C) (le-ltb q P l)

  -- Costs by the weights that an arc at q takes from and brings to the partitions.
  cost_law : (q a b : ℕ) → cost P C g q a b + sum_to P (λ p. is q p * g p b) ≡ C + sum_to P (λ p. is q p * g p a)
  cost_law q a b =
      ⊎_elim (λ l. omega (arith, cost-row q a b l, sum_is P q (λ p. g p a) l, sum_is P q (λ p. g p b) l))
      (λ r. omega (arith, cost-store q a b r, sum-none P q (λ p. g p a) r, sum-none P q (λ p. g p b) r)) (lt_or_ge q P)

-- ---- what a circuit is made of

-- The source of an arc, and whether an arc is of partition p.
abbrev next : (ℕ → ℕ) → ℕ → ℕ
next y i = y (suc i)

abbrev mask : (ℕ → ℕ) → ℕ → ℕ → ℕ
mask q p i = is (q i) p

-- Of two exchanges of a row, the source of one and the target of the other.
pub mixed : {N R Z : ℕ} {zone : ℕ → ℕ} {free S : ℕ → ℕ → ℕ} {p a b d e : ℕ}
    → Exchange N R Z zone free S p a b → Exchange N R Z zone free S p d e → Valid N R Z zone (swap (S p) a e) → Exchange N R Z zone free S p a e
mixed u w v =
    record { a_node = u.a_node; b_node = w.b_node; a_in = u.a_in; b_out = w.b_out; a_free = u.a_free; b_free = w.b_free; valid = v }

module _ (P N R Z C : ℕ) (zone cap : ℕ → ℕ) (g free S : ℕ → ℕ → ℕ) (m : ℕ) (y q : ℕ → ℕ) (c : Circuit P N R Z C zone cap g free S m y q) where
  -- Both ends of an arc are nodes.
  pub ends : (i : ℕ) → i < m → (y (suc i) < N) × (y i < N)
  ends i l = ⊎_elim (λ e. (e.1.a_node, e.1.b_node)) (λ s. (s.1, s.2)) (c.arcs i l)

  -- An arc below P is an exchange of that row.
  pub exchange : (i p : ℕ) → i < m → p < P → q i ≡ p → Exchange N R Z zone free S p (y (suc i)) (y i)
  exchange i p l r e =
      ⊎_elim (λ x. subst (λ (k : ℕ). Exchange N R Z zone free S k (y (suc i)) (y i)) e x.1) (λ s. absurd (omega (arith, s.0))) (c.arcs i l)

  -- The source of a step over the store has room.
  room : (i : ℕ) → i < m → P ≤ q i → copies P S (y (suc i)) < cap (y (suc i))
  room i l r = ⊎_elim (λ x. absurd (omega (arith, x.0))) (λ s. s.3) (c.arcs i l)

  -- Different arcs have different sources.
  pub sources_differ : (i j : ℕ) → i < j → j < m → y (suc i) ≡ y (suc j) → ⊥
  sources_differ i j l k e =
      ⊎_elim (λ a. c.distinct (suc i) (suc j) (omega arith) a e)
      (λ b. let d : suc j ≡ m = omega arith in c.distinct 0 (suc i) (omega arith) (omega arith) (sym (e ∙ (ap y d ∙ c.closed))))
      (lt_or_ge (suc j) m)

  -- A node is entered once at most.
  once : (x : ℕ) → hits m y x ≤ 1
  unfolding hits
  once x = ⊎_elim (λ l. omega arith) (λ r. absurd (two r)) (lt_or_ge (sum_to m (λ i. is (y i) x)) 2)
    where
      two : 2 ≤ sum_to m (λ i. is (y i) x) → ⊥
      two r =
          let w = two_bits m (λ i. is (y i) x) (λ i l. is_le (y i) x) r in
          c.distinct w.0 w.1 w.2 w.3 (is_one (y w.0) x w.4 ∙ sym (is_one (y w.1) x w.5))

  -- A node is left as often as it is entered.
  left : (x : ℕ) → sum_to m (λ i. is (y (suc i)) x) ≡ hits m y x
  unfolding hits sum_to
  left x = omega (arith, sum_first m (λ i. is (y i) x), ap (λ (k : ℕ). is k x) c.closed)

  -- A circuit has at most as many arcs as there are nodes.
  pub at-most-nodes : m ≤ N
  at-most-nodes = ⊎_elim (λ l. absurd (two l)) (λ r. r) (lt_or_ge N m)
    where
      two : N < m → ⊥
      two l =
          let w = pigeonhole m N y (λ i k. (ends i k).1) l in
          c.distinct w.0 w.1 w.2 w.3 w.4

  -- ---- one row of the layout after the turn

  -- No more leaves a row than is there.
  leaves_le : (p : ℕ) → p < P → (x : ℕ) → picked m (mask q p) (next y) x ≤ S p x
  leaves_le p r x =
      out_le m (mask q p) (next y) (λ i l. is_le (q i) p) (S p) (λ i l e. (exchange i p l r (is_one (q i) p e)).a_in)
      (λ i j l k d e. sources_differ i j l k) x

  -- What a row has after the turn, with what left it, is what it had, with what came in.
  turned : (p : ℕ) → p < P → (x : ℕ)
      → turn m y q S p x + picked m (mask q p) (next y) x ≡ S p x + picked m (mask q p) y x
  unfolding turn
  turned p r x = several_at m (mask q p) (next y) y (S p) x (leaves_le p r x)

  -- Pairs that are not free stay.
  turn-agrees : Agree P N free S (turn m y q S)
  unfolding turn
  turn-agrees p r b l e =
      omega (
        arith,
        still y (λ i k d a. subst (λ (t : ℕ). free p t ≡ 1) a (exchange i p k r d).b_free),
        still (next y) (λ i k d a. subst (λ (t : ℕ). free p t ≡ 1) a (exchange i p k r d).a_free),
      )
    where
      still : (f : ℕ → ℕ) → ((i : ℕ) → i < m → q i ≡ p → f i ≡ b → free p b ≡ 1) → picked m (mask q p) f b ≡ 0
      still f h =
          ⊎_elim (λ a. omega arith)
          (λ d. let w = picked-at m (mask q p) f (λ i k. is_le (q i) p) b d in
          absurd (omega (arith, h w.0 w.1 (is_one (q w.0) p w.2) w.3)))
          (lt_or_ge (picked m (mask q p) f b) 1)

  -- ---- the copies of a node

  -- Whether an arc of some row has b as its end f: a step over the store has it in none.
  abbrev of_row : (ℕ → ℕ) → ℕ → ℕ → ℕ
  of_row f b i = sum_to P (λ p. is (q i) p * is (f i) b)

  -- An arc of a row counts where its end is b.
  row_counts : (f : ℕ → ℕ) (b i : ℕ) → q i < P → of_row f b i ≡ is (f i) b
  row_counts f b i r = sum_is P (q i) (λ p. is (f i) b) r

  -- The arcs of rows that end at b are among all that do.
  rows-among : (f : ℕ → ℕ) (b : ℕ) → sum_to m (of_row f b) ≤ sum_to m (λ i. is (f i) b)
  rows-among f b =
      sum_le m (of_row f b) (λ i. is (f i) b)
      (λ i k. ⊎_elim (λ r. omega (arith, row_counts f b i r)) (λ r. omega (arith, sum-none P (q i) (λ p. is (f i) b) r)) (lt_or_ge (q i) P))

  -- The copies of a node after the turn, with what the rows give up of it, are those before, with what they take in.
  balance : (b : ℕ) → copies P (turn m y q S) b + sum_to m (of_row (next y) b) ≡ copies P S b + sum_to m (of_row y b)
  unfolding copies
  balance b =
      omega (
        arith,
        sum_balance P (λ p. turn m y q S p b) (λ p. picked m (mask q p) (next y) b) (λ p. S p b) (λ p. picked m (mask q p) y b)
            (λ p r. turned p r b),
        sum-swap P m (λ p i. is (q i) p * is (y i) b),
        sum-swap P m (λ p i. is (q i) p * is (y (suc i)) b),
      )

  -- Where a node has more copies than before, its leaving arc is a step over the store, which it had room for.
  turn-caps : ((b : ℕ) → b < N → copies P S b ≤ cap b) → (b : ℕ) → b < N → copies P (turn m y q S) b ≤ cap b
  unfolding hits
  turn-caps h b l =
      ⊎_elim (λ a. one (sum-witness m (of_row (next y) b) (λ i. is (next y i) b) a))
      (λ r. omega (arith, balance b, rows-among y b, left b, h b l))
      (lt_or_ge (sum_to m (of_row (next y) b)) (sum_to m (λ i. is (next y i) b)))
    where
      one : (i : ℕ) × (i < m) × (of_row (next y) b i < is (y (suc i)) b) → copies P (turn m y q S) b ≤ cap b
      one (i, k, a) =
          ⊎_elim (λ r. absurd (omega (arith, row_counts (next y) b i r)))
          (λ r. let e : y (suc i) ≡ b = is_one (y (suc i)) b (omega (arith, is_le (y (suc i)) b)) in
          omega (arith, balance b, rows-among y b, once b, subst (λ (x : ℕ). copies P S x < cap x) e (room i k r)))
          (lt_or_ge (q i) P)

  -- A node that has fewer copies than before is entered by a step over the store.
  pub turn-room : (b : ℕ) → copies P (turn m y q S) b < copies P S b → (i : ℕ) × (i < m) × (P ≤ q i) × (y i ≡ b)
  unfolding hits
  turn-room b less = one (sum-witness m (of_row y b) (λ i. is (y i) b) (omega (arith, balance b, rows-among (next y) b, left b)))
    where
      one : (i : ℕ) × (i < m) × (of_row y b i < is (y i) b) → (i : ℕ) × (i < m) × (P ≤ q i) × (y i ≡ b)
      one (i, k, a) =
          ⊎_elim (λ r. absurd (omega (arith, row_counts y b i r)))
          (λ r. (i, k, r, is_one (y i) b (omega (arith, is_le (y i) b)))) (lt_or_ge (q i) P)

  -- A row that no arc is of stays.
  pub turn-kept : (p : ℕ) → ((i : ℕ) → i < m → q i ≡ p → ⊥) → (x : ℕ) → turn m y q S p x ≡ S p x
  unfolding turn
  turn-kept p none x =
      omega (
        arith,
        sum_zero m (λ i. is (q i) p * is (y i) x) (λ i l. not_times (none i l) (is (y i) x)),
        sum_zero m (λ i. is (q i) p * is (y (suc i)) x) (λ i l. not_times (none i l) (is (y (suc i)) x)),
      )

  -- ---- the weight

  -- What the arcs cost less than C each, the layout wins.
  pub turn-weighs : ((p b : ℕ) → g p b ≤ C) → weigh P N g (turn m y q S) + costs P C g m y q ≡ weigh P N g S + m * C
  unfolding weigh turn
  turn-weighs light =
      omega (
        arith,
        sum_balance P (λ p. sum_to N (λ x. turn m y q S p x * g p x)) (λ p. sum_to m (at (next y) p)) (λ p. sum_to N (λ x. S p x * g p x))
            (λ p. sum_to m (at y p)) row,
        sum-swap P m (at y),
        sum-swap P m (at (next y)),
        sum_balance m (λ i. cost P C g (q i) (next y i) (y i)) (λ i. sum_to P (λ p. at y p i)) (λ i. C) (λ i. sum_to P (λ p. at (next y) p i))
            (λ i l. cost_law P C g light (q i) (next y i) (y i)),
        sum_const m C,
      )
    where
      -- The weight at partition p of the end f of arc i.
      at : (ℕ → ℕ) → ℕ → ℕ → ℕ
      at f p i = is (q i) p * g p (f i)

      row : (p : ℕ) → p < P
          → sum_to N (λ x. turn m y q S p x * g p x) + sum_to m (at (next y) p) ≡ sum_to N (λ x. S p x * g p x) + sum_to m (at y p)
      row p r =
          several_sum m (mask q p) (next y) y (S p) (λ i l. is_le (q i) p) N (λ i l e. ends i l) (λ x l. leaves_le p r x) (g p)

  -- ---- all together

  -- Two arcs of a row that may be crossed one way and the other.
  pub crossing : (i j p : ℕ) → i < m → j < m → p < P → q i ≡ p → q j ≡ p → Valid N R Z zone (swap (S p) (y (suc i)) (y j))
      → Valid N R Z zone (swap (S p) (y (suc j)) (y i)) → Crossed P N R Z zone free S y q i j
  crossing i j p l k r d e v w =
      let u = exchange i p l r d in
      let x = exchange j p k r e in
      record { row = omega arith; same = d ∙ sym e; outer = at_row (mixed x u w); inner = at_row (mixed u x v) }
    where
      at_row : {a b : ℕ} → Exchange N R Z zone free S p a b → Exchange N R Z zone free S (q i) a b
      at_row {a} {b} h = subst (λ (k : ℕ). Exchange N R Z zone free S k a b) (sym d) h

  -- The layout after the turn of a circuit in which no two exchanges can be crossed is better.
  pub turn_better : ((x : ℕ) → x < N → zone x < N) → ((p b : ℕ) → g p b ≤ C) → Within P N R Z zone cap S
      → Uncrossed P N R Z zone free S m y q → Better P N R Z C zone cap g free S (turn m y q S)
  turn_better zones light w uncrossed =
      record {
        within = record { rows = rows; caps = turn-caps w.caps };
        agrees = turn-agrees;
        more = omega (arith, turn-weighs light, c.gains);
        most = omega (arith, turn-weighs light, mul-le-mul_right C at-most-nodes);
      }
    where
      rows : (p : ℕ) → p < P → Valid N R Z zone (turn m y q S p)
      rows p r =
          unfold turn in
          several_valid N R Z zone (S p) zones (w.rows p r) m (mask q p) (next y) y (λ i l. is_le (q i) p)
          (λ i l e. let x = exchange i p l r (is_one (q i) p e) in (x.a_node, x.b_node, x.a_in, x.b_out, x.valid))
          (λ i j l k d e. (sources_differ i j l k, c.distinct i j l k))
          (λ i j l k d e v w. uncrossed i j l k (crossing i j p (omega arith) k r (is_one (q i) p d) (is_one (q j) p e) v w))
