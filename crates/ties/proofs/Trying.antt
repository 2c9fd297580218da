-- Whether a pair can come in: not where a set shuts it out, and it does along a shortest way.
-- Assumes nothing.
use Prim.Native.Nat.{ℕ, suc, ◌+◌, ◌-◌, ◌*◌, ◌≤◌, ◌<◌}
use mathlib.Core.Path.{◌≡◌, refl, sym, ap, ◌∙◌, subst}
use mathlib.Core.Logic.{◌⊎◌, inl, inr, ⊎_elim}
use native.Mathlib.Nat.{mul-zero, mul-add, mul_assoc, mul_comm, one-mul, zero-mul}
use native.Mathlib.Omega.{arith}
use Rattle.sums.specs.TermsSums.{sum_to}
use Rattle.sums.specs.ModelSums.{is}
use Rattle.sums.proofs.Sum.{lt_or_ge, eq_or_ne, is_eq, is_ne, is_le, sum_cong, sum_le, sum-add, sum_scale, sum_const, sum_first, sum_is}
use Rattle.sums.proofs.Count.{bit_times}
use Rattle.exchange.specs.ModelRow.{Within, Agree, Exchange, weigh}
use Rattle.exchange.specs.ModelPrices.{Potential}
use Rattle.exchange.specs.ModelCircuit.{cost, costs, Circuit, Uncrossed, Better, Allowed, turn}
use Rattle.exchange.proofs.Prices.{potential_best}
use Rattle.exchange.proofs.Circuit.{cost-row, cost-store, turn_better}
use Rattle.ties.specs.ModelOrder.{any}
use Rattle.ties.specs.ModelEven.{tried, Even, Shut, Way}

-- ---- the weights of a trial

-- The pair that is tried weighs twice what it did, and 1 more.
tried-at : (g : ℕ → ℕ → ℕ) (p b : ℕ) → tried g p b p b ≡ 2 * g p b + 1
unfolding tried
tried-at g p b =
    omega (arith, ap (λ (t : ℕ). t * is b b) (is_eq {a = p} {b = p} refl), one-mul (is b b), is_eq {a = b} {b = b} refl)

-- Every other pair weighs twice what it did.
tried_off : (g : ℕ → ℕ → ℕ) (p b q x : ℕ) → (p ≡ q → b ≡ x → ⊥) → tried g p b q x ≡ 2 * g q x
unfolding tried
tried_off g p b q x n =
    ⊎_elim
    (λ e. omega (arith, ap (λ (t : ℕ). is p q * t) (is_ne (n e)), mul-zero (is p q)))
    (λ h. omega (arith, ap (λ (t : ℕ). t * is b x) (is_ne h), zero-mul (is b x)))
    (eq_or_ne p q)

-- No pair weighs less than twice what it did.
tried_ge : (g : ℕ → ℕ → ℕ) (p b q x : ℕ) → 2 * g q x ≤ tried g p b q x
unfolding tried
tried_ge g p b q x = omega arith

-- Where no pair weighs more than 1, none weighs more than 3 in a trial.
tried_le : (g : ℕ → ℕ → ℕ) (p b : ℕ) → ((p b : ℕ) → g p b ≤ 1) → (q x : ℕ) → tried g p b q x ≤ 3
unfolding tried
tried_le g p b h q x = omega (arith, h q x, bit_times (is_le p q) (is_le b x))

-- A layout weighs twice what it did, and 1 more if it has the pair.
pub weigh-tried : (P N : ℕ) (g X : ℕ → ℕ → ℕ) (p b : ℕ) → p < P → b < N → weigh P N (tried g p b) X ≡ 2 * weigh P N g X + X p b
unfolding weigh tried
weigh-tried P N g X p b l k =
    sum_cong P (λ q. sum_to N (λ x. X q x * (2 * g q x + is p q * is b x))) (λ q. 2 * sum_to N (λ x. X q x * g q x) + is p q * X q b) row
    ∙ omega (
      arith,
      sum-add P (λ q. 2 * sum_to N (λ x. X q x * g q x)) (λ q. is p q * X q b),
      sum_scale P 2 (λ q. sum_to N (λ x. X q x * g q x)),
      sum_is P p (λ q. X q b) l,
    )
  where
    at : (q x : ℕ) → X q x * (2 * g q x + is p q * is b x) ≡ 2 * (X q x * g q x) + is p q * (is b x * X q x)
    at q x =
        omega (
          arith,
          mul-add (X q x) (2 * g q x) (is p q * is b x),
          mul_comm (X q x) (2 * g q x),
          mul_assoc 2 (g q x) (X q x),
          mul_comm (g q x) (X q x),
          mul_comm (X q x) (is p q * is b x),
          mul_assoc (is p q) (is b x) (X q x),
        )

    row : (q : ℕ) → q < P → sum_to N (λ x. X q x * (2 * g q x + is p q * is b x)) ≡ 2 * sum_to N (λ x. X q x * g q x) + is p q * X q b
    row q h =
        sum_cong N (λ x. X q x * (2 * g q x + is p q * is b x)) (λ x. 2 * (X q x * g q x) + is p q * (is b x * X q x)) (λ x j. at q x)
        ∙ omega (
          arith,
          sum-add N (λ x. 2 * (X q x * g q x)) (λ x. is p q * (is b x * X q x)),
          sum_scale N 2 (λ x. X q x * g q x),
          sum_scale N (is p q) (λ x. is b x * X q x),
          ap (λ (t : ℕ). is p q * t) (sum_is N b (λ x. X q x) k),
        )

module _ (P N R Z : ℕ) (zone cap : ℕ → ℕ) (g free S : ℕ → ℕ → ℕ) (d : ℕ → ℕ) (zones : (x : ℕ) → x < N → zone x < N)
    (s : Within P N R Z zone cap S) (h : Potential P N R Z zone cap g any S d) (p b : ℕ) (in_p : p < P) (in_b : b < N) (out : S p b ≡ 0)
  where
    -- An exchange in free pairs is one in any pairs.
    loose : {q a c : ℕ} → Exchange N R Z zone free S q a c → Exchange N R Z zone any S q a c
    loose e = record { a_node = e.a_node; b_node = e.b_node; a_in = e.a_in; b_out = e.b_out; a_free = refl; b_free = refl; valid = e.valid }

    -- The potential along an exchange in free pairs.
    along : (q a c : ℕ) → q < P → Exchange N R Z zone free S q a c → d c + g q c ≤ d a + g q a
    along q a c l e = h.along q a c l (loose e)

    -- The source of an exchange is not the pair that is tried.
    source_off : (q a c : ℕ) → Exchange N R Z zone free S q a c → tried g p b q a ≡ 2 * g q a
    source_off q a c e =
        tried_off g p b q a (λ u v. omega (arith, e.a_in, ap (λ (t : ℕ). S t a) u, ap (S p) v))

    -- ---- no

    module _ (bits : (p b : ℕ) → free p b ≤ 1) (X : ℕ → ℕ) (x : Shut P N R Z zone cap g free S d p b X) where
      -- The potential twice, and 1 more outside the set.
      lowered : ℕ → ℕ
      lowered v = 2 * d v + 1 - X v

      -- Nothing is cut off.
      low : (v : ℕ) → lowered v + X v ≡ 2 * d v + 1
      unfolding lowered
      low v = omega (arith, x.bits v)

      -- Along an exchange it rises at most by the weight lost in the trial.
      shut_along : (q a c : ℕ) → q < P → Exchange N R Z zone free S q a c → lowered c + tried g p b q c ≤ lowered a + tried g p b q a
      shut_along q a c l e = ⊎_elim even loses (eq_or_ne (d c + g q c) (d a + g q a))
        where
          target : (tried g p b q c ≡ 2 * g q c) ⊎ ((p ≡ q) × (b ≡ c) × (tried g p b q c ≡ 2 * g q c + 1))
          target =
              ⊎_elim
              (λ u. ⊎_elim
              (λ v. inr (
                u,
                v,
                subst (λ (k : ℕ). tried g p b k c ≡ 2 * g k c + 1) u (subst (λ (k : ℕ). tried g p b p k ≡ 2 * g p k + 1) v (tried-at g p b)),
              ))
              (λ n. inl (tried_off g p b q c (λ i j. n j))) (eq_or_ne b c))
              (λ n. inl (tried_off g p b q c (λ i j. n i))) (eq_or_ne p q)

          even : d c + g q c ≡ d a + g q a → lowered c + tried g p b q c ≤ lowered a + tried g p b q a
          even t =
              let k : Even N R Z zone g free S d q a c = record { exchange = e; level = t } in
              ⊎_elim (λ u. omega (arith, u, source_off q a c e, low a, low c, x.along q a c l k))
              (λ u.
              let z : X a ≡ 0 =
              x.none a
              (subst (λ (i : ℕ). Even N R Z zone g free S d p a i) (sym u.1)
              (subst (λ (i : ℕ). Even N R Z zone g free S d i a c) (sym u.0) k)) in
              omega (arith, u.2, source_off q a c e, low a, low c, z, x.begins, ap X u.1))
              target

          loses : (d c + g q c ≡ d a + g q a → ⊥) → lowered c + tried g p b q c ≤ lowered a + tried g p b q a
          loses n =
              let f : suc (d c + g q c) ≤ d a + g q a =
              ⊎_elim (λ i. i) (λ i. absurd (n (omega (arith, along q a c l e)))) (lt_or_ge (d c + g q c) (d a + g q a)) in
              ⊎_elim (λ u. omega (arith, u, source_off q a c e, low a, low c, x.bits a, x.bits c))
              (λ u. omega (arith, u.2, source_off q a c e, low a, low c, x.bits a, x.begins, ap X u.1)) target

      -- It is a potential for the weights of the trial.
      shut_potential : Potential P N R Z zone cap (tried g p b) free S lowered
      shut_potential =
          record {
            along = shut_along;
            room = λ u v l k r.
                ⊎_elim (λ i. omega (arith, low u, low v, x.bits u))
                (λ i. let e : d v ≡ d u = omega (arith, h.room u v l k r) in omega (arith, low u, low v, x.room u v l k r e))
                (lt_or_ge (d v) (d u));
          }

      -- No layout of the same weight that agrees with S where nothing is free has the pair.
      pub shut_out : (T : ℕ → ℕ → ℕ) → Within P N R Z zone cap T → Agree P N free S T → weigh P N g T ≡ weigh P N g S → T p b ≡ 0
      shut_out T w a e =
          omega (
            arith,
            potential_best P N R Z zone cap (tried g p b) free S lowered zones bits s shut_potential T w a,
            weigh-tried P N g S p b in_p in_b,
            weigh-tried P N g T p b in_p in_b,
          )

    -- ---- yes

    module _ (light : (p b : ℕ) → g p b ≤ 1) (m : ℕ) (y q w : ℕ → ℕ) (x : Way P N R Z zone cap g free S d p b m y q w) where
      -- An arc is one of the way, or the last.
      last_or : (i : ℕ) → i < suc m → (i < m) ⊎ (i ≡ m)
      last_or i l = ⊎_elim (λ k. inl k) (λ k. inr (omega arith)) (lt_or_ge i m)

      -- The last arc, with which the node gives way.
      closing : Allowed P N R Z zone cap free S (q m) (y (suc m)) (y m)
      closing =
          inl (
            omega (arith, x.last),
            subst (λ (k : ℕ). Exchange N R Z zone free S k (y (suc m)) (y m)) (sym x.last)
                (subst (λ (k : ℕ). Exchange N R Z zone free S p k (y m)) (sym x.closed)
                (subst (λ (k : ℕ). Exchange N R Z zone free S p (y 0) k) (sym x.begins) x.gives.exchange)),
          )

      -- Every arc is allowed.
      arc : (i : ℕ) → i < suc m → Allowed P N R Z zone cap free S (q i) (y (suc i)) (y i)
      arc i l =
          ⊎_elim (λ k. x.arcs i k)
          (λ e. subst (λ (k : ℕ). Allowed P N R Z zone cap free S (q k) (y (suc k)) (y k)) (sym e) closing) (last_or i l)

      -- An arc costs at most twice what the potential rises along it.
      arc-cost : (i : ℕ) → i < m → cost P 3 (tried g p b) (q i) (y (suc i)) (y i) + 2 * d (y (suc i)) ≤ 3 + 2 * d (y i)
      arc-cost i l =
          ⊎_elim
          (λ a. omega (
            arith,
            cost-row P 3 (tried g p b) (tried_le g p b light) (q i) (y (suc i)) (y i) a.0,
            source_off (q i) (y (suc i)) (y i) a.1,
            tried_ge g p b (q i) (y i),
            x.rows i l a.0,
          ))
          (λ a. omega (
            arith,
            cost-store P 3 (tried g p b) (tried_le g p b light) (q i) (y (suc i)) (y i) (omega (arith, a.0)),
            x.store i l (omega (arith, a.0)),
          ))
          (x.arcs i l)

      -- The last arc costs 1 less than that.
      last-cost : cost P 3 (tried g p b) (q m) (y (suc m)) (y m) + 2 * d (y (suc m)) + 1 ≡ 3 + 2 * d (y m)
      last-cost =
          rw (x.last, x.closed, x.begins)
          (omega (
            arith,
            cost-row P 3 (tried g p b) (tried_le g p b light) p (y 0) b in_p,
            source_off p (y 0) b x.gives.exchange,
            tried-at g p b,
            x.gives.level,
          ))

      -- All arcs together cost less than nothing, as the potential comes back to where it was.
      gains : costs P 3 (tried g p b) (suc m) y q < suc m * 3
      unfolding sum_to
      gains =
          omega (
            arith,
            sum_le m (λ i. cost P 3 (tried g p b) (q i) (y (suc i)) (y i) + 2 * d (y (suc i))) (λ i. 3 + 2 * d (y i)) arc-cost,
            sum-add m (λ i. cost P 3 (tried g p b) (q i) (y (suc i)) (y i)) (λ i. 2 * d (y (suc i))),
            sum-add m (λ i. 3) (λ i. 2 * d (y i)),
            sum_const m 3,
            last-cost,
            sum_first m (λ i. 2 * d (y i)),
            ap d x.closed,
          )

      -- No node of the way comes twice: each is reached in another number of steps.
      distinct : (i j : ℕ) → i < j → j < suc m → y i ≡ y j → ⊥
      distinct i j l k e = omega (arith, x.steps i (omega arith), x.steps j (omega arith), ap w e)

      -- The way with the last arc is a circuit for the weights of the trial.
      pub way_circuit : Circuit P N R Z 3 zone cap (tried g p b) free S (suc m) y q
      way_circuit = record { closed = x.closed; distinct = distinct; arcs = arc; gains = gains }

      -- The level of an arc, also of the last one.
      arc-level : (i : ℕ) → i < suc m → q i < P → d (y i) + g (q i) (y i) ≡ d (y (suc i)) + g (q i) (y (suc i))
      arc-level i l r =
          ⊎_elim (λ k. x.rows i k r) (λ e. rw e (rw (x.last, x.closed, x.begins) x.gives.level)) (last_or i l)

      -- Two exchanges that could be crossed would make the way shorter.
      pub way_uncrossed : Uncrossed P N R Z zone free S (suc m) y q
      way_uncrossed i j l k c =
          let r : q i < P = c.row in
          let e = c.same in
          let li = arc-level i (omega arith) r in
          let lj : d (y j) + g (q i) (y j) ≡ d (y (suc j)) + g (q i) (y (suc j)) =
          omega (arith, arc-level j k (omega arith), ap (λ (t : ℕ). g t (y j)) e, ap (λ (t : ℕ). g t (y (suc j))) e) in
          let u = along (q i) (y (suc j)) (y i) r c.outer in
          let v = along (q i) (y (suc i)) (y j) r c.inner in
          ⊎_elim
          (λ a.
          let n = x.near (q i) (y (suc j)) (y i) r (record { exchange = c.outer; level = omega arith }) in
          omega (arith, x.steps i (omega arith), x.steps (suc j) (omega arith)))
          (λ a.
          let p-is : q i ≡ p = e ∙ (ap q a ∙ x.last) in
          let t : Even N R Z zone g free S d (q i) (y (suc i)) (y j) = record { exchange = c.inner; level = omega arith } in
          let n =
          x.givers (y (suc i))
          (subst (λ (z : ℕ). Even N R Z zone g free S d p (y (suc i)) z) (ap y a ∙ x.begins)
          (subst (λ (z : ℕ). Even N R Z zone g free S d z (y (suc i)) (y j)) p-is t)) in
          omega (arith, x.steps (suc i) (omega arith)))
          (last_or j k)

      -- The turn leads to a layout that weighs more in the trial.
      better : Better P N R Z 3 zone cap (tried g p b) free S (turn (suc m) y q S)
      better =
          turn_better P N R Z 3 zone cap (tried g p b) free S (suc m) y q way_circuit zones (tried_le g p b light) s way_uncrossed

      -- The turn leads to a layout of the same weight that agrees with S where nothing is free and has the pair.
      pub let_in : Within P N R Z zone cap (turn (suc m) y q S) × Agree P N free S (turn (suc m) y q S)
          × (weigh P N g (turn (suc m) y q S) ≡ weigh P N g S) × (turn (suc m) y q S p b ≡ 1)
      let_in =
          let T = turn (suc m) y q S in
          let t = better.within in
          let most = potential_best P N R Z zone cap g any S d zones (λ p b. omega arith) s h T t (λ i j k l z. absurd (omega arith)) in
          let bit = (t.rows p in_p).bits b in_b in
          let one = weigh-tried P N g S p b in_p in_b in
          let two = weigh-tried P N g T p b in_p in_b in
          (t, better.agrees, omega (arith, better.more), omega (arith, better.more))
