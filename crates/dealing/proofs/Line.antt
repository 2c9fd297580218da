-- The line of copies, dealt round the partitions, for any numbers n of copies of the nodes: every row has its share of the line, and touches
-- the zones that it must.
-- Assumes nothing.
use Prim.Native.Nat.{ℕ, ◌+◌, ◌-◌, ◌*◌, ◌/◌, ◌%◌, ◌≤◌, ◌<◌, min}
use mathlib.Core.Path.{◌≡◌, sym, ap, ap₂, ◌∙◌}
use mathlib.Core.Bool.{Bool, true, false, cond}
use mathlib.Core.Logic.{◌⊎◌, inl, inr, ⊎_elim}
use native.Mathlib.Nat.{zero-add, mul-zero, mul-one, mul_comm, add-mul-div_right, le-div_iff_mul-le}
use native.Mathlib.Omega.{arith}
use lib.Dec.{ltb}
use borrow.Author.Tests.{lt-ltb, le-ltb}
use Rattle.sums.specs.TermsSums.{sum_to, one_if}
use Rattle.sums.specs.ModelSums.{is}
use Rattle.sums.proofs.Sum.{lt_or_ge, eq_or_ne, is_times, not_times, sum_cong, sum_le, sum-add, sum_scale}
use Rattle.exchange.specs.ModelRow.{zone_count, cover, copies}
use Rattle.dealing.specs.ModelDeal.{in_zone, light, heavy, zone_start, totals, start, among}
use Rattle.dealing.proofs.Climb.{climb, climb_sum, climb_none, zones-sum}
use Rattle.dealing.proofs.Turns.{turns, turns_rising, turns_none, turns_round, turns_among, turns_sum, turns_ge}

-- A run reaches a partition at most once, as the test counts.
pub among_le : (P x k p : ℕ) → among P x k p ≤ 1
unfolding among one_if
among_le P x k p = go (ltb ((p + P - x % P) % P) k)
  where
    go : (t : Bool) → one_if t ≤ 1
    go true = omega arith
    go false = omega arith

-- The zone counts of the theory of rows.
pub zone_count-in_zone : (N : ℕ) (zone S : ℕ → ℕ) (z : ℕ) → zone_count N zone S z ≡ in_zone zone S z N
unfolding zone_count in_zone
zone_count-in_zone N zone S z = sum_cong N (λ x. S x * is (zone x) z) (λ x. is (zone x) z * S x) (λ x l. mul_comm (S x) (is (zone x) z))

-- 1 for a heavy zone, else 0.
unfoldable pub weighty : ℕ → (ℕ → ℕ) → ℕ → ℕ
weighty P t z = cond (ltb (t z) P) 0 1

module _ (P N : ℕ) (t : ℕ → ℕ) (z : ℕ) where
  -- A light zone, and all that hangs on it.
  pub record Light : Type 0 where
    pub few : t z < P
    pub lights : light P t z ≡ t z
    pub heavies : heavy P t z ≡ 0
    pub weights : weighty P t z ≡ 0
    pub begins : zone_start P N t z ≡ sum_to z (light P t)

  -- A heavy zone, in the same way.
  pub record Heavy : Type 0 where
    pub many : P ≤ t z
    pub lights : light P t z ≡ 0
    pub heavies : heavy P t z ≡ t z
    pub weights : weighty P t z ≡ 1
    pub begins : zone_start P N t z ≡ sum_to N (light P t) + sum_to z (heavy P t)

  -- A zone with fewer than P copies is light,
  pub light_zone : t z < P → Light
  unfolding light heavy weighty zone_start
  light_zone h = let e = lt-ltb (t z) P h in record { few = h; lights = rw e; heavies = rw e; weights = rw e; begins = rw e }

  -- and another one is heavy.
  pub heavy_zone : P ≤ t z → Heavy
  unfolding light heavy weighty zone_start
  heavy_zone h = let e = le-ltb (t z) P h in record { many = h; lights = rw e; heavies = rw e; weights = rw e; begins = rw e }

  light_or_heavy : Light ⊎ Heavy
  light_or_heavy = ⊎_elim (λ h. inl (light_zone h)) (λ h. inr (heavy_zone h)) (lt_or_ge (t z) P)

  -- The two parts are the whole zone.
  light-heavy : light P t z + heavy P t z ≡ t z
  light-heavy = ⊎_elim (λ (a : Light). omega arith) (λ (b : Heavy). omega arith) light_or_heavy

-- The light zones and the heavy ones have all copies.
pub lights_heavies : (P : ℕ) (t : ℕ → ℕ) (n : ℕ) → sum_to n (light P t) + sum_to n (heavy P t) ≡ sum_to n t
lights_heavies P t n =
    sym (sum-add n (light P t) (heavy P t)) ∙ sum_cong n (λ z. light P t z + heavy P t z) t (λ z l. light-heavy P n t z)

module _ (P N : ℕ) (zone n : ℕ → ℕ) where
  -- The light and the heavy zones are the whole line.
  pub line-length : ((x : ℕ) → x < N → zone x < N) → sum_to N (light P (totals zone n N)) + sum_to N (heavy P (totals zone n N)) ≡ sum_to N n
  line-length zones = lights_heavies P (totals zone n N) N ∙ zones-sum zone N n N zones

  -- What the zones count, at most P each: the light copies, and P for each heavy zone.
  zones-count : sum_to N (λ z. min P (in_zone zone n z N)) ≡ sum_to N (light P (totals zone n N)) + sum_to N (weighty P (totals zone n N)) * P
  zones-count =
      sum_cong N (λ z. min P (in_zone zone n z N)) (λ z. light P (totals zone n N) z + P * weighty P (totals zone n N) z)
      (λ z l. ⊎_elim (λ (a : Light P N (totals zone n N) z). omega (arith, ap (λ (t : ℕ). P * t) a.weights, mul-zero P))
      (λ (b : Heavy P N (totals zone n N) z). omega (arith, ap (λ (t : ℕ). P * t) b.weights, mul-one P)) (light_or_heavy P N (totals zone n N) z))
      ∙ (sum-add N (light P (totals zone n N)) (λ z. P * weighty P (totals zone n N) z)
      ∙ ap (λ (t : ℕ). sum_to N (light P (totals zone n N)) + t) (sum_scale N P (weighty P (totals zone n N)) ∙ mul_comm P (sum_to N (weighty P (totals zone n N)))))

-- The row of partition p, where the copies n of the nodes stand in the line and are dealt.
unfoldable pub line : (P N : ℕ) (zone n : ℕ → ℕ) → ℕ → ℕ → ℕ
line P N zone n p b = among P (start P N zone n b) (n b) p

module _ (P N : ℕ) (zone n : ℕ → ℕ) (some : 1 ≤ P) (zones : (x : ℕ) → x < N → zone x < N) (few : (x : ℕ) → x < N → n x ≤ P) where
  -- A node comes into as many rows as it has copies.
  pub line-copies : (b : ℕ) → b < N → copies P (line P N zone n) b ≡ n b
  unfolding copies line
  line-copies b l =
      let x = start P N zone n b in
      let e : x + sum_to P (λ p. line P N zone n p b) ≡ x + n b =
      ap (λ (t : ℕ). t + sum_to P (λ p. line P N zone n p b)) (sym (turns_sum P some x))
      ∙ (sym (sum-add P (λ p. turns P p x) (λ p. line P N zone n p b))
      ∙ (sum_cong P (λ p. turns P p x + line P N zone n p b) (λ p. turns P p (x + n b)) (λ p q. turns_among P some p x (n b) q (few b l))
      ∙ turns_sum P some (x + n b))) in
      omega arith

  module _ (p : ℕ) (small : p < P) where
    -- The nodes of a zone that come into the row: as often as the zone's part of the line comes round.
    zone_turns : (z : ℕ) → turns P p (zone_start P N (totals zone n N) z) + in_zone zone (line P N zone n p) z N
        ≡ turns P p (zone_start P N (totals zone n N) z + in_zone zone n z N)
    unfolding in_zone line start climb
    zone_turns z =
        let a = zone_start P N (totals zone n N) z in
        ap (λ (t : ℕ). turns P p a + t)
        (sum_cong N (λ b. is (zone b) z * line P N zone n p b) (climb (turns P p) a (λ x. is (zone x) z * n x))
        (λ b l. ⊎_elim
        (λ (e : zone b ≡ z). let x = a + in_zone zone n z b in
        omega (
          arith,
          is_times e (line P N zone n p b),
          ap (λ (w : ℕ). among P (zone_start P N (totals zone n N) w + in_zone zone n w b) (n b) p) e,
          turns_among P some p x (n b) small (few b l),
          ap (λ (t : ℕ). turns P p (x + t)) (is_times e (n b)),
        ))
        (λ e. omega (arith, not_times e (line P N zone n p b), climb_none (turns P p) a (λ x. is (zone x) z * n x) b (not_times e (n b))))
        (eq_or_ne (zone b) z)))
        ∙ climb_sum (turns P p) (turns_rising P some p) a (λ x. is (zone x) z * n x) N

    -- A zone's part of the row, as a step through the light zones and a step through the heavy ones.
    lighter : ℕ → ℕ
    lighter = climb (turns P p) 0 (light P (totals zone n N))

    heavier : ℕ → ℕ
    heavier = climb (turns P p) (sum_to N (light P (totals zone n N))) (heavy P (totals zone n N))

    light-steps : sum_to N lighter ≡ turns P p (sum_to N (light P (totals zone n N)))
    unfolding lighter
    light-steps =
        omega (
          arith,
          climb_sum (turns P p) (turns_rising P some p) 0 (light P (totals zone n N)) N,
          turns_none P some p,
          ap (turns P p) (zero-add (sum_to N (light P (totals zone n N)))),
        )

    zone_step : (a : ℕ) (f : ℕ → ℕ) (z : ℕ) → a + sum_to z f ≡ zone_start P N (totals zone n N) z → f z ≡ in_zone zone n z N
        → in_zone zone (line P N zone n p) z N ≡ climb (turns P p) a f z
    unfolding climb
    zone_step a f z e d = omega (arith, zone_turns z, ap (turns P p) e, ap (turns P p) (ap₂ ◌+◌ e d))

    zone_light : (z : ℕ) → Light P N (totals zone n N) z → (in_zone zone (line P N zone n p) z N ≡ lighter z) × (heavier z ≡ 0) × (lighter z ≤ 1)
    unfolding lighter heavier
    zone_light z a =
        let x = zone_start P N (totals zone n N) z in
        let e = zone_step 0 (light P (totals zone n N)) z (omega arith) a.lights in (
          e,
          climb_none (turns P p) (sum_to N (light P (totals zone n N))) (heavy P (totals zone n N)) z a.heavies,
          omega (arith, zone_turns z, turns_round P some p x, turns_rising P some p (x + in_zone zone n z N) (x + P) (omega arith)),
        )

    zone_heavy : (z : ℕ) → Heavy P N (totals zone n N) z → (in_zone zone (line P N zone n p) z N ≡ heavier z) × (lighter z ≡ 0) × (1 ≤ heavier z)
    unfolding lighter heavier
    zone_heavy z b =
        let x = zone_start P N (totals zone n N) z in
        let e = zone_step (sum_to N (light P (totals zone n N))) (heavy P (totals zone n N)) z (sym b.begins) b.heavies in (
          e,
          climb_none (turns P p) 0 (light P (totals zone n N)) z b.lights,
          omega (arith, zone_turns z, turns_round P some p x, turns_rising P some p (x + P) (x + in_zone zone n z N) (omega arith)),
        )

    -- The row has its share of the line.
    pub line_row : sum_to N (line P N zone n p) ≡ turns P p (sum_to N n)
    unfolding heavier
    line_row =
        sym (zones-sum zone N (line P N zone n p) N zones)
        ∙ (sum_cong N (λ z. in_zone zone (line P N zone n p) z N) (λ z. lighter z + heavier z)
        (λ z l. ⊎_elim (λ (a : Light P N (totals zone n N) z). omega (arith, zone_light z a)) (λ (b : Heavy P N (totals zone n N) z). omega (arith, zone_heavy z b)) (light_or_heavy P N (totals zone n N) z))
        ∙ omega (
          arith,
          sum-add N lighter heavier,
          light-steps,
          climb_sum (turns P p) (turns_rising P some p) (sum_to N (light P (totals zone n N))) (heavy P (totals zone n N)) N,
          ap (turns P p) (line-length P N zone n zones),
        ))

    -- Where the zones count Z * P, at most P each, the row touches Z of them.
    pub line-cover : (Z : ℕ) → Z * P ≤ sum_to N (λ z. min P (in_zone zone n z N)) → Z ≤ cover N zone (line P N zone n p)
    unfolding cover
    line-cover Z h =
        let wide : sum_to N (λ z. lighter z + weighty P (totals zone n N) z) ≤ cover N zone (line P N zone n p) =
        sum_le N (λ z. lighter z + weighty P (totals zone n N) z) (λ z. min 1 (zone_count N zone (line P N zone n p) z))
        (λ z l. ⊎_elim (λ (a : Light P N (totals zone n N) z). omega (arith, zone_light z a, zone_count-in_zone N zone (line P N zone n p) z))
        (λ (b : Heavy P N (totals zone n N) z). omega (arith, zone_heavy z b, zone_count-in_zone N zone (line P N zone n p) z)) (light_or_heavy P N (totals zone n N) z)) in
        let long : Z ≤ (sum_to N (light P (totals zone n N)) + sum_to N (weighty P (totals zone n N)) * P) / P =
        (le-div_iff_mul-le some).1 (omega (arith, zones-count P N zone n)) in
        omega (
          arith,
          sum-add N lighter (weighty P (totals zone n N)),
          light-steps,
          turns_ge P some p (sum_to N (light P (totals zone n N))),
          add-mul-div_right (sum_to N (light P (totals zone n N))) (sum_to N (weighty P (totals zone n N))) some,
        )
