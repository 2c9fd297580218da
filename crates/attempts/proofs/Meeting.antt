-- Waves along even exchanges: where they end without a giver they shut the pair out, and a way back from the first giver is a shortest one.
-- Assumes nothing.
use Prim.Native.Nat.{ℕ, zero, suc, ◌+◌, ◌-◌, ◌≤◌, ◌<◌}
use mathlib.Core.Path.{◌≡◌}
use mathlib.Core.List.{List}
use mathlib.Core.Logic.{⊎_elim}
use native.Mathlib.Nat.{mul-one}
use native.Mathlib.Omega.{arith}
use lib.ListN.{get_or}
use Rattle.sums.specs.TermsSums.{sum_to}
use Rattle.sums.proofs.Sum.{lt_or_ge, sum_le, sum_first, sum_zero, sum-part, sum_const, sum_cong}
use Rattle.cluster.specs.Terms.{most_nodes}
use Rattle.sets.specs.ModelBits.{bit, meet_of}
use Rattle.sets.proofs.Laws.{bit_le, none-meet}
use Rattle.exchange.specs.ModelCircuit.{Allowed}
use Rattle.ties.specs.ModelEven.{Even, Shut, Way}
use Rattle.waves.specs.ModelWaves.{wave_of, seen_of}
use Rattle.waves.proofs.Waving.{wave_seen, seen_stays, seen_wave, wave_new, seen_step, seen_shut}
use Rattle.attempts.specs.ModelDeciding.{Covers, Givers}

module _ (P N R Z : ℕ) (zone cap : ℕ → ℕ) (g free S : ℕ → ℕ → ℕ) (d : ℕ → ℕ) (p b goal : ℕ) (leads : List ℕ) (few : N ≤ most_nodes) (in_p : p < P) (in_b : b < N)
    (c : Covers P N R Z zone cap g free S d leads) (h : Givers N R Z zone g free S d p b goal)
  where
    small : b < most_nodes
    small = omega arith

    -- ---- no

    -- Where a wave is empty and none before it meets the goal, what is seen shuts the pair out.
    pub waves_shut : (k : ℕ) → wave_of leads b (suc k) ≡ 0 → ((j : ℕ) → j ≤ k → meet_of (wave_of leads b j) goal ≡ 0) → bit (seen_of leads b k) b ≡ 1
        → Shut P N R Z zone cap g free S d p b (bit (seen_of leads b k))
    waves_shut k z none own =
        record {
          bits = λ x. bit_le (seen_of leads b k) x;
          begins = own;
          along = λ q a v l t. let e = t.exchange in
              seen_shut leads b small k z a v (omega (arith, e.a_node)) (omega (arith, e.b_node)) (c.rows q a v l t);
          room = λ u v l m r e. seen_shut leads b small k z u v (omega arith) (omega arith) (c.store u v l m r e);
          none = λ a t. ⊎_elim (λ l. omega arith) (λ o. absurd (met a t o)) (lt_or_ge (bit (seen_of leads b k) a) 1);
        }
      where
        met : (a : ℕ) → Even N R Z zone g free S d p a b → 1 ≤ bit (seen_of leads b k) a → ⊥
        met a t o =
            let l : a < most_nodes = omega (arith, t.exchange.a_node) in
            let w = seen_wave leads b small k a l (omega (arith, bit_le (seen_of leads b k) a)) in
            omega (arith, none-meet (wave_of leads b w.0) goal (none w.0 w.1) a l, w.2, h.all a t)

    -- ---- yes

    module _ (m : ℕ) (missed : (j : ℕ) → j < m → meet_of (wave_of leads b j) goal ≡ 0) where
      -- In how many steps a node is reached: the waves before m that had not seen it.
      abbrev pub late : ℕ → ℕ
      late v = sum_to m (λ j. 1 - bit (seen_of leads b j) v)

      -- A node of wave j is reached in j steps.
      late_wave : (j v : ℕ) → j ≤ m → v < most_nodes → bit (wave_of leads b j) v ≡ 1 → late v ≡ j
      late_wave j v l k e =
          omega (
            arith,
            sum-part m j (m - j) (λ i. 1 - bit (seen_of leads b i) v) (omega arith),
            sum_cong j (λ i. 1 - bit (seen_of leads b i) v) (λ i. 1) (λ i q. omega (arith, wave_new leads b small i j v q k e)),
            sum_const j 1,
            mul-one j,
            sum_zero (m - j) (λ i. 1 - bit (seen_of leads b (j + i)) v)
                (λ i q. omega (arith, wave_seen leads b small j v k, seen_stays leads b small j (j + i) v (omega arith) k)),
          )

      -- A node leads to those that are reached in at most one step more.
      late_step : (u v : ℕ) → u < most_nodes → v < most_nodes → bit (get_or leads u 0) v ≡ 1 → late v ≤ suc (late u)
      unfolding sum_to
      late_step u v k l e = go m
        where
          go : (m : ℕ) → sum_to m (λ j. 1 - bit (seen_of leads b j) v) ≤ suc (sum_to m (λ j. 1 - bit (seen_of leads b j) u))
          go zero = omega arith
          go (suc n) =
              omega (
                arith,
                sum_first n (λ j. 1 - bit (seen_of leads b j) v),
                sum_le n (λ j. 1 - bit (seen_of leads b (suc j)) v) (λ j. 1 - bit (seen_of leads b j) u)
                    (λ j q. ⊎_elim (λ z. omega (arith, bit_le (seen_of leads b j) u))
                    (λ o. omega (arith, seen_step leads b small j u v k l (omega (arith, bit_le (seen_of leads b j) u)) e)) (lt_or_ge (bit (seen_of leads b j) u) 1)),
              )

      -- A node that could give way is in no wave before m.
      late_giver : (a : ℕ) → Even N R Z zone g free S d p a b → m ≤ late a
      late_giver a t =
          omega (
            arith,
            sum_const m 1,
            mul-one m,
            sum_le m (λ j. 1) (λ j. 1 - bit (seen_of leads b j) a)
                (λ j q. ⊎_elim (λ z. omega arith) (λ o. absurd (met j q o)) (lt_or_ge (bit (seen_of leads b j) a) 1)),
          )
        where
          l : a < most_nodes
          l = omega (arith, t.exchange.a_node)

          met : (j : ℕ) → j < m → 1 ≤ bit (seen_of leads b j) a → ⊥
          met j q o =
              let w = seen_wave leads b small j a l (omega (arith, bit_le (seen_of leads b j) a)) in
              omega (arith, none-meet (wave_of leads b w.0) goal (missed w.0 (omega (arith, w.1))) a l, w.2, h.all a t)

      -- A way back through the waves, each arc with its partition, is a shortest way.
      pub waves-way : (y q : ℕ → ℕ) → y m ≡ b → y (suc m) ≡ y 0 → q m ≡ p → bit goal (y 0) ≡ 1
          → ((i : ℕ) → i ≤ m → (y i < N) × (bit (wave_of leads b (m - i)) (y i) ≡ 1))
          → ((i : ℕ) → i < m → Allowed P N R Z zone cap free S (q i) (y (suc i)) (y i))
          → ((i : ℕ) → i < m → q i < P → d (y i) + g (q i) (y i) ≡ d (y (suc i)) + g (q i) (y (suc i)))
          → ((i : ℕ) → i < m → P ≤ q i → d (y i) ≡ d (y (suc i))) → Way P N R Z zone cap g free S d p b m y q late
      waves-way y q begins closed last giver there arcs rows store =
          record {
            begins = begins;
            closed = closed;
            last = last;
            gives = h.only (y 0) (omega (arith, (there 0 (omega arith)).0)) giver;
            arcs = arcs;
            rows = rows;
            store = store;
            steps = λ i l. let t = there i l in omega (arith, late_wave (m - i) (y i) (omega arith) (omega (arith, t.0)) t.1);
            near = λ r u v l t. let e = t.exchange in
                late_step u v (omega (arith, e.a_node)) (omega (arith, e.b_node)) (c.rows r u v l t);
            givers = late_giver;
          }
