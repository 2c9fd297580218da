-- The laws of waves, over plain numbers and lists.
-- Assumes nothing.
use Prim.Native.Nat.{ℕ, zero, suc, ◌-◌, ◌^◌, ◌≤◌, ◌<◌, min, max}
use mathlib.Core.Path.{◌≡◌, sym, ap, ap₂, ◌∙◌}
use mathlib.Core.List.{List}
use mathlib.Core.Logic.{⊎_elim}
use native.Mathlib.Omega.{arith}
use lib.ListN.{length, get_or, set}
use lib.Seq.{get_or-set_same, get_or-set_other}
use Rattle.sums.specs.ModelSums.{max_to}
use Rattle.sums.proofs.Sum.{lt_or_ge, is_one, is_cases}
use Rattle.sums.proofs.Count.{max_ge, max_le, max_at}
use Rattle.sets.specs.ModelBits.{mask_bits, bit, with_of, without_of, union_of, meet_of, difference_of, count_of, least_of}
use Rattle.sets.proofs.Laws.{bit_le, bit_zero, bit_ext, mask_lt, bit-mask_of, bit-with, bit-with_same, with_lt, bit-without, union_lt, bit-union, difference_lt, bit-difference, meet-none, count_le, count-union, count-some, count-with, count_empty, least_at, least-some, bit_high}
use Rattle.cluster.specs.Terms.{most_nodes}
use Rattle.waves.specs.ModelWaves.{wave_cells, spread_of, front, wave_of, seen_of, Waved}

-- ---- where a set leads

module _ (leads : List ℕ) where
  -- 1 where the set has u and u leads to v, else 0.
  abbrev through : ℕ → ℕ → ℕ → ℕ
  through set v u = min (bit set u) (bit (get_or leads u 0) v)

  -- A node is of the spread where some member leads to it.
  pub bit-spread : (set v : ℕ) → v < most_nodes → bit (spread_of leads set) v ≡ max_to most_nodes (through set v)
  unfolding spread_of
  bit-spread set v l =
      bit-mask_of (λ v. max_to most_nodes (through set v)) mask_bits v l (max_le most_nodes 1 (through set v) (λ u k. omega (arith, bit_le set u)))

  -- The spread is a word.
  pub spread_lt : (set : ℕ) → spread_of leads set < 2 ^ mask_bits
  unfolding spread_of
  spread_lt set = mask_lt (λ v. max_to most_nodes (through set v)) mask_bits

  -- What a member leads to is in the spread.
  pub spread_in : (set u v : ℕ) → u < most_nodes → v < most_nodes → bit set u ≡ 1 → bit (get_or leads u 0) v ≤ bit (spread_of leads set) v
  spread_in set u v l k e = omega (arith, bit-spread set v k, max_ge most_nodes u (through set v) l, bit_le (get_or leads u 0) v)

  -- Some member leads to a node of the spread.
  pub in_spread : (set v : ℕ) → v < most_nodes → bit (spread_of leads set) v ≡ 1 → (u : ℕ) × (u < most_nodes) × (bit set u ≡ 1) × (bit (get_or leads u 0) v ≡ 1)
  in_spread set v l e =
      ⊎_elim (λ z. absurd (omega (arith, bit-spread set v l)))
      (λ w. (w.0, w.1, omega (arith, w.2, bit-spread set v l, bit_le set w.0), omega (arith, w.2, bit-spread set v l, bit_le (get_or leads w.0 0) v)))
      (max_at most_nodes (through set v))

  -- The spread of a set is that of one member and that of the others.
  spread-bits : (set u v : ℕ) → u < most_nodes → v < most_nodes → bit set u ≡ 1
      → bit (spread_of leads set) v ≡ max (bit (get_or leads u 0) v) (bit (spread_of leads (without_of set u)) v)
  spread-bits set u v l k e =
      omega (
        arith,
        bit-spread set v k,
        bit-spread (without_of set u) v k,
        max_ge most_nodes u (through set v) l,
        bit_le (get_or leads u 0) v,
        max_le most_nodes (max_to most_nodes (through set v)) (through (without_of set u) v) (λ x h. omega (arith, bit-without set u x h, max_ge most_nodes x (through set v) h)),
        max_le most_nodes (max (bit (get_or leads u 0) v) (max_to most_nodes (through (without_of set u) v))) (through set v)
            (λ x h. ⊎_elim (λ c. omega (arith, ap (λ (y : ℕ). bit (get_or leads y 0) v) c.0))
            (λ c. omega (arith, c.1, bit-without set u x h, max_ge most_nodes x (through (without_of set u) v) h)) (is_cases u x)),
      )

  -- ---- the loop of `spread`

  -- At first all of the set is left.
  pub spread-start : (set : ℕ) → union_of 0 (spread_of leads set) ≡ spread_of leads set
  spread-start set =
      bit_ext mask_bits (union_of 0 (spread_of leads set)) (spread_of leads set) (union_lt 0 (spread_of leads set)) (spread_lt set)
      (λ v l. omega (arith, bit-union 0 (spread_of leads set) v l, bit_zero v))

  -- The least member that is left is taken.
  pub spread-turn : (to left u to' left' : ℕ) → left < 2 ^ mask_bits → (left ≡ 0 → ⊥) → u ≡ least_of left → to' ≡ union_of to (get_or leads u 0) → left' ≡ without_of left u
      → union_of to' (spread_of leads left') ≡ union_of to (spread_of leads left)
  spread-turn to left u to' left' w s eu et el =
      let l : u < most_nodes = omega (arith, least-some left w s) in
      let e : bit left u ≡ 1 = ap (bit left) eu ∙ least_at left (omega arith) in
      rw (et, el)
      (bit_ext mask_bits (union_of (union_of to (get_or leads u 0)) (spread_of leads (without_of left u))) (union_of to (spread_of leads left))
      (union_lt (union_of to (get_or leads u 0)) (spread_of leads (without_of left u))) (union_lt to (spread_of leads left))
      (λ v k. omega (
        arith,
        bit-union (union_of to (get_or leads u 0)) (spread_of leads (without_of left u)) v k,
        bit-union to (get_or leads u 0) v k,
        bit-union to (spread_of leads left) v k,
        spread-bits left u v l k e,
      )))

  -- At last none is left.
  pub spread_end : (to : ℕ) → to < 2 ^ mask_bits → union_of to (spread_of leads 0) ≡ to
  spread_end to w =
      bit_ext mask_bits (union_of to (spread_of leads 0)) to (union_lt to (spread_of leads 0)) w
      (λ v l. omega (
        arith,
        bit-union to (spread_of leads 0) v l,
        bit-spread 0 v l,
        max_le most_nodes 0 (through 0 v) (λ u k. omega (arith, bit_zero u)),
      ))

-- ---- waves

module _ (leads : List ℕ) (b : ℕ) (small : b < most_nodes) where
  -- What is seen is what was seen and the new wave.
  seen-bit : (k v : ℕ) → v < most_nodes → bit (seen_of leads b (suc k)) v ≡ max (bit (seen_of leads b k) v) (bit (wave_of leads b (suc k)) v)
  unfolding front
  seen-bit k v l = bit-union (seen_of leads b k) (wave_of leads b (suc k)) v l

  -- A wave has what the one before leads to but what was seen.
  wave_bit : (k v : ℕ) → v < most_nodes → bit (wave_of leads b (suc k)) v ≡ bit (spread_of leads (wave_of leads b k)) v - bit (seen_of leads b k) v
  unfolding front
  wave_bit k v l = bit-difference (spread_of leads (wave_of leads b k)) (seen_of leads b k) v l

  -- A wave is a word.
  pub wave_lt : (k : ℕ) → wave_of leads b k < 2 ^ mask_bits
  unfolding front
  wave_lt zero = with_lt 0 b
  wave_lt (suc k) = difference_lt (spread_of leads (wave_of leads b k)) (seen_of leads b k)

  -- What is seen is a word.
  pub seen_lt : (k : ℕ) → seen_of leads b k < 2 ^ mask_bits
  unfolding front
  seen_lt zero = with_lt 0 b
  seen_lt (suc k) = union_lt (seen_of leads b k) (wave_of leads b (suc k))

  -- A wave is seen.
  pub wave_seen : (k v : ℕ) → v < most_nodes → bit (wave_of leads b k) v ≤ bit (seen_of leads b k) v
  wave_seen zero v l = unfold front in omega arith
  wave_seen (suc k) v l = omega (arith, seen-bit k v l)

  -- What is seen stays seen.
  pub seen_stays : (j k v : ℕ) → j ≤ k → v < most_nodes → bit (seen_of leads b j) v ≤ bit (seen_of leads b k) v
  seen_stays j zero v h l = let e : j ≡ 0 = omega arith in rw e (omega arith)
  seen_stays j (suc k) v h l =
      ⊎_elim (λ i. omega (arith, seen-bit k v l, seen_stays j k v (omega arith) l)) (λ i. let e : j ≡ suc k = omega arith in omega (arith, ap (λ (x : ℕ). bit (seen_of leads b x) v) e))
      (lt_or_ge j (suc k))

  -- What is seen was in a wave.
  pub seen_wave : (k v : ℕ) → v < most_nodes → bit (seen_of leads b k) v ≡ 1 → (j : ℕ) × (j ≤ k) × (bit (wave_of leads b j) v ≡ 1)
  seen_wave zero v l e = (0, omega arith, unfold front in e)
  seen_wave (suc k) v l e =
      ⊎_elim (λ z. let w : bit (wave_of leads b (suc k)) v ≡ 1 = omega (arith, seen-bit k v l, bit_le (wave_of leads b (suc k)) v) in (suc k, omega arith, w))
      (λ o. let r = seen_wave k v l (omega (arith, bit_le (seen_of leads b k) v)) in (r.0, omega (arith, r.1), r.2))
      (lt_or_ge (bit (seen_of leads b k) v) 1)

  -- A wave is of nodes that were not seen before.
  pub wave_new : (j k v : ℕ) → j < k → v < most_nodes → bit (wave_of leads b k) v ≡ 1 → bit (seen_of leads b j) v ≡ 0
  wave_new j zero v h l e = absurd (omega arith)
  wave_new j (suc k) v h l e = omega (arith, wave_bit k v l, seen_stays j k v (omega arith) l, bit_le (spread_of leads (wave_of leads b k)) v)

  -- What is seen leads to what is seen one wave later.
  pub seen_step : (k u v : ℕ) → u < most_nodes → v < most_nodes → bit (seen_of leads b k) u ≡ 1 → bit (get_or leads u 0) v ≡ 1 → bit (seen_of leads b (suc k)) v ≡ 1
  seen_step k u v lu lv s e =
      let w = seen_wave k u lu s in
      omega (
        arith,
        spread_in leads (wave_of leads b w.0) u v lu lv w.2,
        wave_bit w.0 v lv,
        seen-bit w.0 v lv,
        seen_stays (suc w.0) (suc k) v (omega (arith, w.1)) lv,
        bit_le (seen_of leads b (suc k)) v,
        bit_le (spread_of leads (wave_of leads b w.0)) v,
      )

  -- Where a wave is empty, what was seen leads to nothing else.
  pub seen_shut : (k : ℕ) → wave_of leads b (suc k) ≡ 0 → (u v : ℕ) → u < most_nodes → v < most_nodes → bit (get_or leads u 0) v ≡ 1
      → bit (seen_of leads b k) u ≤ bit (seen_of leads b k) v
  seen_shut k z u v lu lv e =
      ⊎_elim (λ l. omega arith)
      (λ g. let s : bit (seen_of leads b k) u ≡ 1 = omega (arith, bit_le (seen_of leads b k) u) in
      omega (arith, seen_step k u v lu lv s e, seen-bit k v lv, ap (λ (m : ℕ). bit m v) z, bit_zero v))
      (lt_or_ge (bit (seen_of leads b k) u) 1)

  -- ---- what callers ask of a wave

  -- Its members are nodes.
  pub wave_low : (k v : ℕ) → bit (wave_of leads b k) v ≡ 1 → v < most_nodes
  wave_low k v e = ⊎_elim (λ l. l) (λ g. absurd (omega (arith, bit_high mask_bits (wave_of leads b k) v (wave_lt k) g))) (lt_or_ge v most_nodes)

  -- A node of a wave is led to by one of the wave before.
  pub wave_back : (k v : ℕ) → v < most_nodes → bit (wave_of leads b (suc k)) v ≡ 1
      → (u : ℕ) × (u < most_nodes) × (bit (wave_of leads b k) u ≡ 1) × (bit (get_or leads u 0) v ≡ 1)
  wave_back k v l e = in_spread leads (wave_of leads b k) v l (omega (arith, wave_bit k v l, bit_le (spread_of leads (wave_of leads b k)) v))

  -- The first wave has the node that the waves start at.
  pub wave_start : bit (wave_of leads b 0) b ≡ 1
  unfolding front
  wave_start = bit-with_same 0 b small

  -- It has no other.
  pub wave_first : (v : ℕ) → bit (wave_of leads b 0) v ≡ 1 → v ≡ b
  unfolding front
  wave_first v e = sym (is_one b v (omega (arith, bit-with 0 b v (wave_low 0 v e), bit_zero v)))

  -- No later wave has that node.
  pub wave_later : (k v : ℕ) → bit (wave_of leads b (suc k)) v ≡ 1 → v ≡ b → ⊥
  wave_later k v e q =
      let f : bit (wave_of leads b (suc k)) b ≡ 1 = sym (ap (bit (wave_of leads b (suc k))) q) ∙ e in
      omega (arith, wave_new 0 (suc k) b (omega arith) small f, wave_seen 0 b small, wave_start)

  -- Where no node leads to one at or above N, no wave has such a node.
  pub wave_nodes : (N : ℕ) → b < N → ((u v : ℕ) → u < most_nodes → v < most_nodes → bit (get_or leads u 0) v ≡ 1 → v < N)
      → (k v : ℕ) → bit (wave_of leads b k) v ≡ 1 → v < N
  wave_nodes N s h zero v e = omega (arith, wave_first v e)
  wave_nodes N s h (suc k) v e =
      let l = wave_low (suc k) v e in
      let w = wave_back k v l e in
      h w.0 v w.1 l w.3

  -- ---- how many waves there are

  -- Each wave but an empty one adds a node.
  seen-count : (k : ℕ) → (wave_of leads b (suc k) ≡ 0 → ⊥) → suc (count_of (seen_of leads b k)) ≤ count_of (seen_of leads b (suc k))
  unfolding front
  seen-count k s =
      omega (
        arith,
        count-union (seen_of leads b k) (wave_of leads b (suc k)),
        ap count_of (meet-none (seen_of leads b k) (wave_of leads b (suc k)) (λ v l. omega (arith, wave_bit k v l, bit_le (spread_of leads (wave_of leads b k)) v))),
        count_empty,
        count-some (wave_of leads b (suc k)) (least_of (wave_of leads b (suc k))) (least-some (wave_of leads b (suc k)) (wave_lt (suc k)) s)
            (least_at (wave_of leads b (suc k)) (least-some (wave_of leads b (suc k)) (wave_lt (suc k)) s)),
      )

  -- The first wave has a node.
  first_count : 1 ≤ count_of (seen_of leads b 0)
  unfolding front
  first_count = omega (arith, count-with 0 b small, count_empty, bit_zero b)

  -- ---- the loop of `waves`

  -- At the start of a turn: the wave and what is seen are those of k, no wave before it met the goal, and the cells hold the waves up to it.
  pub record Going (goal k wave seen : ℕ) (waves : List ℕ) : Type 0 where
    pub wave_is : wave ≡ wave_of leads b k
    pub seen-is : seen ≡ seen_of leads b k
    pub missed : (j : ℕ) → j < k → meet_of (wave_of leads b j) goal ≡ 0
    pub held : (j : ℕ) → j ≤ k → get_or waves j 0 ≡ wave_of leads b j
    pub many : suc k ≤ count_of seen
    pub few : count_of seen ≤ most_nodes

  -- Before the first turn.
  pub going_starts : (goal wave : ℕ) (waves : List ℕ) → wave_cells ≤ length waves → wave ≡ with_of 0 b → Going goal 0 wave wave (set waves 0 wave)
  going_starts goal wave waves l e =
      let w : wave ≡ wave_of leads b 0 = unfold front in e in
      let s : wave ≡ seen_of leads b 0 = unfold front in e in
      record {
        wave_is = w;
        seen-is = s;
        missed = λ j h. absurd (omega arith);
        held = λ j h. let z : j ≡ 0 = omega arith in rw z (get_or-set_same waves 0 wave 0 (omega arith) ∙ w);
        many = omega (arith, first_count, ap count_of s);
        few = omega (arith, count_le mask_bits (seen_of leads b 0) (omega arith) (seen_lt 0), ap count_of s);
      }

  module _ (goal k wave seen : ℕ) (waves : List ℕ) (g : Going goal k wave seen waves) (next sp : ℕ) (es : sp ≡ spread_of leads wave)
      (en : next ≡ difference_of sp seen) (missed : meet_of wave goal ≡ 0)
    where
      -- What the turn computes is the next wave.
      next-is : next ≡ wave_of leads b (suc k)
      next-is = unfold front in en ∙ ap₂ difference_of (es ∙ ap (spread_of leads) g.wave_is) g.seen-is

      -- No wave up to k meets the goal.
      missed_to : (j : ℕ) → j ≤ k → meet_of (wave_of leads b j) goal ≡ 0
      missed_to j h =
          ⊎_elim (λ i. g.missed j i) (λ i. let e : j ≡ k = omega arith in rw e (ap (λ (m : ℕ). meet_of m goal) (sym g.wave_is) ∙ missed)) (lt_or_ge j k)

      -- A wave that is not empty has its cell.
      pub going_room : (next ≡ 0 → ⊥) → suc (suc k) ≤ most_nodes
      going_room s =
          omega (
            arith,
            g.many,
            ap count_of g.seen-is,
            seen-count k (λ z. s (next-is ∙ z)),
            count_le mask_bits (seen_of leads b (suc k)) (omega arith) (seen_lt (suc k)),
          )

      -- The next turn.
      pub going_on : (next ≡ 0 → ⊥) → wave_cells ≤ length waves → (seen' : ℕ) → seen' ≡ union_of seen next
          → Going goal (suc k) next seen' (set waves (suc k) next) × (suc (count_of seen) ≤ count_of seen')
      going_on s l seen' e =
          let r = going_room s in
          let q : seen' ≡ seen_of leads b (suc k) = unfold front in e ∙ ap₂ union_of g.seen-is next-is in
          let more = seen-count k (λ z. s (next-is ∙ z)) in (
            record {
              wave_is = next-is;
              seen-is = q;
              missed = λ j h. missed_to j (omega arith);
              held = λ j h. ⊎_elim (λ i. get_or-set_other waves (suc k) j next 0 (λ z. omega arith) ∙ g.held j (omega arith))
                  (λ i. let z : j ≡ suc k = omega arith in rw z (get_or-set_same waves (suc k) next 0 (omega arith) ∙ next-is)) (lt_or_ge j (suc k));
              many = omega (arith, g.many, ap count_of g.seen-is, ap count_of q);
              few = omega (arith, count_le mask_bits (seen_of leads b (suc k)) (omega arith) (seen_lt (suc k)), ap count_of q);
            },
            omega (arith, ap count_of g.seen-is, ap count_of q),
          )

      -- The end at an empty wave.
      pub going_shut : next ≡ 0 → (lent : List ℕ) → Waved leads b goal wave_cells lent
      going_shut z lent =
          record { met = λ l. absurd (omega arith); shut = λ l. (k, sym next-is ∙ z, missed_to); low = omega arith }

  -- The end at a wave that meets the goal.
  pub going_met : (goal k wave seen : ℕ) (waves : List ℕ) → Going goal k wave seen waves → (meet_of wave goal ≡ 0 → ⊥) → Waved leads b goal k waves
  going_met goal k wave seen waves g s =
      record {
        met = λ l. ((λ z. s (ap (λ (m : ℕ). meet_of m goal) g.wave_is ∙ z)), g.missed, g.held);
        shut = λ l. absurd (omega (arith, g.many, g.few));
        low = omega (arith, g.many, g.few);
      }
