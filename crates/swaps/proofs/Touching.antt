-- What the scans of a row's zones mean: the count is the row's cover, and the set has the nodes of each zone that the row touches.
-- Assumes nothing.
use Prim.Native.Nat.{ℕ, zero, suc, ◌+◌, ◌-◌, ◌*◌, ◌^◌, ◌≤◌, ◌<◌, min, max}
use mathlib.Core.Path.{◌≡◌, refl, sym, ap, ◌∙◌}
use mathlib.Core.List.{List}
use mathlib.Core.Logic.{⊎_elim}
use native.Mathlib.Nat.{mul-one, mul-zero, zero-mul}
use native.Mathlib.Omega.{arith}
use lib.ListN.{get_or}
use lib.Pow.{pow_mono}
use Rattle.sums.specs.TermsSums.{sum_to}
use Rattle.sums.specs.ModelSums.{is}
use Rattle.sums.proofs.Sum.{lt_or_ge, eq_or_ne, is_eq, is_ne, is_le, is_cases, sum_cong, sum-add, sum_zero, sum_is}
use Rattle.sets.specs.ModelBits.{mask_bits, bit, without_of, union_of, meet_of, count_of, least_of}
use Rattle.sets.proofs.Laws.{bit_le, bit_zero, bit_high, bit_lt, bit-mask_of, bit-without, bit-union, bit-meet, bit-difference, meet_lt, difference_lt, count-sum, count_none, count_le, least-some, least_at}
use Rattle.exchange.specs.ModelRow.{zone_count, cover}
use Rattle.exchange.proofs.Row.{zone_one}
use Rattle.swaps.specs.ModelSwaps.{rest_of, cover_in, covered_in, cover_of, covered_of}
use Rattle.swaps.specs.ModelMates.{Mates}
use Rattle.swaps.proofs.Steps.{cover-more, cover_done, covered_more, covered_done, rest-count}

-- A bit and an indicator, as a product.
min_is : (x a b : ℕ) → x ≤ 1 → min x (is a b) ≡ x * is a b
min_is x a b h =
    ⊎_elim (λ w. omega (arith, w.1, ap (λ (t : ℕ). x * t) w.1, mul-one x)) (λ w. omega (arith, w.1, ap (λ (t : ℕ). x * t) w.1, mul-zero x))
    (is_cases a b)

module _ (N : ℕ) (zone : ℕ → ℕ) (mates : List ℕ) (M : Mates N zone mates) where
  -- A row is a word.
  pub row_word : (row : ℕ) → row < 2 ^ N → row < 2 ^ mask_bits
  row_word row h = omega (arith, pow_mono {i = N} {j = mask_bits} M.few)

  -- The mates of b are the nodes of its zone.
  pub bit_mate : (b c : ℕ) → b < N → c < N → bit (get_or mates b 0) c ≡ is (zone c) (zone b)
  bit_mate b c l k =
      ap (λ (x : ℕ). bit x c) (M.mate b l) ∙ bit-mask_of (λ c. is (zone c) (zone b)) N c k (is_le (zone c) (zone b))

  -- The nodes of a row in a's zone, counted.
  pub mates-count : (row a : ℕ) → row < 2 ^ N → a < N → count_of (meet_of row (get_or mates a 0)) ≡ zone_count N zone (bit row) (zone a)
  unfolding zone_count
  mates-count row a h l =
      count-sum N (meet_of row (get_or mates a 0)) M.few
      (bit_lt mask_bits N (meet_of row (get_or mates a 0)) (meet_lt row (get_or mates a 0)) (λ i g k. omega (arith, bit-meet row (get_or mates a 0) i k, bit_high N row i h g)))
      ∙ sum_cong N (bit (meet_of row (get_or mates a 0))) (λ x. bit row x * is (zone x) (zone a))
      (λ c k. bit-meet row (get_or mates a 0) c (omega (arith, M.few))
      ∙ (ap (λ (t : ℕ). min (bit row c) t) (bit_mate a c l k) ∙ min_is (bit row c) (zone c) (zone a) (bit_le row c)))

  -- A row that touches no zone.
  none-count : (left z : ℕ) → left ≡ 0 → zone_count N zone (bit left) z ≡ 0
  unfolding zone_count
  none-count left z e =
      sum_zero N (λ x. bit left x * is (zone x) z)
      (λ x l. ap (λ (t : ℕ). t * is (zone x) z) (ap (λ (y : ℕ). bit y x) e ∙ bit_zero x) ∙ zero-mul (is (zone x) z))

  none-cover : (left : ℕ) → left ≡ 0 → cover N zone (bit left) ≡ 0
  unfolding cover
  none-cover left e =
      sum_zero N (λ z. min 1 (zone_count N zone (bit left) z)) (λ z l. omega (arith, none-count left z e))

  module _ (left : ℕ) (small : left < 2 ^ N) (some : left ≡ 0 → ⊥) where
    -- The least node is a node of the row.
    first-node : (least_of left < N) × (bit left (least_of left) ≡ 1)
    first-node =
        let l = least-some left (row_word left small) some in
        let e = least_at left l in
        (⊎_elim (λ k. k) (λ g. absurd (omega (arith, bit_high N left (least_of left) small g))) (lt_or_ge (least_of left) N), e)

    -- What is left after a step: the nodes of the other zones.
    rest-bit : (c : ℕ) → c < N → bit (rest_of mates left) c ≡ bit left c - is (zone c) (zone (least_of left))
    unfolding rest_of
    rest-bit c l =
        let k : c < mask_bits = omega (arith, M.few) in
        let m = bit_mate (least_of left) c first-node.0 l in
        let d = bit-difference (without_of left (least_of left)) (get_or mates (least_of left) 0) c k in
        ⊎_elim
        (λ w. omega (arith, d, m, bit-without left (least_of left) c k, bit_le left c, is_eq {a = zone c} {b = zone (least_of left)} (ap zone (sym w.0))))
        (λ w. omega (arith, d, m, bit-without left (least_of left) c k, w.1)) (is_cases (least_of left) c)

    rest_small : rest_of mates left < 2 ^ N
    unfolding rest_of
    rest_small =
        bit_lt mask_bits N (rest_of mates left) (difference_lt (without_of left (least_of left)) (get_or mates (least_of left) 0))
        (λ i g k. omega (
          arith,
          bit-difference (without_of left (least_of left)) (get_or mates (least_of left) 0) i k,
          bit-without left (least_of left) i k,
          bit_high N left i small g,
        ))

    -- The zone that the step counts is touched no more.
    rest_gone : zone_count N zone (bit (rest_of mates left)) (zone (least_of left)) ≡ 0
    unfolding zone_count
    rest_gone =
        sum_zero N (λ x. bit (rest_of mates left) x * is (zone x) (zone (least_of left)))
        (λ x l. sym (min_is (bit (rest_of mates left) x) (zone x) (zone (least_of left)) (bit_le (rest_of mates left) x))
        ∙ omega (arith, rest-bit x l, bit_le left x, is_le (zone x) (zone (least_of left))))

    -- The other zones keep their nodes.
    rest_other : (z : ℕ) → (zone (least_of left) ≡ z → ⊥) → zone_count N zone (bit (rest_of mates left)) z ≡ zone_count N zone (bit left) z
    unfolding zone_count
    rest_other z n =
        sum_cong N (λ x. bit (rest_of mates left) x * is (zone x) z) (λ x. bit left x * is (zone x) z)
        (λ x l. ⊎_elim
        (λ w. ap (λ (t : ℕ). t * is (zone x) z) (omega (arith, rest-bit x l, is_ne {a = zone x} {b = zone (least_of left)} (λ e. n (sym e ∙ w.0)))))
        (λ w. ap (λ (t : ℕ). bit (rest_of mates left) x * t) w.1
        ∙ (mul-zero (bit (rest_of mates left) x) ∙ (sym (mul-zero (bit left x)) ∙ ap (λ (t : ℕ). bit left x * t) (sym w.1))))
        (is_cases (zone x) z))

    -- The least node's zone is touched.
    first_one : 1 ≤ zone_count N zone (bit left) (zone (least_of left))
    first_one = zone_one N zone (bit left) (least_of left) first-node.0 first-node.1

    -- A step counts one zone.
    rest-cover : cover N zone (bit left) ≡ cover N zone (bit (rest_of mates left)) + 1
    unfolding cover
    rest-cover =
        sum_cong N (λ z. min 1 (zone_count N zone (bit left) z)) (λ z. after z + is (zone (least_of left)) z * 1) (λ z l. at z)
        ∙ (sum-add N after (λ z. is (zone (least_of left)) z * 1)
        ∙ ap (λ (t : ℕ). sum_to N after + t) (sum_is N (zone (least_of left)) (λ z. 1) (M.inside (least_of left) first-node.0)))
      where
        after : ℕ → ℕ
        after z = min 1 (zone_count N zone (bit (rest_of mates left)) z)

        at : (z : ℕ) → min 1 (zone_count N zone (bit left) z) ≡ after z + is (zone (least_of left)) z * 1
        at z =
            ⊎_elim
            (λ w. omega (arith, w.1, first_one, rest_gone, ap (zone_count N zone (bit left)) w.0, ap (zone_count N zone (bit (rest_of mates left))) w.0))
            (λ w. omega (arith, w.1, rest_other z w.0)) (is_cases (zone (least_of left)) z)

  -- The scan of what is left counts its zones.
  cover_in_lem : (k left n : ℕ) → left < 2 ^ N → count_of left ≤ k → cover_in k mates left n ≡ n + cover N zone (bit left)
  cover_in_lem zero left n h l =
      let e : left ≡ 0 = count_none left (row_word left h) (omega arith) in
      omega (arith, cover_done zero mates left n e, none-cover left e)
  cover_in_lem (suc k) left n h l =
      ⊎_elim (λ e. omega (arith, cover_done (suc k) mates left n e, none-cover left e))
      (λ s. omega (
        arith,
        cover-more (suc k) k mates left n refl s,
        cover_in_lem k (rest_of mates left) (n + 1) (rest_small left h s) (omega (arith, rest-count mates left (row_word left h) s)),
        rest-cover left h s,
      )) (eq_or_ne left 0)

  -- The scan of what is left collects the nodes of its zones.
  covered_in_lem : (k left nodes c : ℕ) → left < 2 ^ N → count_of left ≤ k → c < N
      → bit (covered_in k mates left nodes) c ≡ max (bit nodes c) (min 1 (zone_count N zone (bit left) (zone c)))
  covered_in_lem zero left nodes c h l m =
      let e : left ≡ 0 = count_none left (row_word left h) (omega arith) in
      omega (arith, ap (λ (x : ℕ). bit x c) (covered_done zero mates left nodes e), none-count left (zone c) e)
  covered_in_lem (suc k) left nodes c h l m =
      ⊎_elim (λ e. omega (arith, ap (λ (x : ℕ). bit x c) (covered_done (suc k) mates left nodes e), none-count left (zone c) e))
      (λ s.
      let r = covered_in_lem k (rest_of mates left) (union_of nodes (get_or mates (least_of left) 0)) c (rest_small left h s)
      (omega (arith, rest-count mates left (row_word left h) s)) m in
      let e = ap (λ (x : ℕ). bit x c) (covered_more (suc k) k mates left nodes refl s) in
      let u = bit-union nodes (get_or mates (least_of left) 0) c (omega (arith, M.few)) in
      let b = bit_mate (least_of left) c (first-node left h s).0 m in
      ⊎_elim
      (λ w. omega (arith, e, r, u, b, w.1, bit_le nodes c, first_one left h s, ap (zone_count N zone (bit left)) w.0))
      (λ w. omega (arith, e, r, u, b, w.1, bit_le nodes c, rest_other left h s (zone c) (λ q. w.0 (sym q)))) (is_cases (zone c) (zone (least_of left))))
      (eq_or_ne left 0)

  -- The cover of a row is the number of zones that it touches.
  pub cover_law : (row : ℕ) → row < 2 ^ N → cover_of mates row ≡ cover N zone (bit row)
  unfolding cover_of
  cover_law row h = omega (arith, cover_in_lem mask_bits row 0 h (count_le mask_bits row (omega arith) (row_word row h)))

  -- A node is covered where the row touches its zone.
  pub covered_law : (row c : ℕ) → row < 2 ^ N → c < N → bit (covered_of mates row) c ≡ min 1 (zone_count N zone (bit row) (zone c))
  unfolding covered_of
  covered_law row c h l =
      omega (arith, covered_in_lem mask_bits row 0 c h (count_le mask_bits row (omega arith) (row_word row h)) l, bit_zero c)
