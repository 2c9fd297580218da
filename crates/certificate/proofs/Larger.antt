-- No layout is valid at a larger size exactly where one of two sums falls short at the next one.
-- Assumes nothing.
use Prim.Native.Nat.{ℕ, suc, ◌*◌, ◌≤◌, ◌<◌, min}
use mathlib.Core.Path.{◌≡◌, refl, sym, ap, ◌∙◌}
use mathlib.Core.Bool.{Bool, true, not}
use mathlib.Core.Logic.{inl, inr, ⊎_elim}
use native.Mathlib.Nat.{mul-le-mul_left}
use native.Mathlib.Omega.{arith}
use lib.Dec.{eqb}
use lib.ListN.{length}
use lib.Pow.{pow_pos}
use borrow.Author.Tests.{eq-eqb, ne_eqb}
use Rattle.sums.specs.TermsSums.{sum_to, one_if, every_to}
use Rattle.sums.specs.ModelSums.{is}
use Rattle.sums.proofs.Sum.{lt_or_ge, is_cases, not_times, sum_cong, sum_zero}
use Rattle.sums.proofs.Tests.{every-all, every_fails}
use Rattle.cluster.specs.Terms.{Topology, partitions, node_at, ids_of, rising, Layout, copies_in, ValidAt, IsSize}
use Rattle.cluster.specs.TermsReading.{Accepted}
use Rattle.incidence.specs.ModelIncidence.{zone_index, cap_at, incidence, layout_of}
use Rattle.incidence.proofs.TieZones.{zone_first, zone_below, zone_same, zone_again, zone_is}
use Rattle.incidence.proofs.TieLayouts.{within_of_valid, valid_of_within}
use Rattle.dealing.specs.ModelDeal.{in_zone, Fits, dealt}
use Rattle.dealing.proofs.Exists.{needed, enough}
use Rattle.sizing.proofs.Sizes.{caps_law}
use Rattle.certificate.specs.TermsCertificate.{room_at, opens_zone, zone_room, Short}

-- A layout valid at a size is valid at every smaller one.
pub valid_smaller : (t : Topology) (L : Layout) (s s' : ℕ) → 1 ≤ s' → s' ≤ s → ValidAt t L s → ValidAt t L s'
valid_smaller t L s s' o l v =
    record {
      positive = o;
      partition_rows = v.partition_rows;
      rows = v.rows;
      capacities = λ b h. omega (arith, v.capacities b h, mul-le-mul_left (copies_in L (node_at t b).id) l);
      ceilings = v.ceilings;
    }

module _ (t : Topology) (s : ℕ) where
  abbrev P : ℕ
  P = partitions t

  abbrev N : ℕ
  N = length t.nodes

  -- The rooms of the terms are the caps of the theory.
  room-cap : (b : ℕ) → room_at t s b ≡ cap_at t s b
  unfolding room_at cap_at
  room-cap b = refl

  -- ---- zone by zone

  -- The room of the zone that node z names; nothing where an earlier node names it.
  zone_room_lem : (z : ℕ) → z < N → one_if (opens_zone t z) * zone_room t s z ≡ min P (in_zone (zone_index t) (cap_at t s) z N)
  unfolding opens_zone zone_room in_zone is one_if
  zone_room_lem z l = ⊎_elim (λ w. opens w.0) (λ w. closed w.0) (is_cases (zone_index t z) z)
    where
      opens : zone_index t z ≡ z → one_if (opens_zone t z) * zone_room t s z ≡ min P (in_zone (zone_index t) (cap_at t s) z N)
      opens e =
          let first : every_to z (λ c. not (eqb (node_at t c).zone (node_at t z).zone)) ≡ true =
          every-all z (λ c. not (eqb (node_at t c).zone (node_at t z).zone))
          (λ c k. ap not (ne_eqb (node_at t c).zone (node_at t z).zone (λ q. omega (arith, (zone_first t c (omega arith)).2, zone_same t c z q, e)))) in
          let sums = sum_cong N (λ c. one_if (eqb (node_at t c).zone (node_at t z).zone) * room_at t s c) (λ c. is (zone_index t c) z * cap_at t s c)
          (λ c k. ap (λ (x : ℕ). x * room_at t s c) (sym (zone_is t c z k l) ∙ ap (is (zone_index t c)) e) ∙ ap (λ (x : ℕ). is (zone_index t c) z * x) (room-cap c)) in
          let once : 1 * zone_room t s z ≡ zone_room t s z = omega arith in
          ap (λ (x : Bool). one_if x * zone_room t s z) first ∙ (once ∙ ap (min P) sums)

      closed : (zone_index t z ≡ z → ⊥) → one_if (opens_zone t z) * zone_room t s z ≡ min P (in_zone (zone_index t) (cap_at t s) z N)
      closed n =
          let w = zone_first t z l in
          let later = every_fails z (zone_index t z) (λ c. not (eqb (node_at t c).zone (node_at t z).zone)) (omega (arith, w.2))
          (ap not (eq-eqb (node_at t (zone_index t z)).zone (node_at t z).zone w.1)) in
          let none = sum_zero N (λ c. is (zone_index t c) z * cap_at t s c)
          (λ c k. not_times {a = zone_index t c} {b = z} (λ q. n (ap (zone_index t) (sym q) ∙ (zone_again t c k ∙ q))) (cap_at t s c)) in
          let empty : 0 * zone_room t s z ≡ min P 0 = omega arith in
          ap (λ (x : Bool). one_if x * zone_room t s z) later ∙ (empty ∙ ap (min P) (sym none))

  -- The two sums are those by which a layout within the caps exists.
  zone_sums : sum_to N (λ b. one_if (opens_zone t b) * zone_room t s b) ≡ sum_to N (λ z. min P (in_zone (zone_index t) (cap_at t s) z N))
  zone_sums = sum_cong N (λ b. one_if (opens_zone t b) * zone_room t s b) (λ z. min P (in_zone (zone_index t) (cap_at t s) z N)) zone_room_lem

  room-sums : sum_to N (room_at t s) ≡ sum_to N (cap_at t s)
  room-sums = sum_cong N (room_at t s) (cap_at t s) (λ b l. room-cap b)

  -- Where a sum falls short the caps do not fit, and where none does they fit.
  short_unfit : Short t s → Fits P N t.replication t.redundancy (zone_index t) (cap_at t s) → ⊥
  short_unfit h f = ⊎_elim (λ a. omega (arith, a, f.0, room-sums)) (λ a. omega (arith, a, f.1, zone_sums)) h

  unfit_short : (Fits P N t.replication t.redundancy (zone_index t) (cap_at t s) → ⊥) → Short t s
  unfit_short n =
      ⊎_elim (λ l. inl l)
      (λ g. ⊎_elim (λ l. inr l) (λ k. absurd (n (omega (arith, g, room-sums), omega (arith, k, zone_sums))))
      (lt_or_ge (sum_to N (λ b. one_if (opens_zone t b) * zone_room t s b)) (t.redundancy * P)))
      (lt_or_ge (sum_to N (room_at t s)) (t.replication * P))

-- Where a sum falls short at the next size, no layout is valid at a larger one;
pub no_larger : (t : Topology) → rising (ids_of t.nodes) ≡ true → (s : ℕ) → Short t (suc s) → (M : Layout) (s' : ℕ) → ValidAt t M s' → s' ≤ s
no_larger t ids s h M s' v = ⊎_elim (λ l. absurd (none (valid_smaller t M s' (suc s) (omega arith) (omega arith) v))) (λ g. g) (lt_or_ge s s')
  where
    none : ValidAt t M (suc s) → ⊥
    none w =
        short_unfit t (suc s) h
        (needed (partitions t) (length t.nodes) t.replication t.redundancy (zone_index t) (cap_at t (suc s)) (incidence t M)
        (within_of_valid t ids M (suc s) w))

-- and at the size after the largest one always does.
pub short_next : (t : Topology) → Accepted t → (s : ℕ) → IsSize t s → Short t (suc s)
short_next t a s i = unfit_short t (suc s) none
  where
    none : Fits (partitions t) (length t.nodes) t.replication t.redundancy (zone_index t) (cap_at t (suc s)) → ⊥
    none f =
        let S = dealt (partitions t) (length t.nodes) t.replication (zone_index t) (cap_at t (suc s)) in
        let w = enough (partitions t) (length t.nodes) t.replication t.redundancy (zone_index t) (cap_at t (suc s)) (pow_pos t.bits) (zone_below t)
        (λ b h. (caps_law t).most (suc s) b (omega arith) h) a.redundancy.1 f in
        omega (arith, i.largest (layout_of t S) (suc s) (valid_of_within t a.ids S (suc s) (omega arith) w))
