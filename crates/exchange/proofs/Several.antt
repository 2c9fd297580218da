-- Several exchanges of one row at once: where each picked exchange is valid alone and no two of them can be crossed, all of them together keep
-- the row valid.
-- Assumes nothing.
use Prim.Native.Nat.{ℕ, ◌+◌, ◌-◌, ◌*◌, ◌≤◌, ◌<◌, min}
use mathlib.Core.Path.{◌≡◌, ap, ap₂, ◌∙◌}
use mathlib.Core.Logic.{⊎_elim}
use native.Mathlib.Nat.{mul-one, mul-le-mul_left, mul-le-mul_right}
use native.Mathlib.Omega.{arith}
use Rattle.sums.specs.TermsSums.{sum_to}
use Rattle.sums.specs.ModelSums.{is}
use Rattle.sums.proofs.Sum.{lt_or_ge, is_eq, is_le, is_one, is_cases, sum_le, sum-add}
use Rattle.sums.proofs.Count.{bit_times, bit-both, two_bits}
use Rattle.exchange.specs.ModelRow.{Valid, swap, zone_count, cover}
use Rattle.exchange.specs.ModelSwap.{fits}
use Rattle.exchange.proofs.Row.{fits_valid, valid_fits}
use Rattle.exchange.proofs.Picked.{picked, several, picked-at, picked_pos, picked_le, picked-total, out_le, in_le, out-sum_le, several_bit, several_sum, several_size}

module _ (N R Z : ℕ) (zone S : ℕ → ℕ) (zones : (x : ℕ) → x < N → zone x < N) (valid : Valid N R Z zone S) (m : ℕ) (μ a b : ℕ → ℕ)
    (bits : (i : ℕ) → i < m → μ i ≤ 1)
    (arcs : (i : ℕ) → i < m → μ i ≡ 1 → (a i < N) × (b i < N) × (S (a i) ≡ 1) × (S (b i) ≡ 0) × Valid N R Z zone (swap S (a i) (b i)))
    (differ : (i j : ℕ) → i < j → j < m → μ i ≡ 1 → μ j ≡ 1 → (a i ≡ a j → ⊥) × (b i ≡ b j → ⊥))
    (uncrossed : (i j : ℕ) → i < j → j < m → μ i ≡ 1 → μ j ≡ 1 → Valid N R Z zone (swap S (a i) (b j)) → Valid N R Z zone (swap S (a j) (b i)) → ⊥)
  where
    -- The nodes of a zone in the row, and in the row after the exchanges.
    abbrev before : ℕ → ℕ
    before z = zone_count N zone S z

    abbrev after : ℕ → ℕ
    after z = zone_count N zone (several m μ a b S) z

    abbrev source : ℕ → ℕ
    source i = zone (a i)

    abbrev target : ℕ → ℕ
    target i = zone (b i)

    -- The picked exchanges into a zone that the row does not touch.
    abbrev gain : ℕ → ℕ
    gain i = μ i * is (before (target i)) 0

    source_zone : (i : ℕ) → i < m → μ i ≡ 1 → source i < N
    source_zone i l e = zones (a i) (arcs i l e).0

    target_zone : (i : ℕ) → i < m → μ i ≡ 1 → target i < N
    target_zone i l e = zones (b i) (arcs i l e).1

    gain_bits : (i : ℕ) → i < m → gain i ≤ 1
    gain_bits i l = bit_times (bits i l) (is_le (before (target i)) 0)

    gain_one : (i : ℕ) → i < m → gain i ≡ 1 → (μ i ≡ 1) × (before (target i) ≡ 0)
    gain_one i l e =
        let p = bit-both (bits i l) (is_le (before (target i)) 0) (omega arith) in
        (p.0, is_one (before (target i)) 0 p.1)

    -- ---- the counts

    node : (i : ℕ) → i < m → μ i ≡ 1 → (a i < N) × (b i < N)
    node i l e = let s = arcs i l e in (s.0, s.1)

    out-row : (x : ℕ) → x < N → picked m μ a x ≤ S x
    out-row x l = out_le m μ a bits S (λ i k e. (arcs i k e).2) (λ i j k h p q. (differ i j k h p q).0) x

    -- A zone loses its sources and wins its targets.
    zone_law : (z : ℕ) → after z + picked m μ source z ≡ before z + picked m μ target z
    unfolding zone_count
    zone_law z = several_sum m μ a b S bits N node out-row (λ x. is (zone x) z)

    sources_le : (z : ℕ) → picked m μ source z ≤ before z
    unfolding zone_count
    sources_le z = out-sum_le m μ a bits N S (λ x. is (zone x) z) (λ i l e. (node i l e).0) out-row

    -- ---- what can be crossed

    -- No two picked arcs are such that each target would do for the other's source.
    crossed : (i j : ℕ) → i < j → j < m → μ i ≡ 1 → μ j ≡ 1 → 1 ≤ fits N Z zone S (source i) (b j) → 1 ≤ fits N Z zone S (source j) (b i) → ⊥
    crossed i j l k p q f g = uncrossed i j l k p q (one i j (omega arith) k p q f) (one j i k (omega arith) q p g)
      where
        one : (i j : ℕ) → i < m → j < m → μ i ≡ 1 → μ j ≡ 1 → 1 ≤ fits N Z zone S (source i) (b j) → Valid N R Z zone (swap S (a i) (b j))
        one i j l k p q f =
            let s = arcs i l p in
            let t = arcs j k q in
            fits_valid N R Z zone S (a i) (b j) (source_zone i l p) (target_zone j k q) valid s.0 t.1 s.2 t.3 f

    -- Two exchanges into an untouched zone can be crossed.
    targets_one : (z : ℕ) → before z ≡ 0 → picked m μ target z ≤ 1
    unfolding fits
    targets_one z e =
        picked_le m μ target bits z
        (λ i j l k p q s t. crossed i j l k p q (omega (arith, ap before t)) (omega (arith, ap before s)))

    -- Two exchanges out of a zone with two nodes can be crossed.
    sources_one : (z : ℕ) → 2 ≤ before z → picked m μ source z ≤ 1
    unfolding fits
    sources_one z h =
        picked_le m μ source bits z
        (λ i j l k p q s t. crossed i j l k p q (omega (arith, ap before s)) (omega (arith, ap before t)))

    -- Where the row has a zone to spare, any two exchanges can be crossed.
    spare-one : Z < cover N zone S → sum_to m μ ≤ 1
    unfolding fits
    spare-one h = ⊎_elim (λ l. omega arith) (λ g. absurd (two (two_bits m μ bits g))) (lt_or_ge (sum_to m μ) 2)
      where
        two : (i : ℕ) × (j : ℕ) × (i < j) × (j < m) × (μ i ≡ 1) × (μ j ≡ 1) → ⊥
        two w = crossed w.0 w.1 w.2 w.3 w.4 w.5 (omega arith) (omega arith)

    -- ---- the cover

    -- Zone z counts after the exchanges for what it counted before, less a source and with a target of the exchanges into untouched zones.
    abbrev Kept : ℕ → Type 0
    Kept z = min 1 (before z) + picked m gain target z ≤ min 1 (after z) + picked m gain source z

    -- So it is where the row has no zone to spare: no other exchange loses a zone, and no two of them win the same.
    kept : cover N zone S ≤ Z → (z : ℕ) → Kept z
    unfolding fits
    kept tight z = ⊎_elim untouched (λ h. ⊎_elim (alone h) (shared h) (lt_or_ge (before z) 2)) (lt_or_ge (before z) 1)
      where
        fewer : (i : ℕ) → i < m → gain i * is (target i) z ≤ μ i * is (target i) z
        fewer i l = mul-le-mul_right (is (target i) z) (omega (arith, mul-le-mul_left (μ i) (is_le (before (target i)) 0), mul-one (μ i)))

        untouched : before z < 1 → Kept z
        untouched h =
            omega (
              arith,
              zone_law z,
              sources_le z,
              targets_one z (omega arith),
              sum_le m (λ i. gain i * is (target i) z) (λ i. μ i * is (target i) z) fewer,
            )

        none : 1 ≤ before z → picked m gain target z ≡ 0
        none h =
            ⊎_elim (λ l. omega arith)
            (λ g. let w = picked-at m gain target gain_bits z g in
            absurd (omega (arith, gain_one w.0 w.1 w.2, ap before w.3)))
            (lt_or_ge (picked m gain target z) 1)

        gone : {s t c : ℕ} → 1 ≤ (s - 1) + c + (1 - t) + (cover N zone S - Z) → c ≡ 0 → s ≡ 1 → t ≡ 0
        gone f n e = omega arith

        leaves : before z ≡ 1 → (i : ℕ) × (i < m) × (μ i ≡ 1) × (source i ≡ z) → 1 ≤ after z + picked m gain source z
        leaves h w =
            let i = w.0 in
            let s = arcs i w.1 w.2 in
            let f = valid_fits N R Z zone S (a i) (b i) (source_zone i w.1 w.2) (target_zone i w.1 w.2) valid s.0 s.1 s.2 s.4 in
            ⊎_elim
            (λ e. omega (arith, zone_law z, sources_le z, picked_pos m μ target bits i z w.1 w.2 (e.0 ∙ w.3)))
            (λ n. omega (
              arith,
              picked_pos m gain source gain_bits i z w.1
                  (ap₂ ◌*◌ w.2 (is_eq (gone f n.1 (ap before w.3 ∙ h)))) w.3,
            ))
            (is_cases (target i) (source i))

        alone : 1 ≤ before z → before z < 2 → Kept z
        alone h l =
            ⊎_elim (λ k. omega (arith, none h, zone_law z))
            (λ g. omega (arith, none h, leaves (omega arith) (picked-at m μ source bits z g)))
            (lt_or_ge (picked m μ source z) 1)

        shared : 1 ≤ before z → 2 ≤ before z → Kept z
        shared h l = omega (arith, none h, zone_law z, sources_one z l)

    -- The cover does not fall below Z.
    wide-after : Z ≤ cover N zone (several m μ a b S)
    unfolding cover
    wide-after = ⊎_elim spare tight (lt_or_ge Z (cover N zone S))
      where
        spare : Z < cover N zone S → Z ≤ cover N zone (several m μ a b S)
        spare h =
            omega (
              arith,
              spare-one h,
              picked-total m μ source bits N source_zone,
              sum-add N (λ z. min 1 (after z)) (picked m μ source),
              sum_le N (λ z. min 1 (before z)) (λ z. min 1 (after z) + picked m μ source z) (λ z l. omega (arith, zone_law z)),
            )

        tight : cover N zone S ≤ Z → Z ≤ cover N zone (several m μ a b S)
        tight h =
            omega (
              arith,
              valid.wide,
              picked-total m gain source gain_bits N (λ i l e. source_zone i l (gain_one i l e).0),
              picked-total m gain target gain_bits N (λ i l e. target_zone i l (gain_one i l e).0),
              sum-add N (λ z. min 1 (before z)) (picked m gain target),
              sum-add N (λ z. min 1 (after z)) (picked m gain source),
              sum_le N (λ z. min 1 (before z) + picked m gain target z) (λ z. min 1 (after z) + picked m gain source z) (λ z l. kept h z),
            )

    -- All picked exchanges together leave the row valid.
    pub several_valid : Valid N R Z zone (λ x. S x + sum_to m (λ i. μ i * is (b i) x) - sum_to m (λ i. μ i * is (a i) x))
    several_valid =
        record {
          bits =
              λ x l. several_bit m μ a b S x
              (in_le m μ b bits S (λ i k e. (arcs i k e).3) (λ i j k h p q. (differ i j k h p q).1) x (valid.bits x l));
          size = several_size m μ a b S bits N node out-row ∙ valid.size;
          wide = wide-after;
        }
