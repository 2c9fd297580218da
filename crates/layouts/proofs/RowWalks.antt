-- The set of the zones of a row, and the walk that makes the zones of nodes.
-- Assumes nothing.
use Prim.Native.Nat.{ℕ, ◌+◌, ◌*◌, ◌^◌, ◌≤◌, ◌<◌, min}
use mathlib.Core.Path.{◌≡◌, sym, ap, ap₂, ◌∙◌}
use mathlib.Core.List.{List}
use native.Mathlib.Nat.{zero-mul, mul-zero}
use native.Mathlib.Omega.{arith}
use lib.ListN.{length, get_or}
use Rattle.sums.specs.ModelSums.{is}
use Rattle.sums.proofs.Sum.{is_le, is_ne, sum_cong, sum-cut, sum_zero, sum_but_one}
use Rattle.sets.specs.ModelBits.{mask_bits, bit, mask_of, with_of, without_of, count_of, least_of}
use Rattle.sets.proofs.Laws.{bit_le, bit_zero, bit_mask, bit-mask-high, mask_lt, mask_unique, bit-with, bit-without_same, bit-without_other, least_at, least-some, count-sum}
use Rattle.exchange.specs.ModelRow.{zone_count, cover}
use Rattle.cluster.specs.Terms.{most_nodes, Topology, zones_of, row_at, ids_in}
use Rattle.incidence.specs.ModelIncidence.{zone_index, bits_of, zone_cells}
use Rattle.incidence.proofs.TieZones.{zones-cover, zone_below}
use Rattle.incidence.proofs.Columns.{cell-column}
use Rattle.copies.specs.ModelCopies.{row_nodes}
use Rattle.copies.proofs.RowNodes.{bit-nodes}
use Rattle.layouts.specs.ModelScans.{zones_in}

-- How many nodes of a set are in zone z.
abbrev in_zone : List ℕ → ℕ → ℕ → ℕ
in_zone zones nodes z = zone_count most_nodes (λ b. get_or zones b 0) (bit nodes) z

-- The zones of the nodes that are passed, with those of the nodes that are left, are the zones of all.
unfoldable pub CoveredSoFar : List ℕ → ℕ → ℕ → ℕ → Type 0
CoveredSoFar zones nodes left covered = (z : ℕ) → z < most_nodes → min 1 (bit covered z + in_zone zones left z) ≡ min 1 (in_zone zones nodes z)

module _ (zones : List ℕ) (nodes : ℕ) where
  -- At first all are left.
  pub zones-none : CoveredSoFar zones nodes nodes 0
  unfolding CoveredSoFar
  zones-none z l = omega (arith, bit_zero z)

  -- The least node that is left counts in its zone.
  zone_step : (left z : ℕ) → left < 2 ^ mask_bits → (left ≡ 0 → ⊥)
      → in_zone zones (without_of left (least_of left)) z + is (get_or zones (least_of left) 0) z ≡ in_zone zones left z
  unfolding zone_count
  zone_step left z w some =
      let b = least_of left in
      let l : b < mask_bits = least-some left w some in
      let zone = λ (x : ℕ). is (get_or zones x 0) z in
      omega (
        arith,
        sum_but_one most_nodes b (λ x. bit (without_of left b) x * zone x) (λ x. bit left x * zone x) l
            (λ x m d. ap (λ (n : ℕ). n * zone x) (bit-without_other left b x m (λ e. d (sym e)))),
        ap (λ (n : ℕ). n * zone b) (bit-without_same left b l),
        ap (λ (n : ℕ). n * zone b) (least_at left l),
      )

  -- Its zone is put in.
  pub zones-put : (left covered : ℕ) → left < 2 ^ mask_bits → (left ≡ 0 → ⊥) → CoveredSoFar zones nodes left covered
      → CoveredSoFar zones nodes (without_of left (least_of left)) (with_of covered (get_or zones (least_of left) 0))
  unfolding CoveredSoFar
  zones-put left covered w some h z l =
      omega (arith, h z l, zone_step left z w some, bit-with covered (get_or zones (least_of left) 0) z l, bit_le covered z, is_le (get_or zones (least_of left) 0) z)

  -- Where none is left, the zones are those of the set.
  pub zones-all : (left covered : ℕ) → left ≡ 0 → covered < 2 ^ mask_bits → CoveredSoFar zones nodes left covered → covered ≡ zones_in zones nodes
  unfolding CoveredSoFar zones_in zone_count
  zones-all left covered e w h =
      let none = λ (z : ℕ). sum_zero most_nodes (λ x. bit left x * is (get_or zones x 0) z)
      (λ x l. ap (λ (m : ℕ). bit m x * is (get_or zones x 0) z) e ∙ (ap (λ (m : ℕ). m * is (get_or zones x 0) z) (bit_zero x) ∙ zero-mul (is (get_or zones x 0) z))) in
      mask_unique most_nodes covered (in_zone zones nodes) w (λ z l. omega (arith, h z l, none z, bit_le covered z))

-- The zones of the nodes of a row are as many as the row lies in.
pub count-zones : (t : Topology) (cells : List ℕ) (p : ℕ) → length t.nodes ≤ most_nodes
    → count_of (zones_in (zone_cells t) (row_nodes t cells p)) ≡ zones_of t.nodes (ids_in (row_at cells p))
unfolding zones_in cover
count-zones t cells p few =
    count-sum most_nodes (mask_of covered most_nodes) (omega arith) (mask_lt covered most_nodes)
    ∙ (sum_cong most_nodes (λ z. bit (mask_of covered most_nodes) z) (λ z. min 1 (zone_count n (zone_index t) S z)) (λ z l. bit_mask covered most_nodes z l ∙ ap (min 1) (same z))
    ∙ (sum-cut n most_nodes (λ z. min 1 (zone_count n (zone_index t) S z)) few (λ z l k. ap (min 1) (beyond z l))
    ∙ sym (zones-cover t (ids_in (row_at cells p)))))
  where
    n : ℕ
    n = length t.nodes

    S : ℕ → ℕ
    S = bits_of t.nodes (ids_in (row_at cells p))

    nodes : ℕ
    nodes = row_nodes t cells p

    covered : ℕ → ℕ
    covered = zone_count most_nodes (λ x. get_or (zone_cells t) x 0) (bit nodes)

    same : (z : ℕ) → covered z ≡ zone_count n (zone_index t) S z
    same z =
        unfold zone_count zone_cells row_nodes in
        (sum-cut n most_nodes (λ x. bit nodes x * is (get_or (zone_cells t) x 0) z) few
        (λ x l k. ap (λ (m : ℕ). m * is (get_or (zone_cells t) x 0) z) (bit-mask-high S n x l) ∙ zero-mul (is (get_or (zone_cells t) x 0) z))
        ∙ sum_cong n (λ x. bit nodes x * is (get_or (zone_cells t) x 0) z) (λ x. S x * is (zone_index t x) z)
        (λ x l. ap₂ (λ (m v : ℕ). m * is v z) (bit-nodes t cells p x) (cell-column (zone_index t) n x few l)))

    beyond : (z : ℕ) → n ≤ z → zone_count n (zone_index t) S z ≡ 0
    beyond z h =
        unfold zone_count in
        sum_zero n (λ x. S x * is (zone_index t x) z)
        (λ x l. ap (λ (m : ℕ). S x * m) (is_ne {a = zone_index t x} {b = z} (λ e. omega (arith, zone_below t x l))) ∙ mul-zero (S x))
