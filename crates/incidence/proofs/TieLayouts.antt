-- The terms and the theory of exchanges, both ways: a layout valid at a size is a layout of 0/1 rows within the caps of that size, and the other way round.
-- Assumes nothing.
use Prim.Native.Nat.{ℕ, ◌+◌, ◌*◌, ◌≤◌, ◌<◌}
use mathlib.Core.Path.{◌≡◌, refl, sym, ap, ◌∙◌, subst}
use mathlib.Core.List.{List, []}
use mathlib.Core.Bool.{true}
use native.Mathlib.Nat.{le-min}
use native.Mathlib.Omega.{arith}
use lib.ListN.{length, get_or}
use Rattle.cluster.proofs.Taking.{takes-held, takes_few}
use Rattle.sums.specs.TermsSums.{sum_to, one_if, tab}
use Rattle.sums.proofs.Sum.{sum_cong, sum_le, sum_const}
use Rattle.cells.proofs.Cells.{length-tab, get_or_tab, tab_cong, tab_get_or}
use Rattle.exchange.specs.ModelRow.{Valid, copies, weigh, Within}
use Rattle.exchange.proofs.Agreeing.{cover_cong, copies_cong, weigh_cong}
use Rattle.cluster.specs.Terms.{Topology, partitions, no_node, node_at, ids_of, mem, rising, Layout, row, copies_in, ValidRow, usable, ValidAt, sent}
use Rattle.incidence.specs.ModelIncidence.{zone_index, cap_at, bits_of, incidence, ids_where, layout_of}
use Rattle.sums.proofs.Tests.{one-if_le}
use Rattle.incidence.proofs.TieRows.{row-length, copies-sum, where_known, where_rising, where_bits, where_row}
use Rattle.incidence.proofs.TieZones.{zones-cover}
use Rattle.incidence.proofs.TieSending.{incidence_le, sent_law}

-- A layout made of 0/1 rows has a row for each partition.
pub length-layout : (t : Topology) (S : ℕ → ℕ → ℕ) → length (layout_of t S) ≡ partitions t
unfolding layout_of
length-layout t S = length-tab (λ p. ids_where t.nodes (S p)) (partitions t)

-- Row p of a layout made of 0/1 rows.
pub row-layout : (t : Topology) (S : ℕ → ℕ → ℕ) (p : ℕ) → p < partitions t → row (layout_of t S) p ≡ ids_where t.nodes (S p)
unfolding layout_of
row-layout t S p h = get_or_tab (λ q. ids_where t.nodes (S q)) (partitions t) p [] h

-- The copies of node b, counted by bits.
pub copies-bits : (t : Topology) (L : Layout) (b : ℕ) → length L ≡ partitions t
    → copies_in L (node_at t b).id ≡ copies (partitions t) (incidence t L) b
unfolding copies incidence
copies-bits t L b e =
    copies-sum L (node_at t b).id ∙ ap (λ (n : ℕ). sum_to n (λ p. one_if (mem (node_at t b).id (row L p)))) e

module _ (t : Topology) (ids : rising (ids_of t.nodes) ≡ true) where
  -- The bits of a valid row of ids are a valid row.
  pub valid_bits : (r : List ℕ) → ValidRow t r → Valid (length t.nodes) t.replication t.redundancy (zone_index t) (bits_of t.nodes r)
  valid_bits r v =
      record {
        bits = λ x h. one-if_le (mem (get_or t.nodes x no_node).id r);
        size = sym (row-length 0 0 t.nodes r ids v.ids v.known) ∙ v.many;
        wide = subst (λ (k : ℕ). t.redundancy ≤ k) (zones-cover t r) v.zones;
      }

  -- The ids of a valid row of bits are a valid row.
  pub valid_ids : (S : ℕ → ℕ) → Valid (length t.nodes) t.replication t.redundancy (zone_index t) S → ValidRow t (ids_where t.nodes S)
  valid_ids S v =
      record {
        ids = where_rising 0 t.nodes S ids;
        many =
            row-length 0 0 t.nodes (ids_where t.nodes S) ids (where_rising 0 t.nodes S ids) (where_known t.nodes S)
            ∙ (sum_cong (length t.nodes) (bits_of t.nodes (ids_where t.nodes S)) S same ∙ v.size);
        known = where_known t.nodes S;
        zones =
            subst (λ (k : ℕ). t.redundancy ≤ k)
            (sym
            (zones-cover t (ids_where t.nodes S)
            ∙ cover_cong (length t.nodes) (zone_index t) (bits_of t.nodes (ids_where t.nodes S)) S same))
            v.wide;
      }
    where
      same : (b : ℕ) → b < length t.nodes → bits_of t.nodes (ids_where t.nodes S) b ≡ S b
      same b h = where_bits 0 t.nodes S b ids h (v.bits b h)

  -- A layout of ids has the bits that it was made of.
  pub incidence-layout : (S : ℕ → ℕ → ℕ) (p b : ℕ) → p < partitions t → b < length t.nodes → S p b ≤ 1 → incidence t (layout_of t S) p b ≡ S p b
  unfolding incidence
  incidence-layout S p b h k l =
      ap (λ (r : List ℕ). bits_of t.nodes r b) (row-layout t S p h)
      ∙ where_bits 0 t.nodes (S p) b ids k l

  -- A layout of valid rows is made of its bits.
  pub layout-incidence : (L : Layout) → length L ≡ partitions t → ((p : ℕ) → p < partitions t → ValidRow t (row L p))
      → layout_of t (incidence t L) ≡ L
  unfolding incidence layout_of
  layout-incidence L e v =
      tab_cong (λ p. ids_where t.nodes (bits_of t.nodes (row L p))) (λ p. row L p) (partitions t)
      (λ p h. where_row 0 0 t.nodes (row L p) ids (v p h).ids (v p h).known)
      ∙ (ap (tab (λ p. row L p)) (sym e) ∙ tab_get_or L [])

  -- So many copies are within the usable capacity of node b at a size, and within its ceiling.
  abbrev Holds : ℕ → ℕ → ℕ → Type 0
  Holds b s n = (n * s ≤ usable (node_at t b)) × (n ≤ (node_at t b).ceiling)

  -- 0/1 rows within the caps of a size are, as ids, a layout valid at that size.
  pub valid_of_within : (S : ℕ → ℕ → ℕ) (s : ℕ) → 1 ≤ s
      → Within (partitions t) (length t.nodes) t.replication t.redundancy (zone_index t) (cap_at t s) S → ValidAt t (layout_of t S) s
  valid_of_within S s l w =
      record {
        positive = l;
        partition_rows = length-layout t S;
        rows = λ p h. subst (ValidRow t) (sym (row-layout t S p h)) (valid_ids (S p) (w.rows p h));
        capacities = λ b h. (held b h).0;
        ceilings = λ b h. (held b h).1;
      }
    where
      same : (b : ℕ) → b < length t.nodes → copies (partitions t) (incidence t (layout_of t S)) b ≡ copies (partitions t) S b
      same =
          copies_cong (partitions t) (length t.nodes) (incidence t (layout_of t S)) S
          (λ p k b h. incidence-layout S p b k h ((w.rows p k).bits b h))

      held : (b : ℕ) → b < length t.nodes → Holds b s (copies_in (layout_of t S) (node_at t b).id)
      held b h =
          subst (Holds b s) (sym (copies-bits t (layout_of t S) b (length-layout t S) ∙ same b h))
          ((takes-held (node_at t b) _ s).0
          ((takes_few (node_at t b) (copies (partitions t) S b) s l).1 (unfold cap_at in omega (arith, w.caps b h), unfold cap_at in omega (arith, w.caps b h))))

  -- A layout valid at a size is, as 0/1 rows, within the caps of that size.
  pub within_of_valid : (L : Layout) (s : ℕ) → ValidAt t L s
      → Within (partitions t) (length t.nodes) t.replication t.redundancy (zone_index t) (cap_at t s) (incidence t L)
  unfolding incidence cap_at
  within_of_valid L s v =
      record {
        rows = λ p h. valid_bits (row L p) (v.rows p h);
        caps = λ b h. let k = (takes_few (node_at t b) _ s v.positive).0 ((takes-held (node_at t b) _ s).1 (held b h)) in le-min (le-min (few b) k.1) k.0;
      }
    where
      few : (b : ℕ) → copies (partitions t) (incidence t L) b ≤ partitions t
      few b =
          unfold copies in
          omega
          (arith, sum_le (partitions t) (λ p. incidence t L p b) (λ p. 1) (λ p h. incidence_le t L p b), sum_const (partitions t) 1)

      held : (b : ℕ) → b < length t.nodes → Holds b s (copies (partitions t) (incidence t L) b)
      held b h = subst (Holds b s) (copies-bits t L b v.partition_rows) (v.capacities b h, v.ceilings b h)

  -- The copies that a layout made of valid 0/1 rows sends, and the agreement of its rows with the former layout, are all its copies.
  pub sent-bits : (S : ℕ → ℕ → ℕ) (F : Layout)
      → ((p : ℕ) → p < partitions t → Valid (length t.nodes) t.replication t.redundancy (zone_index t) (S p))
      → sent t (layout_of t S) F + weigh (partitions t) (length t.nodes) (incidence t F) S ≡ t.replication * partitions t
  sent-bits S F v =
      ap (λ (k : ℕ). sent t (layout_of t S) F + k) (sym same)
      ∙ sent_law t (layout_of t S) F ids (λ p h. subst (ValidRow t) (sym (row-layout t S p h)) (valid_ids (S p) (v p h)))
    where
      same : weigh (partitions t) (length t.nodes) (incidence t F) (incidence t (layout_of t S)) ≡ weigh (partitions t) (length t.nodes) (incidence t F) S
      same =
          weigh_cong (partitions t) (length t.nodes) (incidence t F) (incidence t F) (incidence t (layout_of t S)) S
          (λ p h b k. refl) (λ p h b k. incidence-layout S p b h k ((v p h).bits b k))
