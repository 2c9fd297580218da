-- The copies to be sent as agreement: those of the new layout that the former one does not have, counted over the nodes.
-- Assumes nothing.
use Prim.Native.Nat.{ℕ, ◌+◌, ◌*◌, ◌≤◌, ◌<◌}
use mathlib.Core.Path.{◌≡◌, sym, ◌∙◌}
use mathlib.Core.List.{List}
use mathlib.Core.Bool.{true}
use native.Mathlib.Omega.{arith}
use lib.ListN.{length, get_or}
use Rattle.sums.specs.TermsSums.{sum_to, one_if}
use Rattle.sums.proofs.Sum.{sum_cong, sum-add, sum_const}
use Rattle.exchange.specs.ModelRow.{weigh}
use Rattle.cluster.specs.Terms.{Topology, partitions, no_node, ids_of, mem, rising, Layout, row, ValidRow, only_in, sent}
use Rattle.incidence.specs.ModelIncidence.{bits_of, incidence}
use Rattle.cluster.specs.declared.Node.{Node}
use Rattle.sums.proofs.Tests.{one-if_le}
use Rattle.cluster.proofs.Lists.{only_or_common}
use Rattle.incidence.proofs.TieRows.{row-sum}

-- Of two rows: what stands in the first only, and what is shared, is all of the first.
row_shared : (ns : List Node) (r f : List ℕ) → rising (ids_of ns) ≡ true → rising r ≡ true → ((i : ℕ) → mem i r ≡ true → mem i (ids_of ns) ≡ true)
    → only_in r f + sum_to (length ns) (λ b. bits_of ns r b * bits_of ns f b) ≡ length r
row_shared ns r f d e h = omega (arith, only_or_common r f, row-sum 0 0 ns r (λ i. one_if (mem i f)) d e h)

-- An incidence is a bit.
pub incidence_le : (t : Topology) (L : Layout) (p b : ℕ) → incidence t L p b ≤ 1
unfolding incidence
incidence_le t L p b = one-if_le (mem (get_or t.nodes b no_node).id (row L p))

-- The copies that a layout with valid rows sends, and its agreement with the former layout, are all its copies.
pub sent_law : (t : Topology) (L F : Layout) → rising (ids_of t.nodes) ≡ true → ((p : ℕ) → p < partitions t → ValidRow t (row L p))
    → sent t L F + weigh (partitions t) (length t.nodes) (incidence t F) (incidence t L) ≡ t.replication * partitions t
unfolding sent weigh incidence
sent_law t L F d v =
    sym (sum-add (partitions t) (λ p. only_in (row L p) (row F p)) shared)
    ∙ (sum_cong (partitions t) (λ p. only_in (row L p) (row F p) + shared p) (λ p. t.replication) each
    ∙ omega (arith, sum_const (partitions t) t.replication))
  where
    shared : ℕ → ℕ
    shared p = sum_to (length t.nodes) (λ b. bits_of t.nodes (row L p) b * bits_of t.nodes (row F p) b)

    each : (p : ℕ) → p < partitions t → only_in (row L p) (row F p) + shared p ≡ t.replication
    each p h = row_shared t.nodes (row L p) (row F p) d (v p h).ids (v p h).known ∙ (v p h).many
