-- The size to hope for bounds the size of every valid layout.
-- Assumes nothing.
use Prim.Native.Nat.{ℕ, ◌*◌, ◌≤◌}
use mathlib.Core.Path.{◌≡◌, ◌∙◌, subst}
use native.Mathlib.Nat.{mul_comm, le-div_iff_mul-le, mul-le-mul_right}
use native.Mathlib.Omega.{arith}
use lib.ListN.{length}
use lib.Pow.{pow_pos}
use Rattle.sums.specs.TermsSums.{sum_to}
use Rattle.sums.proofs.Sum.{sum_cong, sum_le, sum_scale, sum-swap, sum_const}
use Rattle.exchange.specs.ModelRow.{copies}
use Rattle.cluster.specs.Terms.{Topology, partitions, node_at, Layout, row, copies_in, usable, ValidAt}
use Rattle.cluster.specs.TermsReading.{Accepted}
use Rattle.incidence.specs.ModelIncidence.{incidence}
use Rattle.incidence.proofs.TieLayouts.{copies-bits, valid_bits}
use Rattle.figures.specs.TermsFigures.{hope_of}

-- A valid layout has R copies of each of P partitions.
pub all-copies : (t : Topology) (L : Layout) (s : ℕ) → Accepted t → ValidAt t L s
    → sum_to (length t.nodes) (λ b. copies_in L (node_at t b).id) ≡ t.replication * partitions t
unfolding copies incidence
all-copies t L s a v =
    sum_cong (length t.nodes) (λ b. copies_in L (node_at t b).id) (λ b. sum_to (partitions t) (λ p. incidence t L p b))
    (λ b l. copies-bits t L b v.partition_rows)
    ∙ (sum-swap (length t.nodes) (partitions t) (λ b p. incidence t L p b)
    ∙ (sum_cong (partitions t) (λ p. sum_to (length t.nodes) (λ b. incidence t L p b)) (λ p. t.replication)
    (λ p l. (valid_bits t a.ids (row L p) (v.rows p l)).size)
    ∙ (sum_const (partitions t) t.replication ∙ mul_comm (partitions t) t.replication)))

-- A valid layout's size is at most the size to hope for.
pub hope_bound : (t : Topology) (L : Layout) (s : ℕ) → Accepted t → ValidAt t L s → s ≤ hope_of t
unfolding hope_of
hope_bound t L s a v =
    (le-div_iff_mul-le some).1
    (subst (λ (k : ℕ). s * k ≤ sum_to n (λ b. usable (node_at t b))) (all-copies t L s a v)
    (subst (λ (k : ℕ). k ≤ sum_to n (λ b. usable (node_at t b))) (sum_scale n s held)
    (sum_le n (λ b. s * held b) (λ b. usable (node_at t b)) (λ b l. subst (λ (k : ℕ). k ≤ usable (node_at t b)) (mul_comm (held b) s) (v.capacities b l)))))
  where
    n : ℕ
    n = length t.nodes

    held : ℕ → ℕ
    held b = copies_in L (node_at t b).id

    some : 1 ≤ t.replication * partitions t
    some = omega (arith, a.replication, pow_pos t.bits, mul-le-mul_right (partitions t) a.replication.0)
