-- The copies to be sent and the distance: for one cluster and one former layout the distance is twice the one and a fixed difference, so that the
-- nearest layouts by either count are the same.
-- Assumes nothing.
use Prim.Native.Nat.{ℕ, ◌+◌, ◌*◌, ◌≤◌, ◌<◌}
use mathlib.Core.Path.{◌≡◌, sym, ap, ◌∙◌}
use mathlib.Core.List.{List}
use mathlib.Core.Bool.{true}
use native.Mathlib.Omega.{arith}
use lib.ListN.{length}
use Rattle.sums.specs.TermsSums.{sum_to}
use Rattle.sums.proofs.Sum.{sum_cong, sum-add, sum_scale, sum_const}
use Rattle.cluster.specs.Terms.{Topology, partitions, Layout, row, rising, ValidRow, only_in, sent, former_copies, distance}
use Rattle.cluster.proofs.Lists.{over_common, only_or_common}

-- Of a new row and a former one: what stands in one of them only, and all of the new one, is twice what is to be sent and all of the former one.
pub row-sent : (r f : List ℕ) → rising r ≡ true → rising f ≡ true → only_in r f + only_in f r + length r ≡ 2 * only_in r f + length f
row-sent r f d e = omega (arith, only_or_common r f, only_or_common f r, over_common 0 0 r f d e)

-- 2026-01: "For one cluster and one former layout distance is twice this plus a fixed difference": the former copies less R times P. Nothing is
-- subtracted here, since a former layout may have fewer copies than R times P.
pub distance-sent : (t : Topology) (L F : Layout) → ((p : ℕ) → p < partitions t → ValidRow t (row L p)) → ((p : ℕ) → p < partitions t → rising (row F p) ≡ true)
    → distance t L F + t.replication * partitions t ≡ 2 * sent t L F + former_copies t F
unfolding distance sent former_copies
distance-sent t L F v e =
    ap (λ (k : ℕ). sum_to P apart + k) (omega (arith, sum_const P t.replication))
    ∙ (sym (sum-add P apart (λ p. t.replication))
    ∙ (sum_cong P (λ p. apart p + t.replication) (λ p. 2 * only_in (row L p) (row F p) + length (row F p)) each
    ∙ (sum-add P (λ p. 2 * only_in (row L p) (row F p)) (λ p. length (row F p))
    ∙ ap (λ (k : ℕ). k + sum_to P (λ p. length (row F p))) (sum_scale P 2 (λ p. only_in (row L p) (row F p))))))
  where
    P : ℕ
    P = partitions t

    apart : ℕ → ℕ
    apart p = only_in (row L p) (row F p) + only_in (row F p) (row L p)

    each : (p : ℕ) → p < P → apart p + t.replication ≡ 2 * only_in (row L p) (row F p) + length (row F p)
    each p h = omega (arith, row-sent (row L p) (row F p) (v p h).ids (e p h), (v p h).many)

-- "so the nearest layouts stay the nearest": of two layouts the one is no farther exactly where it sends no more.
pub nearest_same : (t : Topology) (L M F : Layout) → ((p : ℕ) → p < partitions t → ValidRow t (row L p))
    → ((p : ℕ) → p < partitions t → ValidRow t (row M p)) → ((p : ℕ) → p < partitions t → rising (row F p) ≡ true)
    → (distance t L F ≤ distance t M F → sent t L F ≤ sent t M F) × (sent t L F ≤ sent t M F → distance t L F ≤ distance t M F)
nearest_same t L M F u v e =
    let a = distance-sent t L F u e in let b = distance-sent t M F v e in (λ h. omega (arith, a, b), λ h. omega (arith, a, b))
