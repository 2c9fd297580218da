-- Layouts of as many copies of which nothing is to be sent are the same.
-- Assumes nothing.
use Prim.Native.Nat.{ℕ, ◌<◌}
use mathlib.Core.Path.{◌≡◌, sym, ◌∙◌}
use mathlib.Core.Bool.{true}
use mathlib.Core.List.{List, []}
use native.Mathlib.Omega.{arith}
use lib.ListN.{length}
use lib.Seq.{ext_get_or}
use Rattle.sums.proofs.Sum.{sum_zero, sum_term}
use Rattle.cluster.specs.Terms.{Topology, partitions, Layout, row, mem, rising, ValidAt, only_in, sent}
use Rattle.cluster.proofs.Sending.{row-sent}
use Rattle.layouts.proofs.RowFaults.{only_none, none_only}
use Rattle.cluster.proofs.Lists.{same_test, rising_same}

-- ---- rows

-- Rows of as many rising ids, the second with all of the first, are the same.
same_row_lem : (r f : List ℕ) → rising r ≡ true → rising f ≡ true → length r ≡ length f → only_in r f ≡ 0 → r ≡ f
same_row_lem r f d e l h =
    rising_same 0 0 r f d e
    (λ i. same_test (mem i r) (mem i f) (none_only r f h i) (none_only f r (omega (arith, row-sent r f d e)) i))

-- ---- layouts

-- Of a layout nothing is to be sent to itself.
pub sent_self : (t : Topology) (L : Layout) → sent t L L ≡ 0
unfolding sent
sent_self t L =
    sum_zero (partitions t) (λ p. only_in (row L p) (row L p)) (λ p l. only_none (row L p) (row L p) (λ i m. m))

-- Valid layouts of which nothing is to be sent are the same.
pub sent-none : (t : Topology) (L M : Layout) (s s' : ℕ) → ValidAt t L s → ValidAt t M s' → sent t L M ≡ 0 → L ≡ M
unfolding sent
sent-none t L M s s' v w h =
    ext_get_or [] L M (v.partition_rows ∙ sym w.partition_rows)
    (λ p l. let k : p < partitions t = omega (arith, v.partition_rows) in
    same_row_lem (row L p) (row M p) (v.rows p k).ids (w.rows p k).ids ((v.rows p k).many ∙ sym (w.rows p k).many)
    (omega (arith, sum_term (partitions t) p (λ q. only_in (row L q) (row M q)) k)))
