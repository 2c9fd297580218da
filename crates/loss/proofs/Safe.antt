-- What copies and zones are for: fewer nodes than copies cost nothing, and where two zones are wanted no zone costs anything.
-- Assumes nothing.
use Prim.Native.Nat.{ℕ, suc, ◌≤◌, ◌<◌}
use mathlib.Core.Path.{◌≡◌, refl, sym, ap, ◌∙◌}
use mathlib.Core.Bool.{Bool, true, false, cond, not}
use mathlib.Core.List.{List, [], ◌∷◌}
use mathlib.Core.Logic.{⊎_elim}
use native.Mathlib.Omega.{arith}
use lib.ListN.{length, get_or}
use borrow.Author.Tests.{ne_eqb}
use Rattle.sums.specs.TermsSums.{one_if}
use Rattle.sums.proofs.Tests.{one-if_le}
use Rattle.cluster.specs.Terms.{Topology, no_node, mem, rising, different, zones_named, Layout, row, ValidAt, only_in}
use Rattle.cluster.specs.declared.Node.{Node}
use Rattle.cluster.proofs.Lists.{mem_head, mem_tail, mem-none, mem_cases, over, over_common, only_or_common}
use Rattle.layouts.proofs.RowFaults.{none_only}
use Rattle.loss.specs.TermsLoss.{loss_of}

-- Where no row is lost, nothing is.
none-lost : (L : Layout) (X : List ℕ) → ((p : ℕ) → p < length L → only_in (row L p) X ≡ 0 → ⊥) → loss_of L X ≡ 0
unfolding loss_of one_if
none-lost [] X h = refl
none-lost (r ∷ rs) X h =
    omega (arith, ap one_if (ne_eqb (only_in r X) 0 (h 0 (omega arith))), none-lost rs X (λ p l. h (suc p) (omega arith)))

-- ---- fewer nodes than copies

over_le : (X : List ℕ) (f : ℕ → ℕ) → ((x : ℕ) → f x ≤ 1) → over X f ≤ length X
unfolding over
over_le [] f h = omega arith
over_le (x ∷ xs) f h = omega (arith, h x, over_le xs f h)

module _ (t : Topology) (L : Layout) (s : ℕ) (v : ValidAt t L s) (X : List ℕ) where
  pub few_safe : rising X ≡ true → length X < t.replication → loss_of L X ≡ 0
  few_safe d h =
      none-lost L X
      (λ p l z. let w = v.rows p (omega (arith, v.partition_rows)) in
      omega (arith, w.many, only_or_common (row L p) X, over_common 0 0 (row L p) X w.ids d, over_le X (λ y. one_if (mem y (row L p))) (λ y. one-if_le (mem y (row L p)))))

-- ---- one zone where two are wanted

-- The zones of some nodes are all z where each of these has it,
named_same : (ns : List Node) (r : List ℕ) (z : ℕ) → ((b : ℕ) → b < length ns → mem (get_or ns b no_node).id r ≡ true → (get_or ns b no_node).zone ≡ z)
    → (w : ℕ) → mem w (zones_named ns r) ≡ true → w ≡ z
unfolding zones_named
named_same [] r z h w m = absurd (mem-none w m)
named_same (n ∷ ns) r z h w m = go (named_same ns r z (λ b l. h (suc b) (omega arith)) w) (mem n.id r) (h 0 (omega arith)) m
  where
    go : (mem w (zones_named ns r) ≡ true → w ≡ z) → (b : Bool) → (b ≡ true → n.zone ≡ z)
        → mem w (cond b (n.zone ∷ zones_named ns r) (zones_named ns r)) ≡ true → w ≡ z
    go rest true here k = ⊎_elim (λ e. e ∙ here refl) rest (mem_cases w n.zone (zones_named ns r) k)
    go rest false here k = rest k

-- and so they are one at most.
same_one : (l : List ℕ) (z : ℕ) → ((w : ℕ) → mem w l ≡ true → w ≡ z) → different l ≤ 1
unfolding different one_if
same_one [] z h = omega arith
same_one (x ∷ []) z h = omega (arith, one-if_le (not (mem x [])))
same_one (x ∷ y ∷ ys) z h =
    let e : x ≡ y = h x (mem_head x x (y ∷ ys) refl) ∙ sym (h y (mem_tail y x (y ∷ ys) (mem_head y y ys refl))) in
    omega (arith, ap (λ (b : Bool). one_if (not b)) (mem_head x y ys e), same_one (y ∷ ys) z (λ w m. h w (mem_tail w x (y ∷ ys) m)))

module _ (t : Topology) (L : Layout) (s : ℕ) (v : ValidAt t L s) (X : List ℕ) (z : ℕ) where
  -- The nodes of X lie in zone z alone.
  pub zone_safe : 2 ≤ t.redundancy → ((b : ℕ) → b < length t.nodes → mem (get_or t.nodes b no_node).id X ≡ true → (get_or t.nodes b no_node).zone ≡ z)
      → loss_of L X ≡ 0
  zone_safe h own =
      none-lost L X
      (λ p l o. let w = v.rows p (omega (arith, v.partition_rows)) in
      omega (
        arith,
        w.zones,
        same_one (zones_named t.nodes (row L p)) z
            (named_same t.nodes (row L p) z (λ b k m. own b k (none_only (row L p) X o (get_or t.nodes b no_node).id m))),
      ))
