-- The turns of loops that add up numbers, of all nodes or of the nodes of a zone.
-- Assumes nothing.
use Prim.Native.Nat.{min, ℕ, ◌+◌, ◌*◌, ◌≤◌, ◌<◌}
use mathlib.Core.Path.{◌≡◌, refl, sym, ap, ◌∙◌}
use mathlib.Core.List.{List}
use mathlib.Core.Logic.{⊎_elim}
use native.Mathlib.Omega.{arith}
use lib.ListN.{length, set}
use lib.Seq.{get_or-set_same, get_or-set_other}
use Rattle.cluster.specs.Terms.{most_nodes}
use Rattle.sums.specs.TermsSums.{sum_to}
use Rattle.sums.specs.ModelSums.{is}
use Rattle.sums.proofs.Sum.{is_times, not_times, sum_cong, sum-next, eq_or_ne, sum_le, sum_const}
use Rattle.dealing.specs.ModelDeal.{in_zone}
use Rattle.incidence.specs.ModelIncidence.{cell}

-- Terms that are at most m add up to at most m for each.
pub sum_bound : (f : ℕ → ℕ) (n m : ℕ) → ((i : ℕ) → i < n → f i ≤ m) → sum_to n f ≤ n * m
sum_bound f n m h = omega (arith, sum_le n f (λ i. m) h, sum_const n m)

-- They add up whole where each is counted up to m.
pub sum_whole : (f : ℕ → ℕ) (n m : ℕ) → ((i : ℕ) → i < n → f i ≤ m) → sum_to n (λ i. min m (f i)) ≡ sum_to n f
sum_whole f n m h = sum_cong n (λ i. min m (f i)) f (λ i l. omega (arith, h i l))

module _ (zone f : ℕ → ℕ) (n : ℕ) where
  -- A node of the zone counts.
  pub zone_here : (z s v : ℕ) → zone n ≡ z → s ≡ in_zone zone f z n → v ≡ f n → s + v ≡ in_zone zone f z (n + 1)
  unfolding in_zone
  zone_here z s v q e d =
      sum-next (λ x. is (zone x) z * f x) n s v e (d ∙ sym (is_times q (f n)))

  -- A node of another zone does not.
  pub zone_not_here : (z s : ℕ) → (zone n ≡ z → ⊥) → s ≡ in_zone zone f z n → s ≡ in_zone zone f z (n + 1)
  unfolding in_zone
  zone_not_here z s q e =
      omega (arith, sum-next (λ x. is (zone x) z * f x) n s 0 e (sym (not_times q (f n))))

  -- Numbers that are at most m add up to at most m for each node.
  pub zone_bound : (z m : ℕ) → ((i : ℕ) → i < n → f i ≤ m) → in_zone zone f z n ≤ n * m
  unfolding in_zone
  zone_bound z m h = sum_bound (λ x. is (zone x) z * f x) n m (λ i l. ⊎_elim
      (λ e. omega (arith, is_times e (f i), h i l)) (λ e. omega (arith, not_times e (f i))) (eq_or_ne (zone i) z))

  -- Where each cell holds the sum of a zone, and a node's number goes to the cell of its zone, each holds the next sum.
  pub zones-next : (l : List ℕ) → length l ≡ most_nodes → zone n < most_nodes → ((z : ℕ) → z < most_nodes → cell l z ≡ in_zone zone f z n)
      → (z : ℕ) → z < most_nodes → cell (set l (zone n) (cell l (zone n) + f n)) z ≡ in_zone zone f z (n + 1)
  zones-next l long low h z k =
      ⊎_elim
      (λ e. ap (cell (set l (zone n) (cell l (zone n) + f n))) (sym e)
      ∙ (get_or-set_same l (zone n) (cell l (zone n) + f n) 0 (omega arith)
      ∙ zone_here z (cell l (zone n)) (f n) e (ap (cell l) e ∙ h z k) refl))
      (λ e. get_or-set_other l (zone n) z (cell l (zone n) + f n) 0 (λ q. e (sym q)) ∙ zone_not_here z (cell l z) e (h z k))
      (eq_or_ne (zone n) z)
