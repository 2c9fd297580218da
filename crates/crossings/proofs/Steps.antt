-- The steps of the loops, over plain lists and numbers: tests as the code runs them on cells that it read, and what the arcs of a part cost.
-- Assumes nothing.
use Prim.Native.Nat.{ℕ, suc, ◌+◌, ◌-◌, ◌≤◌, ◌<◌}
use mathlib.Core.Path.{◌≡◌, sym, ap, ap₂, ◌∙◌}
use mathlib.Core.Bool.{Bool, true, false}
use mathlib.Core.List.{List}
use native.Mathlib.Nat.{add-zero}
use native.Mathlib.Numerals.{add-one}
use native.Mathlib.Omega.{arith}
use lib.ListN.{get_or}
use borrow.Author.Tests.{lt-ltb, le-ltb, eq-eqb, ne_eqb}
use Rattle.std.specs.Prelude.{Option, None, Some, ltb, is_some, unwrap_or, IfSome}
use Rattle.sums.specs.TermsSums.{sum_to}
use Rattle.sums.proofs.Sum.{sum_cong}
use Rattle.exchange.specs.ModelCircuit.{cost}
use Rattle.exchange.specs.ModelUncross.{Walk, crosses, wrap, inner, walk_costs}
use Rattle.exchange.proofs.Uncross.{wrap-low, wrap_end}
use Rattle.walks.specs.ModelWalks.{walk_in, inner_gains}

-- ---- tests

-- The test of the arcs i and j of a walk, where e is the partition of i.
module _ (P : ℕ) (ok : ℕ → ℕ → ℕ → Bool) (ys qs : List ℕ) (i j e : ℕ) (h : e ≡ get_or qs i 0) where
  abbrev pub pair : Bool
  pair = crosses P ok (λ t. get_or ys t 0) (λ t. get_or qs t 0) i j

  -- The arc i is a step over the store.
  pub cross_store : P ≤ e → false ≡ pair
  unfolding crosses
  cross_store l = rw (sym h, le-ltb e P l)

  -- The arc j stands in another partition.
  pub cross_apart : (f : ℕ) → f ≡ get_or qs j 0 → e < P → (e ≡ f → ⊥) → false ≡ pair
  unfolding crosses
  cross_apart f k l n = rw (sym h, sym k, lt-ltb e P l, ne_eqb e f n)

  after : (n : ℕ) → get_or ys (suc n) 0 ≡ get_or ys (n + 1) 0
  after n = ap (λ (t : ℕ). get_or ys t 0) (sym (add-one n))

  -- Both arcs stand in one partition: i's target with j's source, then the other two.
  module _ (f a b : ℕ) (k : f ≡ get_or qs j 0) (x : a ≡ get_or ys (j + 1) 0) (y : b ≡ get_or ys i 0) (l : e < P) (s : e ≡ f) where
    pub cross_first : (r : Bool) → r ≡ ok e a b → r ≡ false → false ≡ pair
    unfolding crosses
    cross_first r o t = rw (sym h, sym k, after j ∙ sym x, sym y, lt-ltb e P l, eq-eqb e f s, sym o ∙ t)

    pub cross_both : (r : Bool) → r ≡ ok e a b → r ≡ true → (c d : ℕ) → c ≡ get_or ys (i + 1) 0 → d ≡ get_or ys j 0 → (u : Bool) → u ≡ ok e c d → u ≡ pair
    unfolding crosses
    cross_both r o t c d v w u p =
        rw (sym h, sym k, after j ∙ sym x, sym y, after i ∙ sym v, sym w, lt-ltb e P l, eq-eqb e f s, sym o ∙ t) p

-- Whether an arc below m was found, where the number for none is no such arc.
pub found_below : (o : Option ℕ) (n m : ℕ) → m ≤ n → IfSome o (λ j. j < m) → is_some o ≡ ltb (unwrap_or o n) m
found_below None n m l h = sym (le-ltb n m l)
found_below (Some j) n m l h = sym (lt-ltb j m h)

-- ---- what a part costs

-- What the arc from entry a to entry b costs.
abbrev pub entry_cost : ℕ → (ℕ → ℕ → ℕ) → List ℕ → List ℕ → ℕ → ℕ → ℕ
entry_cost P g ys qs a b = cost P 1 g (get_or qs b 0) (get_or ys a 0) (get_or ys b 0)

-- What the n arcs after arc i cost.
abbrev pub costs_after : ℕ → (ℕ → ℕ → ℕ) → List ℕ → List ℕ → ℕ → ℕ → ℕ
costs_after P g ys qs i n = sum_to n (λ s. entry_cost P g ys qs (suc (s + suc i)) (s + suc i))

-- The same, as the code runs it on cells that it read.
pub cost-at : (P : ℕ) (g : ℕ → ℕ → ℕ) (ys qs : List ℕ) (a b x y z r : ℕ) → r ≡ cost P 1 g x y z → x ≡ get_or qs b 0 → y ≡ get_or ys a 0 → z ≡ get_or ys b 0
    → r ≡ entry_cost P g ys qs a b
cost-at P g ys qs a b x y z r o e f h = o ∙ (λ i. cost P 1 g (e i) (f i) (h i))

-- The first of the costs stands alone.
pub gains-begin : (P : ℕ) (g : ℕ → ℕ → ℕ) (ys qs : List ℕ) (i c r : ℕ) → r ≡ c → r ≡ c + costs_after P g ys qs i (i + 1 - (i + 1))
unfolding sum_to
gains-begin P g ys qs i c r e = let d : i + 1 - (i + 1) ≡ 0 = omega arith in rw d (e ∙ sym (add-zero c))

-- There is no part between.
pub gains-none : (P : ℕ) (g : ℕ → ℕ → ℕ) (w : Walk) (i j : ℕ) → j ≤ i → false ≡ inner_gains P g w i j
gains-none P g w i j l = sym (le-ltb (walk_costs P 1 g (inner w i j)) (j - i) (omega arith))

-- One arc more is added.
pub gains-more : (P : ℕ) (g : ℕ → ℕ → ℕ) (ys qs : List ℕ) (i t c sum v : ℕ) → i < t → sum ≡ c + costs_after P g ys qs i (t - (i + 1))
    → v ≡ entry_cost P g ys qs (t + 1) t → sum + v ≡ c + costs_after P g ys qs i (t + 1 - (i + 1))
unfolding sum_to
gains-more P g ys qs i t c sum v l e f =
    let n = t - (i + 1) in
    let a : n + suc i ≡ t = omega arith in
    let b : t + 1 - (i + 1) ≡ suc n = omega arith in
    omega (
      arith,
      ap (λ (k : ℕ). costs_after P g ys qs i k) b,
      ap (λ (k : ℕ). entry_cost P g ys qs (suc k) k) a,
      ap (λ (k : ℕ). entry_cost P g ys qs k t) (add-one t),
    )

-- With the arc that closes it, they are the inner part.
pub gains-all : (P : ℕ) (g : ℕ → ℕ → ℕ) (ys qs : List ℕ) (i j : ℕ) → i < j
    → entry_cost P g ys qs (i + 1) j + costs_after P g ys qs i (j - (i + 1)) ≡ walk_costs P 1 g (inner (walk_in (j + 1) ys qs) i j)
unfolding sum_to
gains-all P g ys qs i j l =
    let k = j - i in
    let n = j - (i + 1) in
    let e : k ≡ suc n = omega arith in
    omega (
      arith,
      ap (λ (m : ℕ). sum_to m (λ s. entry_cost P g ys qs (wrap i k (suc s)) (wrap i k s))) e,
      sum_cong n (λ s. entry_cost P g ys qs (suc (s + suc i)) (s + suc i)) (λ s. entry_cost P g ys qs (wrap i k (suc s)) (wrap i k s))
          (λ s h. sym (ap₂ (entry_cost P g ys qs) (next s (omega arith)) (wrap-low i k s (omega arith)))),
      ap₂ (entry_cost P g ys qs) (wrap_end i k (suc n) (omega arith) ∙ sym (add-one i)) last,
    )
  where
    next : (s : ℕ) → suc s < j - i → wrap i (j - i) (suc s) ≡ suc (s + suc i)
    next s h = wrap-low i (j - i) (suc s) h ∙ omega arith

    last : wrap i (j - i) (j - (i + 1)) ≡ j
    last = wrap-low i (j - i) (j - (i + 1)) (omega arith) ∙ omega arith
