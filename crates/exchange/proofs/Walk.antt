-- Freeing a walk of crossed pairs, step by step, as a program runs it; it reads the entries of a walk up to its length only, so that a program may
-- hold them in arrays.
-- Assumes nothing.
use Prim.Native.Nat.{ℕ, zero, suc, ◌-◌, ◌*◌, ◌≤◌, ◌<◌}
use mathlib.Core.Path.{◌≡◌, refl, ap, ap₂, ◌∙◌, subst}
use mathlib.Core.Bool.{Bool, true, false, cond}
use mathlib.Core.Logic.{⊎_elim}
use native.Mathlib.Omega.{arith}
use lib.Dec.{ltb}
use borrow.Author.Tests.{lt-ltb, le-ltb}
use Rattle.sums.proofs.First.{first_cong}
use Rattle.sums.specs.TermsSums.{sum_to}
use Rattle.sums.specs.ModelSums.{first_from}
use Rattle.sums.proofs.Sum.{lt_or_ge, sum_cong}
use Rattle.exchange.specs.ModelCircuit.{cost}
use Rattle.exchange.specs.ModelUncross.{Walk, Same, crosses, partner, first_crossed, skip, wrap, part, inner, outer, walk_costs, split, uncross}
use Rattle.exchange.proofs.Uncross.{skip_le, wrap-low, wrap_end, first-pair}

-- ---- the steps

module _ (P C : ℕ) (g : ℕ → ℕ → ℕ) (ok : ℕ → ℕ → ℕ → Bool) where
  -- Where the search finds no pair, the walk stays.
  pub uncross_stop : (n : ℕ) (w : Walk) → w.len ≤ first_crossed P ok w → uncross n P C g ok w ≡ w
  unfolding uncross
  uncross_stop zero w h = refl
  uncross_stop (suc n) w h =
      ap (λ (t : Bool). cond t (uncross n P C g ok (split P C g w (first_crossed P ok w) (partner P ok w (first_crossed P ok w)))) w) (le-ltb (first_crossed P ok w) w.len h)

  -- Where it finds one, it goes on with a part.
  pub uncross-go : (n : ℕ) (w : Walk) → first_crossed P ok w < w.len
      → uncross (suc n) P C g ok w ≡ uncross n P C g ok (split P C g w (first_crossed P ok w) (partner P ok w (first_crossed P ok w)))
  unfolding uncross
  uncross-go n w h =
      ap (λ (t : Bool). cond t (uncross n P C g ok (split P C g w (first_crossed P ok w) (partner P ok w (first_crossed P ok w)))) w) (lt-ltb (first_crossed P ok w) w.len h)

-- ---- walks that are the same

-- A walk is the same as itself; what is the same as the same is the same.
pub same_refl : (w : Walk) → Same w w
same_refl w = record { lens = refl; nodes = λ t l. refl; partitions = λ t l. refl }

pub same_trans : {w u v : Walk} → Same w u → Same u v → Same w v
same_trans {w} {u} {v} a b =
    record {
      lens = a.lens ∙ b.lens;
      nodes = λ t l. a.nodes t l ∙ b.nodes t (omega arith);
      partitions = λ t l. a.partitions t l ∙ b.partitions t (omega arith);
    }

-- A sum over the arcs.
sum_same : {w u : Walk} (f : ℕ → ℕ → ℕ → ℕ) → Same w u
    → sum_to w.len (λ i. f (w.partition i) (w.node (suc i)) (w.node i)) ≡ sum_to u.len (λ i. f (u.partition i) (u.node (suc i)) (u.node i))
sum_same {w} {u} f s =
    sum_cong w.len (λ i. f (w.partition i) (w.node (suc i)) (w.node i)) (λ i. f (u.partition i) (u.node (suc i)) (u.node i))
    (λ i l. cc (s.partitions i l, s.nodes (suc i) l, s.nodes i (omega arith)))
    ∙ ap (λ (m : ℕ). sum_to m (λ i. f (u.partition i) (u.node (suc i)) (u.node i))) s.lens

module _ (P C : ℕ) (g : ℕ → ℕ → ℕ) (ok : ℕ → ℕ → ℕ → Bool) where
  crosses_same : {w u : Walk} → Same w u → (i j : ℕ) → i < j → j < w.len
      → crosses P ok w.node w.partition i j ≡ crosses P ok u.node u.partition i j
  unfolding crosses
  crosses_same {w} {u} s i j l h =
      rw (
        s.partitions i (omega arith),
        s.partitions j h,
        s.nodes i (omega arith),
        s.nodes (suc i) (omega arith),
        s.nodes j (omega arith),
        s.nodes (suc j) h,
      )

  partner_same : {w u : Walk} → Same w u → (i : ℕ) → i < w.len → partner P ok w i ≡ partner P ok u i
  unfolding partner
  partner_same {w} {u} s i l =
      ap (λ (m : ℕ). first_from (crosses P ok w.node w.partition i) (m - suc i) (suc i)) s.lens
      ∙ first_cong (crosses P ok w.node w.partition i) (crosses P ok u.node u.partition i) (u.len - suc i) (suc i)
      (λ j a b. crosses_same s i j a (omega arith))

  first_same : {w u : Walk} → Same w u → first_crossed P ok w ≡ first_crossed P ok u
  unfolding first_crossed
  first_same {w} {u} s =
      first_cong (λ i. ltb (partner P ok w i) w.len) (λ i. ltb (partner P ok u i) u.len) w.len 0
      (λ i a b. ap₂ ltb (partner_same s i (omega arith)) s.lens)
      ∙ ap (λ (m : ℕ). first_from (λ i. ltb (partner P ok u i) u.len) m 0) s.lens

  -- Parts of walks that are the same.
  part_same : {w u : Walk} → Same w u → (n k : ℕ) (f : ℕ → ℕ) → n ≡ k → ((t : ℕ) → t ≤ n → f t ≤ w.len) → ((t : ℕ) → t < n → f t < w.len)
      → Same (part n f w) (part k f u)
  part_same s n k f e a b = record { lens = e; nodes = λ t l. s.nodes (f t) (a t l); partitions = λ t l. s.partitions (f t) (b t l) }

  -- One choice between the parts, and the same parts.
  pub split_same : {w u : Walk} → Same w u → (i j : ℕ) → i < j → j < w.len → Same (split P C g w i j) (split P C g u i j)
  unfolding split
  split_same {w} {u} s i j l h =
      subst (λ (b : Bool). Same (cond (test w) (inner w i j) (outer w i j)) (cond b (inner u i j) (outer u i j)))
      (ap (λ (n : ℕ). ltb n ((j - i) * C)) (sum_same (cost P C g) inside)) (go (test w))
    where
      test : Walk → Bool
      test v = ltb (walk_costs P C g (inner v i j)) ((j - i) * C)

      inside : Same (inner w i j) (inner u i j)
      inside =
          part_same s (j - i) (j - i) (wrap i (j - i)) refl
          (λ t a. ⊎_elim (λ b. omega (arith, wrap-low i (j - i) t b)) (λ b. omega (arith, wrap_end i (j - i) t b)) (lt_or_ge t (j - i)))
          (λ t a. omega (arith, wrap-low i (j - i) t a))

      outside : Same (outer w i j) (outer u i j)
      outside =
          part_same s (w.len - (j - i)) (u.len - (j - i)) (skip i (j - i)) (ap (λ (m : ℕ). m - (j - i)) s.lens)
          (λ t a. omega (arith, skip_le i (j - i) t)) (λ t a. omega (arith, skip_le i (j - i) t))

      go : (b : Bool) → Same (cond b (inner w i j) (outer w i j)) (cond b (inner u i j) (outer u i j))
      go true = inside
      go false = outside

  -- Walks that are the same are so when freed of crossed pairs.
  pub uncross_same : (n : ℕ) {w u : Walk} → Same w u → Same (uncross n P C g ok w) (uncross n P C g ok u)
  unfolding uncross
  uncross_same zero s = s
  uncross_same (suc n) {w} {u} s =
      ⊎_elim
      (λ a. let l : first_crossed P ok u < u.len = omega (arith, s.lens, first_same s) in
      let d = first-pair P ok w a in
      rw (uncross-go P C g ok n w a, uncross-go P C g ok n u l, ← first_same s, ← partner_same s (first_crossed P ok w) a)
      (uncross_same n (split_same s (first_crossed P ok w) (partner P ok w (first_crossed P ok w)) d.0 d.1)))
      (λ b. let l : u.len ≤ first_crossed P ok u = omega (arith, s.lens, first_same s) in
      rw (uncross_stop P C g ok (suc n) w b, uncross_stop P C g ok (suc n) u l) s)
      (lt_or_ge (first_crossed P ok w) w.len)
