-- The steps of the loops, over plain lists and numbers: cells that are shifted, parts of a walk, and a walk freed of crossed pairs.
-- Assumes nothing.
use Prim.Native.Nat.{ℕ, zero, suc, ◌+◌, ◌-◌, ◌*◌, ◌≤◌, ◌<◌, max}
use mathlib.Core.Path.{◌≡◌, refl, sym, ap, ◌∙◌, subst}
use mathlib.Core.Bool.{Bool, true, false, cond}
use mathlib.Core.List.{List}
use mathlib.Core.Logic.{⊎_elim}
use native.Mathlib.Nat.{mul-one}
use native.Mathlib.Omega.{arith}
use lib.Dec.{ltb}
use lib.ListN.{length, get_or, set}
use lib.Seq.{get_or-set_same, get_or-set_other, ext_get_or}
use Rattle.std.specs.Prelude.{Option, None, Some, unwrap_or, IsSome}
use Rattle.std.specs.List.{CopiedTo, SameBelow, SameFrom}
use Rattle.sums.proofs.Sum.{lt_or_ge}
use Rattle.sets.specs.ModelBits.{bits_at}
use Rattle.cells.specs.ModelCells.{put}
use Rattle.cells.proofs.Cells.{length-put, get_or_put_in, get_or_put-out}
use Rattle.exchange.specs.ModelUncross.{Walk, Same, partner, first_crossed, inner, outer, walk_costs, split, uncross}
use Rattle.exchange.proofs.Uncross.{skip-low, skip-high, wrap-low, wrap_end, first-pair}
use Rattle.exchange.proofs.Walk.{uncross_stop, uncross-go, uncross_same, same_trans}
use Rattle.walks.specs.ModelWalks.{ok_of, walk_in, inner_gains}
use Rattle.freeing.specs.ModelFreed.{freed_of}

-- ---- cells

-- The n cells of l from b on, by those that stand k further on.
abbrev pub shifted : List ℕ → ℕ → ℕ → ℕ → List ℕ
shifted l b k n = put b (λ s. get_or l (b + s + k) 0) n l

shifted_in : (l : List ℕ) (b k n i : ℕ) → b ≤ i → i < b + n → b + n ≤ length l → get_or (shifted l b k n) i 0 ≡ get_or l (i + k) 0
shifted_in l b k n i a c d =
    let e : b + (i - b) ≡ i = omega arith in
    ap (λ (j : ℕ). get_or (shifted l b k n) j 0) (sym e)
    ∙ (get_or_put_in b (λ s. get_or l (b + s + k) 0) n l (i - b) 0 (omega arith) d ∙ ap (λ (j : ℕ). get_or l (j + k) 0) e)

shifted_low : (l : List ℕ) (b k n i : ℕ) → i < b → get_or (shifted l b k n) i 0 ≡ get_or l i 0
shifted_low l b k n i a = get_or_put-out b (λ s. get_or l (b + s + k) 0) n l i 0 (λ j m e. omega arith)

-- A list in which they were copied is that.
pub shift-copied : (l r : List ℕ) (b k n m : ℕ) → m ≡ n → b + k + n ≤ length l → length r ≡ length l
    → CopiedTo l r (b + k) b m → SameBelow l r b → SameFrom l r (b + m) → r ≡ shifted l b k n
shift-copied l r b k n m e h s copied below from =
    ext_get_or 0 r (shifted l b k n) (s ∙ sym (length-put b (λ t. get_or l (b + t + k) 0) n l))
    (λ i g. ⊎_elim (λ a. below i 0 a ∙ sym (shifted_low l b k n i a))
    (λ a. ⊎_elim
    (λ c. let d : b + k + (i - b) ≡ i + k = omega arith in
    copied i 0 a (omega arith) ∙ (ap (λ (j : ℕ). get_or l j 0) d ∙ sym (shifted_in l b k n i a c (omega arith))))
    (λ c. from i 0 (omega arith) ∙ sym (get_or_put-out b (λ t. get_or l (b + t + k) 0) n l i 0 (λ j f q. omega arith)))
    (lt_or_ge i (b + n)))
    (lt_or_ge i b))

-- ---- the parts of a walk in cells

module _ (P m i j : ℕ) (g : ℕ → ℕ → ℕ) (ys qs : List ℕ) (l : i < j) (h : j < m) (a : m < length ys) (b : m ≤ length qs) where
  -- The inner part: what stands after i comes to the beginning, and the first node of it is closed with.
  pub inner_in : (zs rs : List ℕ) → zs ≡ shifted ys 0 (i + 1) (j - i) → rs ≡ shifted qs 0 (i + 1) (j - i)
      → Same (inner (walk_in m ys qs) i j) (walk_in (j - i) (set zs (j - i) (get_or zs 0 0)) rs)
  inner_in zs rs z r =
      let k = j - i in
      record {
        lens = refl;
        nodes = λ t c. ⊎_elim
            (λ d. ap (λ (s : ℕ). get_or ys s 0) (wrap-low i k t d ∙ omega arith)
            ∙ (sym (shifted_in ys 0 (i + 1) k t (omega arith) (omega arith) (omega arith))
            ∙ (ap (λ (s : List ℕ). get_or s t 0) (sym z) ∙ sym (get_or-set_other zs k t (get_or zs 0 0) 0 (λ e. omega arith)))))
            (λ d. let e : t ≡ k = omega arith in
            ap (λ (s : ℕ). get_or ys s 0) (wrap_end i k t d ∙ omega arith)
            ∙ (sym (shifted_in ys 0 (i + 1) k 0 (omega arith) (omega arith) (omega arith))
            ∙ (ap (λ (s : List ℕ). get_or s 0 0) (sym z)
            ∙ (sym (get_or-set_same zs k (get_or zs 0 0) 0 (omega (arith, ap length z, length-put 0 (λ s. get_or ys (0 + s + (i + 1)) 0) k ys)))
            ∙ ap (λ (s : ℕ). get_or (set zs k (get_or zs 0 0)) s 0) (sym e)))))
            (lt_or_ge t k);
        partitions = λ t c.
            ap (λ (s : ℕ). get_or qs s 0) (wrap-low i k t c ∙ omega arith)
            ∙ (sym (shifted_in qs 0 (i + 1) k t (omega arith) (omega arith) (omega arith)) ∙ ap (λ (s : List ℕ). get_or s t 0) (sym r));
      }

  -- The outer part: what stands after j comes to stand after i.
  pub outer_in : (zs rs : List ℕ) → zs ≡ shifted ys (i + 1) (j - i) (m - j) → rs ≡ shifted qs (i + 1) (j - i) (m - j - 1)
      → Same (outer (walk_in m ys qs) i j) (walk_in (m - (j - i)) zs rs)
  outer_in zs rs z r =
      let k = j - i in
      rw (z, r) record {
        lens = refl;
        nodes = λ t c. ⊎_elim
            (λ d. ap (λ (s : ℕ). get_or ys s 0) (skip-high i k t d)
            ∙ sym (shifted_in ys (i + 1) k (m - j) t (omega arith) (omega arith) (omega arith)))
            (λ d. ap (λ (s : ℕ). get_or ys s 0) (skip-low i k t d) ∙ sym (shifted_low ys (i + 1) k (m - j) t (omega arith)))
            (lt_or_ge i t);
        partitions = λ t c. ⊎_elim
            (λ d. ap (λ (s : ℕ). get_or qs s 0) (skip-high i k t d)
            ∙ sym (shifted_in qs (i + 1) k (m - j - 1) t (omega arith) (omega arith) (omega arith)))
            (λ d. ap (λ (s : ℕ). get_or qs s 0) (skip-low i k t d) ∙ sym (shifted_low qs (i + 1) k (m - j - 1) t (omega arith)))
            (lt_or_ge i t);
      }

  -- The part to go on with.
  pub split-inner : {w : Walk} → inner_gains P g (walk_in (j + 1) ys qs) i j ≡ true → Same (inner (walk_in m ys qs) i j) w
      → Same (split P 1 g (walk_in m ys qs) i j) w
  unfolding split
  split-inner e s = rw (mul-one (j - i), e) s

  pub split-outer : {w : Walk} → inner_gains P g (walk_in (j + 1) ys qs) i j ≡ false → Same (outer (walk_in m ys qs) i j) w
      → Same (split P 1 g (walk_in m ys qs) i j) w
  unfolding split
  split-outer e s = rw (mul-one (j - i), e) s

-- ---- freeing a walk

module _ (P : ℕ) (g : ℕ → ℕ → ℕ) (ok : ℕ → ℕ → ℕ → Bool) (v : Walk) where
  -- No pair is crossed.
  pub free_stop : (n : ℕ) (w : Walk) → Same v (uncross n P 1 g ok w) → w.len ≤ first_crossed P ok w → Same v w
  free_stop n w s l = subst (λ (u : Walk). Same v u) (uncross_stop P 1 g ok n w l) s

  -- The first crossed pair.
  pub pair_in : (w : Walk) (i j : ℕ) → i ≡ first_crossed P ok w → j ≡ partner P ok w i → i < w.len → (i < j) × (j < w.len)
  pair_in w i j e f l =
      let p = first-pair P ok w (omega arith) in
      let d : partner P ok w i ≡ partner P ok w (first_crossed P ok w) = ap (partner P ok w) e in
      omega arith

  -- So the second of them is found.
  pub pair_some : (w : Walk) (i : ℕ) (o : Option ℕ) → i ≡ first_crossed P ok w → unwrap_or o (max (i + 1) w.len) ≡ partner P ok w i → i < w.len → IsSome o
  pair_some w i None e f l = absurd (omega (arith, pair_in w i (max (i + 1) w.len) e f l))
  pair_some w i (Some j) e f l = refl

  -- A pair is crossed.
  pub free-go : (n k : ℕ) (w u : Walk) (i j : ℕ) → n ≡ suc k → Same v (uncross n P 1 g ok w) → i ≡ first_crossed P ok w → j ≡ partner P ok w i → i < w.len
      → Same (split P 1 g w i j) u → Same v (uncross k P 1 g ok u)
  free-go n k w u i j p s e f l t =
      same_trans
      (subst (λ (x : Walk). Same v x) (ap (λ (r : ℕ). uncross r P 1 g ok w) p ∙ uncross-go P 1 g ok k w (omega arith)) s)
      (uncross_same P 1 g ok k
      (subst (λ (r : ℕ). Same (split P 1 g w r (partner P ok w r)) u) e (subst (λ (r : ℕ). Same (split P 1 g w i r) u) f t)))

  -- There is no split left.
  pub free_end : (n : ℕ) (w : Walk) → n ≤ 0 → Same v (uncross n P 1 g ok w) → Same v w
  unfolding uncross
  free_end n w l s = let e : n ≡ 0 = omega arith in subst (λ (k : ℕ). Same v (uncross k P 1 g ok w)) e s

-- Of a walk with arcs some are left.
pub uncross-some : (P : ℕ) (g : ℕ → ℕ → ℕ) (ok : ℕ → ℕ → ℕ → Bool) (n : ℕ) (w : Walk) → 0 < w.len → 0 < (uncross n P 1 g ok w).len
unfolding uncross
uncross-some P g ok zero w l = l
uncross-some P g ok (suc n) w l =
    ⊎_elim
    (λ a. let d = first-pair P ok w a in
    subst (λ (u : Walk). 0 < u.len) (sym (uncross-go P 1 g ok n w a))
    (uncross-some P g ok n (split P 1 g w (first_crossed P ok w) (partner P ok w (first_crossed P ok w))) (part-some (first_crossed P ok w) (partner P ok w (first_crossed P ok w)) d.0 d.1)))
    (λ b. subst (λ (u : Walk). 0 < u.len) (sym (uncross_stop P 1 g ok (suc n) w b)) l)
    (lt_or_ge (first_crossed P ok w) w.len)
  where
    part-some : (i j : ℕ) → i < j → j < w.len → 0 < (split P 1 g w i j).len
    part-some i j a b = unfold split in go (ltb (walk_costs P 1 g (inner w i j)) ((j - i) * 1))
      where
        go : (t : Bool) → 0 < (cond t (inner w i j) (outer w i j)).len
        go true = omega arith
        go false = omega arith

-- ---- the freed walk

module _ (rows former : List ℕ) (P : ℕ) (mates : List ℕ) (all z : ℕ) where
  -- Walks that are the same are so when freed.
  pub freed_same : {w u : Walk} → Same w u → Same (freed_of rows former P mates all z w) (freed_of rows former P mates all z u)
  freed_same {w} {u} s =
      subst (λ (k : ℕ). Same (freed_of rows former P mates all z w) (uncross k P 1 (bits_at former) (ok_of rows mates all z) u)) s.lens
      (uncross_same P 1 (bits_at former) (ok_of rows mates all z) w.len s)

  -- A walk without arcs stays.
  pub freed_none : (w : Walk) → w.len ≡ 0 → freed_of rows former P mates all z w ≡ w
  unfolding uncross
  freed_none w e = ap (λ (k : ℕ). uncross k P 1 (bits_at former) (ok_of rows mates all z) w) e
