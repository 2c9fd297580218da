-- One turn of each loop that writes the sets of the levels and the sets that nodes lead to, over plain numbers and lists.
-- Assumes nothing.
use Prim.Native.Nat.{ℕ, ◌+◌, ◌*◌, ◌≤◌, ◌<◌, min, max}
use mathlib.Core.Path.{◌≡◌, sym, ap, ◌∙◌, subst}
use mathlib.Core.List.{List}
use mathlib.Core.Logic.{⊎_elim}
use native.Mathlib.Omega.{arith}
use lib.Dec.{ltb}
use lib.ListN.{length, get_or, set, length-set, replicate, get_or-replicate}
use lib.Seq.{get_or-set_same, get_or-set_other}
use Rattle.cluster.specs.Terms.{most_nodes}
use Rattle.levels.specs.ModelGraph.{arc_cells}
use Rattle.sums.specs.TermsSums.{one_if}
use Rattle.sums.specs.ModelSums.{is}
use Rattle.sums.proofs.Sum.{lt_or_ge, eq_or_ne, is_eq, is_ne, is_le}
use Rattle.sets.specs.ModelBits.{bit, with_of, union_of, meet_of}
use Rattle.sets.proofs.Laws.{bit_zero, bit-with}
use Rattle.evens.specs.ModelEvens.{Levelled, lead_of}
use Rattle.evens.proofs.Turns.{one_lt, one_ge}

-- ---- the sets of the levels

-- Cell c has those of the first n nodes that stand at level c - 1.
abbrev pub Stood : List ℕ → ℕ → List ℕ → Type 0
Stood levels n at =
    (c v : ℕ) → c < most_nodes + 3 → v < most_nodes → bit (get_or at c 0) v ≡ min (one_if (ltb v n)) (is (get_or levels v 0 + 1) c)

-- At first all are empty.
pub stood_none : (levels : List ℕ) → Stood levels 0 (replicate (most_nodes + 3) 0)
stood_none levels c v l k =
    ap (λ (x : ℕ). bit x v) (get_or-replicate (most_nodes + 3) c 0 0 l)
    ∙ omega (arith, bit_zero v, one_ge v 0 (omega arith))

-- A node more.
pub stood_more : (levels : List ℕ) (n c x : ℕ) (at : List ℕ) → c ≡ get_or levels n 0 + 1 → c < most_nodes + 3 → length at ≡ most_nodes + 3
    → x ≡ with_of (get_or at c 0) n → Stood levels n at → Stood levels (n + 1) (set at c x)
stood_more levels n c x at ec lc long ex S e v l k =
    ⊎_elim
    (λ q. ap (λ (i : ℕ). bit (get_or (set at c x) i 0) v) (sym q)
    ∙ (ap (λ (y : ℕ). bit y v) (get_or-set_same at c x 0 (omega arith) ∙ ex)
    ∙ (bit-with (get_or at c 0) n v k ∙ (ap (λ (y : ℕ). max y (is n v)) (S c v lc k) ∙ (here ∙ ap (λ (i : ℕ). min (one_if (ltb v (n + 1))) (is (get_or levels v 0 + 1) i)) q)))))
    (λ q. ap (λ (y : ℕ). bit y v) (get_or-set_other at c e x 0 (λ r. q (sym r))) ∙ (S e v l k ∙ there q))
    (eq_or_ne c e)
  where
    mine : n ≡ v → get_or levels n 0 ≡ get_or levels v 0
    mine r = ap (λ (i : ℕ). get_or levels i 0) r

    here : max (min (one_if (ltb v n)) (is (get_or levels v 0 + 1) c)) (is n v) ≡ min (one_if (ltb v (n + 1))) (is (get_or levels v 0 + 1) c)
    here =
        ⊎_elim
        (λ r. omega (arith, one_ge v n (omega arith), one_lt v (n + 1) (omega arith), is_eq r, is_eq {a = get_or levels v 0 + 1} {b = c} (omega (arith, mine r))))
        (λ r. ⊎_elim
        (λ a. omega (arith, one_lt v n a, one_lt v (n + 1) (omega arith), is_ne r, is_le (get_or levels v 0 + 1) c))
        (λ a. let b : n + 1 ≤ v = omega arith in omega (arith, one_ge v n a, one_ge v (n + 1) b, is_ne r))
        (lt_or_ge v n))
        (eq_or_ne n v)

    there : (c ≡ e → ⊥) → min (one_if (ltb v n)) (is (get_or levels v 0 + 1) e) ≡ min (one_if (ltb v (n + 1))) (is (get_or levels v 0 + 1) e)
    there q =
        ⊎_elim
        (λ r. omega (arith, is_ne {a = get_or levels v 0 + 1} {b = e} (λ w. q (omega (arith, mine r)))))
        (λ r. ⊎_elim
        (λ a. omega (arith, one_lt v n a, one_lt v (n + 1) (omega arith)))
        (λ a. let b : n + 1 ≤ v = omega arith in omega (arith, one_ge v n a, one_ge v (n + 1) b))
        (lt_or_ge v n))
        (eq_or_ne n v)

-- ---- the sets of each node

-- The three cells of each of the first n nodes have the sets of the level below it, of its own and of the one above.
abbrev pub Sided : List ℕ → List ℕ → ℕ → List ℕ → Type 0
Sided levels at n even = (h a : ℕ) → h < 3 → a < n → get_or even (most_nodes * h + a) 0 ≡ get_or at (get_or levels a 0 + h) 0

-- Three cells written one after the other.
three : (l : List ℕ) (i j k x y z : ℕ) → i < j → j < k → k < length l → let m = set (set (set l i x) j y) k z in
    (get_or m i 0 ≡ x) × (get_or m j 0 ≡ y) × (get_or m k 0 ≡ z) × ((t : ℕ) → (t ≡ i → ⊥) → (t ≡ j → ⊥) → (t ≡ k → ⊥) → get_or m t 0 ≡ get_or l t 0)
three l i j k x y z p q r =
    let a = set l i x in
    let b = set a j y in
    let la = length-set l i x in
    let lb = length-set a j y in (
      get_or-set_other b k i z 0 (λ e. omega arith) ∙ (get_or-set_other a j i y 0 (λ e. omega arith) ∙ get_or-set_same l i x 0 (omega arith)),
      get_or-set_other b k j z 0 (λ e. omega arith) ∙ get_or-set_same a j y 0 (omega (arith, la)),
      get_or-set_same b k z 0 (omega (arith, la, lb)),
      λ t u v w. get_or-set_other b k t z 0 w ∙ (get_or-set_other a j t y 0 v ∙ get_or-set_other l i t x 0 u),
    )

-- What a list has that has the three sets of one node more.
sided_with : (levels at : List ℕ) (n : ℕ) (even m : List ℕ) → n < most_nodes → get_or m n 0 ≡ get_or at (get_or levels n 0) 0
    → get_or m (most_nodes + n) 0 ≡ get_or at (get_or levels n 0 + 1) 0 → get_or m (2 * most_nodes + n) 0 ≡ get_or at (get_or levels n 0 + 2) 0
    → ((t : ℕ) → (t ≡ n → ⊥) → (t ≡ most_nodes + n → ⊥) → (t ≡ 2 * most_nodes + n → ⊥) → get_or m t 0 ≡ get_or even t 0)
    → Sided levels at n even → Sided levels at (n + 1) m
sided_with levels at n even m l low own high others S h a k g =
    ⊎_elim
    (λ q. others (most_nodes * h + a) (λ e. omega arith) (λ e. omega arith) (λ e. omega arith) ∙ S h a k q)
    (λ q. let e : n ≡ a = omega arith in subst (λ (i : ℕ). get_or m (most_nodes * h + i) 0 ≡ get_or at (get_or levels i 0 + h) 0) e mine) (lt_or_ge a n)
  where
    side : (j w : ℕ) → h ≡ j → most_nodes * j + n ≡ w → get_or m w 0 ≡ get_or at (get_or levels n 0 + j) 0 → get_or m (most_nodes * h + n) 0 ≡ get_or at (get_or levels n 0 + h) 0
    side j w e f q = ap (λ (i : ℕ). get_or m i 0) (omega arith) ∙ (q ∙ ap (λ (i : ℕ). get_or at (get_or levels n 0 + i) 0) (sym e))

    mine : get_or m (most_nodes * h + n) 0 ≡ get_or at (get_or levels n 0 + h) 0
    mine =
        ⊎_elim (λ e. side 0 n e (omega arith) (low ∙ ap (λ (i : ℕ). get_or at i 0) (omega arith)))
        (λ e. ⊎_elim (λ f. side 1 (most_nodes + n) f (omega arith) own)
        (λ f. let g : h ≡ 2 = omega arith in side 2 (2 * most_nodes + n) g (omega arith) high) (eq_or_ne h 1)) (eq_or_ne h 0)

-- A node more.
pub sided_more : (levels at : List ℕ) (n : ℕ) (even : List ℕ) → n < most_nodes → length even ≡ arc_cells → Sided levels at n even
    → Sided levels at (n + 1)
    (set (set (set even n (get_or at (get_or levels n 0) 0)) (most_nodes + n) (get_or at (get_or levels n 0 + 1) 0)) (2 * most_nodes + n) (get_or at (get_or levels n 0 + 2) 0))
sided_more levels at n even l long S =
    let x = get_or at (get_or levels n 0) 0 in
    let y = get_or at (get_or levels n 0 + 1) 0 in
    let z = get_or at (get_or levels n 0 + 2) 0 in
    let T = three even n (most_nodes + n) (2 * most_nodes + n) x y z (omega arith) (omega arith) (omega arith) in
    sided_with levels at n even (set (set (set even n x) (most_nodes + n) y) (2 * most_nodes + n) z) l T.0 T.1 T.2 T.3 S

-- At last the cells of all nodes tell who stands beside them, and who one below and one above.
pub sided_levelled : (levels at : List ℕ) (n : ℕ) (even : List ℕ) → n ≤ most_nodes → ((v : ℕ) → v < n → get_or levels v 0 ≤ most_nodes)
    → Stood levels n at → length even ≡ arc_cells → Sided levels at n even → Levelled n (λ v. get_or levels v 0) even
sided_levelled levels at n even s low A long S =
    record {
      cells = long;
      sets = λ h a b k p q.
          ap (λ (x : ℕ). bit x b) (S h a k p)
          ∙ (A (get_or levels a 0 + h) b (omega (arith, low a p)) (omega arith)
          ∙ omega (arith, one_lt b n q, is_le (get_or levels b 0 + 1) (get_or levels a 0 + h)));
      beyond = λ h a b k p q r.
          ap (λ (x : ℕ). bit x b) (S h a k p) ∙ (A (get_or levels a 0 + h) b (omega (arith, low a p)) r ∙ omega (arith, one_ge b n q));
    }

-- ---- the nodes that each node leads to

-- The first n cells have what lead_of says, the others are empty.
abbrev pub Led : List ℕ → List ℕ → ℕ → List ℕ → Type 0
Led arcs even n leads =
    ((u : ℕ) → u < n → get_or leads u 0 ≡ lead_of arcs even u) × ((u : ℕ) → n ≤ u → u < most_nodes → get_or leads u 0 ≡ 0)

-- At first all are empty.
pub led_none : (arcs even : List ℕ) → Led arcs even 0 (replicate most_nodes 0)
led_none arcs even = (λ u l. absurd (omega arith), λ u l k. get_or-replicate most_nodes u 0 0 k)

-- A node more.
pub led_more : (arcs even : List ℕ) (n x : ℕ) (leads : List ℕ) → n < most_nodes → length leads ≡ most_nodes → x ≡ lead_of arcs even n → Led arcs even n leads
    → Led arcs even (n + 1) (set leads n x)
led_more arcs even n x leads l long ex D =
    let own : get_or (set leads n x) n 0 ≡ lead_of arcs even n = get_or-set_same leads n x 0 (omega arith) ∙ ex in (
      λ u k.
          ⊎_elim (λ q. get_or-set_other leads n u x 0 (λ e. omega arith) ∙ D.0 u q)
          (λ q. let e : n ≡ u = omega arith in subst (λ (i : ℕ). get_or (set leads n x) i 0 ≡ lead_of arcs even i) e own) (lt_or_ge u n),
      λ u k j. get_or-set_other leads n u x 0 (λ e. omega arith) ∙ D.1 u (omega arith) j,
    )

-- What the code computes of one node.
pub lead_is : (arcs even : List ℕ) (u x y z s r : ℕ) → x ≡ meet_of (get_or arcs u 0) (get_or even u 0)
    → y ≡ meet_of (get_or arcs (most_nodes + u) 0) (get_or even (most_nodes + u) 0) → z ≡ meet_of (get_or arcs (2 * most_nodes + u) 0) (get_or even (2 * most_nodes + u) 0)
    → s ≡ union_of y z → r ≡ union_of x s → r ≡ lead_of arcs even u
unfolding lead_of
lead_is arcs even u x y z s r ex ey ez es er = er ∙ ((λ i. union_of (ex i) (es i)) ∙ ap (union_of (meet_of (get_or arcs u 0) (get_or even u 0))) (λ i. union_of (ey i) (ez i)))
