-- The laws of sets that grow, and one turn of each loop, over plain numbers and lists.
-- Assumes nothing.
use Prim.Native.Nat.{ℕ, zero, suc, ◌+◌, ◌-◌, ◌*◌, ◌/◌, ◌%◌, ◌≤◌, ◌<◌, min, max}
use mathlib.Core.Path.{◌≡◌, refl, sym, ap, ap₂, ◌∙◌}
use mathlib.Core.List.{List}
use mathlib.Core.Logic.{⊎_elim}
use native.Mathlib.Omega.{arith}
use lib.ListN.{length, get_or, set, length-set}
use lib.Seq.{get_or-set_same, get_or-set_other, drop-set-lt}
use Rattle.sets.proofs.Scan.{done_more, Left}
use Rattle.cluster.specs.Terms.{most_nodes}
use Rattle.levels.specs.ModelGraph.{arc_cells}
use Rattle.sums.specs.ModelSums.{is}
use Rattle.sums.proofs.Sum.{is_eq, is_ne, is_le, is_cases}
use Rattle.sets.specs.ModelBits.{bit, without_of, union_of, meet_of, difference_of, least_of}
use Rattle.sets.proofs.Laws.{bit_le, bit-union, bit-meet, bit-difference}
use Rattle.arcs.specs.ModelMoves.{weighs, joined, noted}
use Rattle.arcs.specs.ModelGrowth.{Grown}

-- ---- sets that grow

-- Nothing added.
pub grown_same : (f : ℕ → ℕ → ℕ) (l : List ℕ) → ((j b : ℕ) → j < arc_cells → b < most_nodes → f j b ≡ 0) → Grown f l l
grown_same f l h = record { long = refl; bits = λ j b p q. omega (arith, h j b p q); rest = refl }

-- First f, then g is added: together what has the members of both.
pub grown_then : (f g h : ℕ → ℕ → ℕ) (l m n : List ℕ) → Grown f l m → Grown g m n
    → ((j b : ℕ) → j < arc_cells → b < most_nodes → max (f j b) (g j b) ≡ h j b) → Grown h l n
grown_then f g h l m n F G e =
    record {
      long = G.long ∙ F.long;
      bits = λ j b p q. omega (arith, G.bits j b p q, F.bits j b p q, e j b p q);
      rest = G.rest ∙ F.rest;
    }

-- One set of a list joined by another.
pub grown_joined : (l : List ℕ) (k s : ℕ) → k < arc_cells → arc_cells ≤ length l → Grown (λ j b. min (is k j) (bit s b)) l (joined l k s)
unfolding joined
grown_joined l k s h g =
    record {
      long = length-set l k (union_of (get_or l k 0) s);
      bits = λ j b p q.
          ⊎_elim
          (λ w. omega (
            arith,
            w.1,
            bit_le s b,
            bit-union (get_or l k 0) s b q,
            ap (λ (i : ℕ). bit (get_or l i 0) b) w.0,
            ap (λ (i : ℕ). bit (get_or (set l k (union_of (get_or l k 0) s)) i 0) b) w.0,
            ap (λ (x : ℕ). bit x b) (get_or-set_same l k (union_of (get_or l k 0) s) 0 (omega arith)),
          ))
          (λ w. omega (arith, w.1, ap (λ (x : ℕ). bit x b) (get_or-set_other l k j (union_of (get_or l k 0) s) 0 (λ e. w.0 (sym e)))))
          (is_cases k j);
      rest = drop-set-lt arc_cells l k (union_of (get_or l k 0) s) h;
    }

-- ---- weights

-- At the lower of its two weights a leads to nodes of the former row, at the higher to the others, and at no other weight.
weighs-low : (F a b : ℕ) → weighs F (bit F a) a b ≡ bit F b
unfolding weighs
weighs-low F a b =
    ⊎_elim (λ w. omega (arith, w.0, w.1)) (λ w. let n : (bit F b ≡ 1 → ⊥) = λ e. w.0 (omega arith) in omega (arith, w.1, bit_le F b))
    (is_cases (bit F b + bit F a) (1 + bit F a))

weighs-high : (F a b : ℕ) → weighs F (1 + bit F a) a b ≡ 1 - bit F b
unfolding weighs
weighs-high F a b =
    ⊎_elim (λ w. omega (arith, w.0, w.1)) (λ w. let n : (bit F b ≡ 0 → ⊥) = λ e. w.0 (omega arith) in omega (arith, w.1, bit_le F b))
    (is_cases (bit F b + (1 + bit F a)) (1 + bit F a))

weighs-none : (F h a b : ℕ) → (h ≡ bit F a → ⊥) → (h ≡ 1 + bit F a → ⊥) → weighs F h a b ≡ 0
unfolding weighs
weighs-none F h a b m n = is_ne (λ e. go (bit F b) (bit_le F b) e)
  where
    go : (x : ℕ) → x ≤ 1 → x + h ≡ 1 + bit F a → ⊥
    go zero l e = n (omega arith)
    go (suc x) l e = m (omega arith)

-- The cell of a at weight k - 1, among the cells of a.
pub slot : (a k j : ℕ) → a < most_nodes → is (a + k * most_nodes) j ≡ min (is a (j % most_nodes)) (is k (j / most_nodes))
slot a k j l =
    ⊎_elim
    (λ w. omega (arith, w.1, is_eq {a = a} {b = j % most_nodes} (omega (arith, w.0)), is_eq {a = k} {b = j / most_nodes} (omega (arith, w.0))))
    (λ w. ⊎_elim
    (λ u. ⊎_elim (λ v. absurd (w.0 (omega (arith, u.0, v.0)))) (λ v. omega (arith, w.1, v.1)) (is_cases k (j / most_nodes)))
    (λ u. omega (arith, w.1, u.1)) (is_cases a (j % most_nodes)))
    (is_cases (a + k * most_nodes) j)

-- The sets at the two weights of a, as one condition on the weight.
pub by-weight : (a F T h A s u b : ℕ) → b < most_nodes → A ≤ 1 → s ≡ min A (is (bit F a) h) → u ≡ min A (is (1 + bit F a) h)
    → max (min s (bit (meet_of T F) b)) (min u (bit (difference_of T F) b)) ≡ min A (min (bit T b) (weighs F h a b))
by-weight a F T h A s u b l o p q =
    ⊎_elim
    (λ w. let n = is_ne {a = 1 + bit F a} {b = h} (λ e. omega (arith, w.0)) in
    ap₂ max (ap₂ min (omega (arith, w.1)) (bit-meet T F b l)) (ap₂ min (omega (arith, n)) refl)
    ∙ (low A (bit T b) (bit F b) (bit (difference_of T F) b)
    ∙ ap (λ (x : ℕ). min A (min (bit T b) x)) (sym (weighs-low F a b) ∙ ap (λ (k : ℕ). weighs F k a b) w.0)))
    (λ w. ⊎_elim
    (λ v. ap₂ max (ap₂ min (omega (arith, w.1)) refl) (ap₂ min (omega (arith, v.1)) (bit-difference T F b l ∙ others (bit T b) (bit F b) (bit_le T b) (bit_le F b)))
    ∙ (high A (min (bit T b) (1 - bit F b)) (bit (meet_of T F) b)
    ∙ ap (λ (x : ℕ). min A (min (bit T b) x)) (sym (weighs-high F a b) ∙ ap (λ (k : ℕ). weighs F k a b) v.0)))
    (λ v. ap₂ max (ap₂ min (omega (arith, w.1)) refl) (ap₂ min (omega (arith, v.1)) refl)
    ∙ (none A (bit T b) (bit (meet_of T F) b) (bit (difference_of T F) b)
    ∙ ap (λ (x : ℕ). min A (min (bit T b) x)) (sym (weighs-none F h a b (λ e. w.0 (sym e)) (λ e. v.0 (sym e))))))
    (is_cases (1 + bit F a) h))
    (is_cases (bit F a) h)
  where
    low : (A t f d : ℕ) → max (min A (min t f)) (min 0 d) ≡ min A (min t f)
    low A t f d = omega arith

    others : (t f : ℕ) → t ≤ 1 → f ≤ 1 → t - f ≡ min t (1 - f)
    others t f h g = omega arith

    high : (A x m : ℕ) → max (min 0 m) (min A x) ≡ min A x
    high A x m = omega arith

    none : (A t m d : ℕ) → max (min 0 m) (min 0 d) ≡ min A (min t 0)
    none A t m d = omega arith

-- The targets of one node in one row, in its sets.
pub grown_noted : (l : List ℕ) (a F T : ℕ) → a < most_nodes → arc_cells ≤ length l
    → Grown (λ j b. min (is a (j % most_nodes)) (min (bit T b) (weighs F (j / most_nodes) a b))) l (noted l a F T)
unfolding noted
grown_noted l a F T h g =
    let i = a + bit F a * most_nodes in
    let first = joined l i (meet_of T F) in
    let G = grown_joined l i (meet_of T F) (omega (arith, bit_le F a)) g in
    grown_then (λ j b. min (is i j) (bit (meet_of T F) b)) (λ j b. min (is (i + most_nodes) j) (bit (difference_of T F) b))
    (λ j b. min (is a (j % most_nodes)) (min (bit T b) (weighs F (j / most_nodes) a b))) l first (joined first (i + most_nodes) (difference_of T F)) G
    (grown_joined first (i + most_nodes) (difference_of T F) (omega (arith, bit_le F a)) (omega (arith, G.long)))
    (λ j b p q. by-weight a F T (j / most_nodes) (is a (j % most_nodes)) (is i j) (is (i + most_nodes) j) b q (is_le a (j % most_nodes)) (slot a (bit F a) j h)
    (ap (λ (x : ℕ). is x j) (omega arith) ∙ slot a (1 + bit F a) j h))

-- ---- the members of a set, one after the other

-- A condition y of the members that are done grows by the next one, where x is the condition of that one.
pub done_grows : (s left : ℕ) → Left s left → (left ≡ 0 → ⊥) → (c i x y : ℕ) → c < most_nodes → i ≡ is (least_of left) c → (least_of left ≡ c → x ≡ y)
    → max (min (bit s c - bit left c) y) (min i x) ≡ min (bit s c - bit (without_of left (least_of left)) c) y
done_grows s left L some c i x y l e h =
    ⊎_elim (λ w. both (bit s c - bit left c) i x y (bit s c - bit (without_of left (least_of left)) c) (omega (arith, w.1)) (omega (arith, w.1, done_more s left L some c l)) (omega (arith, bit_le s c)) (h w.0))
    (λ w. others (bit s c - bit left c) i x y (bit s c - bit (without_of left (least_of left)) c) (omega (arith, w.1)) (omega (arith, w.1, done_more s left L some c l)))
    (is_cases (least_of left) c)
  where
    both : (d i x y d' : ℕ) → i ≡ 1 → d + 1 ≡ d' → d' ≤ 1 → x ≡ y → max (min d y) (min i x) ≡ min d' y
    both d i x y d' e q o p = omega arith

    others : (d i x y d' : ℕ) → i ≡ 0 → d ≡ d' → max (min d y) (min i x) ≡ min d' y
    others d i x y d' e q = omega arith

-- ---- what the code computes, step by step

-- The nodes `to` in a's sets: h is a's digit of the former row, x and y are the nodes of `to` in the former row and outside.
pub noted-is : (l : List ℕ) (a former to h x y : ℕ) (m n : List ℕ) → h ≡ bit former a → x ≡ meet_of to former → y ≡ difference_of to former
    → m ≡ joined l (a + h * most_nodes) x → n ≡ joined m (a + h * most_nodes + most_nodes) y → n ≡ noted l a former to
unfolding noted
noted-is l a former to h x y m n eh ex ey em en =
    en ∙ ((λ i. joined (em i) (a + h * most_nodes + most_nodes) (ey i)) ∙ (λ i. joined (joined l (a + eh i * most_nodes) (ex i)) (a + eh i * most_nodes + most_nodes) (difference_of to former)))
