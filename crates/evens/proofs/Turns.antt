-- One turn of each loop over the nodes of a row, over plain numbers and lists.
-- Assumes nothing.
use Prim.Native.Nat.{ℕ, ◌+◌, ◌-◌, ◌*◌, ◌^◌, ◌≤◌, ◌<◌, min, max}
use mathlib.Core.Path.{◌≡◌, refl, sym, ap, ap₂, ◌∙◌}
use mathlib.Core.List.{List}
use mathlib.Core.Logic.{◌⊎◌, ⊎_elim}
use native.Mathlib.Omega.{arith}
use lib.Dec.{ltb}
use lib.ListN.{length, get_or, set, length-set}
use lib.Seq.{get_or-set_same, get_or-set_other}
use borrow.Author.Tests.{lt-ltb, le-ltb}
use Rattle.cluster.specs.Terms.{most_nodes}
use Rattle.sums.specs.TermsSums.{one_if}
use Rattle.sums.specs.ModelSums.{is}
use Rattle.sums.proofs.Sum.{lt_or_ge, is_cases, is_le}
use Rattle.sets.specs.ModelBits.{mask_bits, bit, with_of, union_of, meet_of, difference_of, below_of}
use Rattle.sets.specs.ModelMembers.{Comes}
use Rattle.sets.proofs.Laws.{bit_le, bit_zero, bit-union, bit-meet, bit-difference, bit_below, bit-below_not, bit-with, with_lt, mask_unique}
use Rattle.sets.proofs.Scan.{Left, done_all}
use Rattle.swaps.specs.ModelSwaps.{targets_of}
use Rattle.arcs.specs.ModelMoves.{joined}
use Rattle.arcs.proofs.Growing.{done_grows}
use Rattle.waves.specs.ModelWaves.{spread_of}
use Rattle.cells.proofs.Cells.{get_or_tab}
use Rattle.evens.specs.ModelEvens.{even_of, even_to, earlier_of, wanted_of, givers_of, Widened}

-- ---- tests of order as numbers

pub one_lt : (a b : ℕ) → a < b → one_if (ltb a b) ≡ 1
unfolding one_if
one_lt a b l = ap one_if (lt-ltb a b l)

pub one_ge : (a b : ℕ) → b ≤ a → one_if (ltb a b) ≡ 0
unfolding one_if
one_ge a b l = ap one_if (le-ltb a b l)

-- ---- what the code computes, step by step

-- The nodes that a could be exchanged for evenly: h is a's digit of the former row.
pub even_is : (even : List ℕ) (former a h x y r : ℕ) → h ≡ bit former a → x ≡ meet_of former (get_or even (a + h * most_nodes) 0)
    → y ≡ difference_of (get_or even (a + h * most_nodes + most_nodes) 0) former → r ≡ union_of x y → r ≡ even_of even former a
unfolding even_of
even_is even former a h x y r eh ex ey er =
    er ∙ ((λ i. union_of (ex i) (ey i))
    ∙ (λ i. union_of (meet_of former (get_or even (a + eh i * most_nodes) 0)) (difference_of (get_or even (a + eh i * most_nodes + most_nodes) 0) former)))

-- Those to which it may give way.
pub even-to-is : (mates : List ℕ) (all z : ℕ) (even : List ℕ) (row former a t e r : ℕ) → t ≡ targets_of mates all z row a → e ≡ even_of even former a
    → r ≡ meet_of t e → r ≡ even_to mates all z even row former a
unfolding even_to
even-to-is mates all z even row former a t e r et ee er = er ∙ (λ i. meet_of (et i) (ee i))

-- ---- the nodes of the row lead to more

-- One set of a list joined by another.
pub bit-joined : (l : List ℕ) (k s u v : ℕ) → k < length l → v < most_nodes
    → bit (get_or (joined l k s) u 0) v ≡ max (bit (get_or l u 0) v) (min (is k u) (bit s v))
unfolding joined
bit-joined l k s u v h g =
    ⊎_elim
    (λ w. omega (
      arith,
      w.1,
      bit_le s v,
      bit-union (get_or l k 0) s v g,
      ap (λ (i : ℕ). bit (get_or l i 0) v) w.0,
      ap (λ (i : ℕ). bit (get_or (set l k (union_of (get_or l k 0) s)) i 0) v) w.0,
      ap (λ (x : ℕ). bit x v) (get_or-set_same l k (union_of (get_or l k 0) s) 0 h),
    ))
    (λ w. omega (arith, w.1, ap (λ (x : ℕ). bit x v) (get_or-set_other l k u (union_of (get_or l k 0) s) 0 (λ e. w.0 (sym e)))))
    (is_cases k u)

-- The nodes of the row that are no more left lead to those to which they may give way, too.
pub record Widening (mates : List ℕ) (all z : ℕ) (even : List ℕ) (row former left : ℕ) (old new : List ℕ) : Type 0 where
  pub long : length new ≡ length old
  pub bits : (u v : ℕ) → u < most_nodes → v < most_nodes
      → bit (get_or new u 0) v ≡ max (bit (get_or old u 0) v) (min (bit row u - bit left u) (bit (even_to mates all z even row former u) v))

module _ (mates : List ℕ) (all z : ℕ) (even : List ℕ) (row former : ℕ) (l₀ : List ℕ) where
  -- At first all is as it was.
  pub widen_none : Widening mates all z even row former row l₀ l₀
  widen_none = record { long = refl; bits = λ u v p q. omega arith }

  -- A turn.
  pub widen-turn : (left a next to : ℕ) (l m : List ℕ) → Left row left → Comes left a next → most_nodes ≤ length l₀
      → to ≡ even_to mates all z even row former a → m ≡ joined l a to
      → Widening mates all z even row former left l₀ l → Widening mates all z even row former next l₀ m
  unfolding joined
  widen-turn left a next to l m L C g et em W =
      record {
        long = ap length em ∙ (length-set l a (union_of (get_or l a 0) to) ∙ W.long);
        bits = λ u v p q.
            let E = bit (even_to mates all z even row former u) v in
            let grows =
            done_grows row left L C.some u (is a u) (bit to v) E p (ap (λ (i : ℕ). is i u) C.least)
            (λ e. ap (λ (x : ℕ). bit x v) (et ∙ ap (even_to mates all z even row former) (C.least ∙ e))) in
            ap (λ (x : List ℕ). bit (get_or x u 0) v) em
            ∙ (bit-joined l a to u v (omega (arith, W.long, C.below)) q
            ∙ (ap (λ (x : ℕ). max x (min (is a u) (bit to v))) (W.bits u v p q)
            ∙ (again (bit (get_or l₀ u 0) v) (min (bit row u - bit left u) E) (min (is a u) (bit to v))
            ∙ ap (max (bit (get_or l₀ u 0) v)) (grows ∙ ap (λ (x : ℕ). min (bit row u - bit x u) E) (sym C.rest)))));
      }
    where
      again : (x y z : ℕ) → max (max x y) z ≡ max x (max y z)
      again x y z = omega arith

  -- At last all nodes of the row do.
  pub widen-all : (left : ℕ) (l : List ℕ) → left ≡ 0 → Widening mates all z even row former left l₀ l → Widened mates all z even row former l₀ l
  widen-all left l e W =
      record {
        long = W.long;
        bits = λ u v p q.
            W.bits u v p q
            ∙ ap (λ (d : ℕ). max (bit (get_or l₀ u 0) v) (min d (bit (even_to mates all z even row former u) v))) (done_all row left u e);
      }

-- ---- the nodes that may give way

-- Those of the set s that are no more left and may give way to b have been found.
pub record Found (mates : List ℕ) (all z row b s left found : ℕ) : Type 0 where
  pub word : found < 2 ^ mask_bits
  pub bits : (v : ℕ) → v < most_nodes → bit found v ≡ min (bit s v - bit left v) (bit (targets_of mates all z row v) b)

module _ (mates : List ℕ) (all z row b s : ℕ) where
  -- At first none is.
  pub found_none : Found mates all z row b s s 0
  found_none = record { word = omega arith; bits = λ v p. omega (arith, bit_zero v) }

  -- A turn at a node that may give way, or may not.
  pub found_turn : (left a next to found new : ℕ) → Left s left → Comes left a next
      → to ≡ targets_of mates all z row a → ((bit to b ≡ 1) × (new ≡ with_of found a)) ⊎ ((bit to b ≡ 0) × (new ≡ found))
      → Found mates all z row b s left found → Found mates all z row b s next new
  found_turn left a next to found new L C et o F =
      record {
        word = ⊎_elim (λ q. omega (arith, q.1, with_lt found a)) (λ q. omega (arith, q.1, F.word)) o;
        bits = λ v p.
            let T = bit (targets_of mates all z row v) b in
            step v p
            ∙ (ap (λ (x : ℕ). max x (min (is a v) (bit to b))) (F.bits v p)
            ∙ (done_grows s left L C.some v (is a v) (bit to b) T p (ap (λ (i : ℕ). is i v) C.least)
            (λ e. ap (λ (x : ℕ). bit x b) (et ∙ ap (targets_of mates all z row) (C.least ∙ e)))
            ∙ ap (λ (x : ℕ). min (bit s v - bit x v) T) (sym C.rest)));
      }
    where
      step : (v : ℕ) → v < most_nodes → bit new v ≡ max (bit found v) (min (is a v) (bit to b))
      step v p =
          ⊎_elim (λ q. omega (arith, q.0, ap (λ (x : ℕ). bit x v) q.1, bit-with found a v p, is_le a v))
          (λ q. omega (arith, q.0, ap (λ (x : ℕ). bit x v) q.1)) o

-- At last all are found.
pub found_all : (mates : List ℕ) (all z : ℕ) (even : List ℕ) (row former b e n later s left found : ℕ) → n ≡ below_of (b + 1) → later ≡ difference_of row n
    → e ≡ even_of even former b → s ≡ meet_of later e → left ≡ 0 → Found mates all z row b s left found → found ≡ givers_of mates all z even row former b
unfolding givers_of
found_all mates all z even row former b e n later s left found ee el er es eleft F =
    mask_unique mask_bits found (λ a. min (min (bit row a) (one_if (ltb b a))) (min (bit (even_of even former b) a) (bit (targets_of mates all z row a) b))) F.word
    (λ v p.
    let T = bit (targets_of mates all z row v) b in
    let member : bit s v ≡ min (bit row v - bit (below_of (b + 1)) v) (bit (even_of even former b) v) =
    ap (λ (x : ℕ). bit x v) es ∙ (bit-meet later e v p ∙ ap₂ min (ap (λ (x : ℕ). bit x v) el ∙ (bit-difference row n v p ∙ ap (λ (x : ℕ). bit row v - bit x v) ee)) (ap (λ (x : ℕ). bit x v) er)) in
    F.bits v p
    ∙ (ap (λ (d : ℕ). min d T) (done_all s left v eleft ∙ member)
    ∙ ⊎_elim
    (λ l. after (bit row v) (bit (below_of (b + 1)) v) (one_if (ltb b v)) (bit (even_of even former b) v) T (bit_le row v) (bit-below_not (b + 1) v (omega arith)) (one_lt b v l))
    (λ l. before (bit row v) (bit (below_of (b + 1)) v) (one_if (ltb b v)) (bit (even_of even former b) v) T (bit_le row v) (bit_below (b + 1) v p (omega arith)) (one_ge b v l))
    (lt_or_ge b v)))
  where
    inner : (r e t : ℕ) → min (min r e) t ≡ min r (min e t)
    inner r e t = omega arith

    all_of : (r o x : ℕ) → r ≤ 1 → o ≡ 1 → min r x ≡ min 1 (min (min r o) x)
    all_of r o x h q = omega arith

    none_of : (r o x : ℕ) → o ≡ 0 → min 0 x ≡ min 1 (min (min r o) x)
    none_of r o x q = omega arith

    after : (r n o e t : ℕ) → r ≤ 1 → n ≡ 0 → o ≡ 1 → min (min (r - n) e) t ≡ min 1 (min (min r o) (min e t))
    after r n o e t h p q = ap (λ (x : ℕ). min (min x e) t) (omega arith) ∙ (inner r e t ∙ all_of r o (min e t) h q)

    before : (r n o e t : ℕ) → r ≤ 1 → n ≡ 1 → o ≡ 0 → min (min (r - n) e) t ≡ min 1 (min (min r o) (min e t))
    before r n o e t h p q = ap (λ (x : ℕ). min (min x e) t) (omega arith) ∙ (inner 0 e t ∙ none_of r o (min e t) q)

-- ---- the nodes that are wanted

-- What the code computes of a node is its cell.
pub earlier-is : (even : List ℕ) (former a e n x : ℕ) → a < most_nodes → e ≡ even_of even former a → n ≡ below_of a → x ≡ meet_of e n
    → x ≡ get_or (earlier_of even former) a 0
unfolding earlier_of
earlier-is even former a e n x l ee en ex =
    ex ∙ (ap₂ meet_of ee en ∙ sym (get_or_tab (λ i. meet_of (even_of even former i) (below_of i)) most_nodes a 0 l))

-- What all members want is what is wanted.
pub wanted-is : (even : List ℕ) (row former x : ℕ) → x ≡ spread_of (earlier_of even former) row → x ≡ wanted_of even row former
unfolding wanted_of
wanted-is even row former x e = e
