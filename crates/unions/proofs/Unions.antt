-- What parts hold together: the laws of unions of cells, and one turn of the loops that make them, over plain numbers and lists.
-- Assumes nothing.
use Prim.Native.Nat.{ℕ, zero, suc, ◌+◌, ◌-◌, ◌*◌, ◌≤◌, ◌<◌, max}
use mathlib.Core.Path.{◌≡◌, refl, sym, ap, ap₂, ◌∙◌}
use mathlib.Core.List.{List}
use mathlib.Core.Logic.{⊎_elim}
use native.Mathlib.Numerals.{add-one}
use native.Mathlib.Omega.{arith}
use lib.ListN.{length, get_or, drop, length-drop}
use lib.Seq.{ext_get_or, get_or-drop}
use Rattle.cluster.specs.Terms.{most_nodes}
use Rattle.levels.specs.ModelGraph.{arc_cells}
use Rattle.sums.specs.ModelSums.{max_to}
use Rattle.sums.proofs.Sum.{lt_or_ge}
use Rattle.sums.proofs.Count.{max_le}
use Rattle.sets.specs.ModelBits.{mask_bits, bit, union_of}
use Rattle.sets.proofs.Laws.{bit_le, bit_zero, bit-mask_of, mask_cong, mask_unique}
use Rattle.cells.specs.ModelCells.{put}
use Rattle.cells.proofs.Cells.{length-put, put_next, get_or_put_in, get_or_put-first, get_or_put-out}
use Rattle.arcs.specs.ModelMoves.{joined}
use Rattle.unions.specs.ModelUnions.{parts, most_leaves, union_to, union_at, Merged, Gathered}

pub max_cong : (n : ℕ) (f g : ℕ → ℕ) → ((i : ℕ) → i < n → f i ≡ g i) → max_to n f ≡ max_to n g
unfolding max_to
max_cong zero f g h = refl
max_cong (suc n) f g h = ap₂ max (max_cong n f g (λ i l. h i (omega arith))) (h n (omega arith))

-- ---- unions

module _ (kept : List ℕ) (k : ℕ) where
  -- A bit of a union.
  pub bit-union-to : (n j x : ℕ) → x < mask_bits → bit (union_to kept k n j) x ≡ max_to n (λ b. bit (get_or kept ((k + b) * arc_cells + j) 0) x)
  unfolding union_to
  bit-union-to n j x l =
      bit-mask_of (λ x. max_to n (λ b. bit (get_or kept ((k + b) * arc_cells + j) 0) x)) mask_bits x l
      (max_le n 1 (λ b. bit (get_or kept ((k + b) * arc_cells + j) 0) x) (λ b h. bit_le (get_or kept ((k + b) * arc_cells + j) 0) x))

  -- Of no part.
  pub union-none : (j : ℕ) → 0 ≡ union_to kept k 0 j
  unfolding union_to max_to
  union-none j = mask_unique mask_bits 0 (λ x. max_to 0 (λ b. bit (get_or kept ((k + b) * arc_cells + j) 0) x)) (omega arith) (λ i l. bit_zero i)

  -- Of a part more.
  union_more : (n j c s r : ℕ) → s ≡ union_to kept k n j → c ≡ (k + n) * arc_cells + j → r ≡ union_of s (get_or kept c 0) → r ≡ union_to kept k (n + 1) j
  unfolding union_of union_to max_to
  union_more n j c s r e d h =
      h
      ∙ mask_cong (λ x. max (bit s x) (bit (get_or kept c 0) x)) (λ x. max_to (n + 1) (λ b. bit (get_or kept ((k + b) * arc_cells + j) 0) x)) mask_bits
      (λ x l.
      ap₂ max (ap (λ (t : ℕ). bit t x) e ∙ bit-union-to n j x l) (ap (λ (i : ℕ). bit (get_or kept i 0) x) d)
      ∙ ap (λ (m : ℕ). max_to m (λ b. bit (get_or kept ((k + b) * arc_cells + j) 0) x)) (sym (add-one n)))

  -- The same cells have the same union.
  pub union_same : (next : List ℕ) (n j : ℕ) → ((b : ℕ) → b < n → get_or next ((k + b) * arc_cells + j) 0 ≡ get_or kept ((k + b) * arc_cells + j) 0) → union_to next k n j ≡ union_to kept k n j
  unfolding union_to
  union_same next n j h =
      mask_cong (λ x. max_to n (λ b. bit (get_or next ((k + b) * arc_cells + j) 0) x)) (λ x. max_to n (λ b. bit (get_or kept ((k + b) * arc_cells + j) 0) x)) mask_bits
      (λ x l. max_cong n (λ b. bit (get_or next ((k + b) * arc_cells + j) 0) x) (λ b. bit (get_or kept ((k + b) * arc_cells + j) 0) x) (λ b q. ap (λ (y : ℕ). bit y x) (h b q)))

-- The cell that is written next is as it was.
put-read : (F : ℕ → ℕ) (t : ℕ) (l₀ l : List ℕ) → l ≡ put 0 F t l₀ → get_or l t 0 ≡ get_or l₀ t 0
put-read F t l₀ l e = ap (λ (x : List ℕ). get_or x t 0) e ∙ get_or_put-out 0 F t l₀ t 0 (λ j h w. omega arith)

-- A set more is joined.
pub put-joined : (f : ℕ → ℕ) (t : ℕ) (l₀ l m : List ℕ) → l ≡ put 0 (λ t. union_of (get_or l₀ t 0) (f t)) t l₀ → m ≡ joined l t (f t)
    → m ≡ put 0 (λ t. union_of (get_or l₀ t 0) (f t)) (t + 1) l₀
unfolding joined
put-joined f t l₀ l m e em =
    let F : ℕ → ℕ = λ t. union_of (get_or l₀ t 0) (f t) in
    em ∙ put_next F t (union_of (get_or l t 0) (f t)) l₀ l e (ap (λ (x : ℕ). union_of x (f t)) (put-read F t l₀ l e))

-- The sets of a part more.
pub unite-turn : (kept : List ℕ) (k n j : ℕ) (l m : List ℕ) → length l ≡ most_nodes → ((t : ℕ) → t < most_nodes → get_or l t 0 ≡ union_to kept k n (j + t))
    → m ≡ put 0 (λ t. union_of (get_or l t 0) (get_or kept ((k + n) * arc_cells + j + t) 0)) most_nodes l
    → (t : ℕ) → t < most_nodes → get_or m t 0 ≡ union_to kept k (n + 1) (j + t)
unite-turn kept k n j l m e E em t q =
    let F : ℕ → ℕ = λ t. union_of (get_or l t 0) (get_or kept ((k + n) * arc_cells + j + t) 0) in
    union_more kept k n (j + t) ((k + n) * arc_cells + j + t) (get_or l t 0) (get_or m t 0) (E t q) (omega arith)
    (ap (λ (x : List ℕ). get_or x t 0) em ∙ get_or_put-first F most_nodes l t 0 q (omega arith))

-- ---- a part that is written weight by weight

-- The first b cells from the cell `at` on have F, and the others are as they were.
pub record Stored (F : ℕ → ℕ) (at b : ℕ) (old new : List ℕ) : Type 0 where
  pub long : length new ≡ length old
  pub own : (j : ℕ) → j < b → get_or new (at + j) 0 ≡ F j
  pub out : (i : ℕ) → ((j : ℕ) → j < b → i ≡ at + j → ⊥) → get_or new i 0 ≡ get_or old i 0

pub stored-none : (F : ℕ → ℕ) (at : ℕ) (l : List ℕ) → Stored F at 0 l l
stored-none F at l = record { long = refl; own = λ j h. absurd (omega (arith, h)); out = λ i n. refl }

-- The cells of all nodes at one weight more.
pub stored_more : (F : ℕ → ℕ) (at b : ℕ) (l₀ l m c : List ℕ) → length c ≡ most_nodes → ((t : ℕ) → t < most_nodes → get_or c t 0 ≡ F (b + t)) → at + b + most_nodes ≤ length l₀
    → m ≡ put (at + b) (λ t. get_or c t 0) (length c) l → Stored F at b l₀ l → Stored F at (b + most_nodes) l₀ m
stored_more F at b l₀ l m c e E g em S =
    record {
      long = ap length em ∙ (length-put (at + b) (λ t. get_or c t 0) (length c) l ∙ S.long);
      own = λ j h.
          ⊎_elim
          (λ k. ap (λ (x : List ℕ). get_or x (at + j) 0) em ∙ (get_or_put-out (at + b) (λ t. get_or c t 0) (length c) l (at + j) 0 (λ t q w. omega (arith, k, w)) ∙ S.own j k))
          (λ k. let d : at + j ≡ at + b + (j - b) = omega arith in
          let r : b + (j - b) ≡ j = omega arith in
          ap₂ (λ (x : List ℕ) (i : ℕ). get_or x i 0) em d
          ∙ (get_or_put_in (at + b) (λ t. get_or c t 0) (length c) l (j - b) 0 (omega (arith, e)) (omega (arith, e, S.long)) ∙ (E (j - b) (omega arith) ∙ ap F r)))
          (lt_or_ge j b);
      out = λ i n.
          ap (λ (x : List ℕ). get_or x i 0) em
          ∙ (get_or_put-out (at + b) (λ t. get_or c t 0) (length c) l i 0 (λ t q w. n (b + t) (omega (arith, e, q)) (omega (arith, w))) ∙ S.out i (λ j h w. n j (omega arith) w));
    }

-- What the parts before the cell `at` hold together stays the same.
pub union-kept : (F : ℕ → ℕ) (at b k j : ℕ) (l₀ l : List ℕ) → (k + parts) * arc_cells ≤ at → j < arc_cells → Stored F at b l₀ l → union_at l k j ≡ union_at l₀ k j
union-kept F at b k j l₀ l g h S =
    union_same l₀ k l parts j (λ x q. S.out ((k + x) * arc_cells + j) (λ y p w. omega (arith, w, q)))

-- ---- what is written

-- The branch is written from its leaves.
pub merged : (i : ℕ) (l₀ l : List ℕ) → Stored (union_at l₀ (parts * i)) ((most_leaves + i) * arc_cells) arc_cells l₀ l → Merged (parts * i) (most_leaves + i) l₀ l
merged i l₀ l S = record { long = S.long; own = S.own; others = λ c n. S.out c (λ j h w. n (omega (arith, w))) }

-- The graph is written from the branches.
pub gathered : (kept l₀ l : List ℕ) → Stored (union_at kept most_leaves) 0 arc_cells l₀ l → Gathered kept l₀ l
gathered kept l₀ l S =
    record {
      long = S.long;
      own = λ j h. let e : j ≡ 0 + j = omega arith in ap (λ (i : ℕ). get_or l i 0) e ∙ S.own j h;
      rest = ext_get_or 0 (drop arc_cells l) (drop arc_cells l₀) (length-drop arc_cells l ∙ (ap (λ (n : ℕ). n - arc_cells) S.long ∙ sym (length-drop arc_cells l₀)))
          (λ j h. get_or-drop arc_cells l j 0 ∙ (S.out (arc_cells + j) (λ t q w. omega (arith, w)) ∙ sym (get_or-drop arc_cells l₀ j 0)));
    }
