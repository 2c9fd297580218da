-- The turns of the loops that deal: a node joins the rows that its copies go to.
-- Assumes nothing.
use Prim.Native.Nat.{ℕ, zero, suc, ◌+◌, ◌-◌, ◌%◌, ◌≤◌, ◌<◌, min}
use mathlib.Core.Path.{◌≡◌, refl, sym, ap, ap₂, ◌∙◌}
use mathlib.Core.List.{List, ◌++◌}
use mathlib.Core.Logic.{⊎_elim}
use native.Mathlib.Nat.{zero-add, add-mod_right, mod-eq_of_lt}
use native.Mathlib.Omega.{arith}
use native.Mathlib.Numerals.{add-one}
use lib.ListN.{length, get_or, set, take, drop, replicate}
use Rattle.std.proofs.lemmas.List.Edits.{fill_none, fill_more}
use lib.Seq.{ext_get_or, length-take-le}
use borrow.Author.Tests.{lt-ltb, le-ltb}
use Rattle.sums.specs.TermsSums.{one_if}
use Rattle.sums.proofs.Sum.{lt_or_ge}
use Rattle.sets.specs.ModelBits.{mask_bits, mask_of, with_of, union_of}
use Rattle.sets.proofs.Laws.{bit_zero, bit_ext, with_lt, bit-with, union_lt, bit-union}
use Rattle.cells.specs.ModelCells.{put}
use Rattle.cells.proofs.Cells.{length-put, put-none, put_next, put-more, put-over, get_or_put_in, get_or_put-out}
use Rattle.cluster.specs.Terms.{most_nodes}
use Rattle.dealing.specs.ModelDeal.{among}
use Rattle.sets.proofs.Masks.{mask_here, mask_not_here}

-- ---- places in the line

-- How far p is after s, where it stands before s and where it does not.
after-round : (P s p : ℕ) → p < s → s < P → p + P - s ≡ (p + P - s % P) % P
after-round P s p l h = let e : s % P ≡ s = mod-eq_of_lt h in sym (ap (λ (x : ℕ). (p + P - x) % P) e ∙ mod-eq_of_lt (omega arith))

after_on : (P s p : ℕ) → s ≤ p → p < P → p - s ≡ (p + P - s % P) % P
after_on P s p l h =
    let e : s % P ≡ s = mod-eq_of_lt (omega arith) in
    let d : p + P - s ≡ (p - s) + P = omega arith in
    sym (ap (λ (x : ℕ). (p + P - x) % P) e ∙ (ap (λ (x : ℕ). x % P) d ∙ (add-mod_right (p - s) P ∙ mod-eq_of_lt (omega arith))))

-- A copy goes to p where p is fewer places after the first than there are copies.
among-some : (P s k p d : ℕ) → d ≡ (p + P - s % P) % P → d < k → among P s k p ≡ 1
unfolding among one_if
among-some P s k p d e l = ap one_if (lt-ltb ((p + P - s % P) % P) k (omega arith))

among_none : (P s k p d : ℕ) → d ≡ (p + P - s % P) % P → k ≤ d → among P s k p ≡ 0
unfolding among one_if
among_none P s k p d e l = ap one_if (le-ltb ((p + P - s % P) % P) k (omega arith))

-- ---- all rows

-- All of the first n cells, written again.
put_again : (f g : ℕ → ℕ) (n : ℕ) (l : List ℕ) → n ≤ length l → put 0 f n (put 0 g n l) ≡ put 0 f n l
put_again f g n l h = put-over 0 0 f g n n l (omega arith) (omega arith) (λ i a b. absurd (omega arith))

-- The first n cells, filled with zeros.
zeros : (n : ℕ) (l : List ℕ) → n ≤ length l → replicate n 0 ++ drop n l ≡ put 0 (λ p. 0) n l
unfolding put
zeros zero l h = sym (fill_none l 0)
zeros (suc n) l h =
    ap (λ (k : ℕ). replicate k 0 ++ drop k l) (sym (add-one n))
    ∙ (sym (fill_more n 0 l (omega arith)) ∙ (put_next (λ p. 0) n 0 l (replicate n 0 ++ drop n l) (zeros n l (omega arith)) refl ∙ ap (λ (k : ℕ). put 0 (λ p. 0) k l) (add-one n)))

-- What is there once they are.
pub emptied : (n : ℕ) (l front : List ℕ) → n ≤ length l → front ≡ replicate (length (take n l)) 0 → front ++ drop n l ≡ put 0 (λ p. 0) n l
emptied n l front h e =
    ap (λ (r : List ℕ). r ++ drop n l) (e ∙ ap (λ (k : ℕ). replicate k 0) (length-take-le n l h)) ∙ zeros n l h

module _ (P : ℕ) (starts copies : ℕ → ℕ) (l₀ l : List ℕ) (long : P ≤ length l₀) (empty : l ≡ put 0 (λ p. 0) P l₀) where
  -- In empty rows the copies of no node are dealt.
  pub dealt-none : l ≡ put 0 (λ p. mask_of (λ c. among P (starts c) (copies c) p) 0) P l
  unfolding mask_of
  dealt-none = empty ∙ (sym (put_again (λ p. 0) (λ p. 0) P l₀ long) ∙ ap (put 0 (λ p. 0) P) (sym empty))

  -- Of what the rows held before they were emptied nothing is left.
  pub dealt-all : (b n : ℕ) (r : List ℕ) → b ≡ n → r ≡ put 0 (λ p. mask_of (λ c. among P (starts c) (copies c) p) b) P l
      → r ≡ put 0 (λ p. mask_of (λ c. among P (starts c) (copies c) p) n) P l₀
  dealt-all b n r e d =
      d ∙ (ap₂ (λ (m : ℕ) (x : List ℕ). put 0 (λ p. mask_of (λ c. among P (starts c) (copies c) p) m) P x) e empty
      ∙ put_again (λ p. mask_of (λ c. among P (starts c) (copies c) p) n) (λ p. 0) P l₀ long)

-- ---- one range of rows

-- The union with a set of one.
union-one : (s i : ℕ) → union_of s (with_of 0 i) ≡ with_of s i
union-one s i =
    bit_ext mask_bits (union_of s (with_of 0 i)) (with_of s i) (union_lt s (with_of 0 i)) (with_lt s i)
    (λ j l. omega (arith, bit-union s (with_of 0 i) j l, bit-with 0 i j l, bit-with s i j l, bit_zero j))

-- The rows l, where node b joins those from `from` to `to`.
abbrev pub joined : List ℕ → (b from to : ℕ) → List ℕ
joined l b from to = put from (λ j. with_of (get_or l (from + j) 0) b) (to - from) l

-- No row yet,
pub join-none : (l : List ℕ) (b from : ℕ) → l ≡ joined l b from from
join-none l b from =
    let e : 0 ≡ from - from = omega arith in
    put-none from (λ j. with_of (get_or l (from + j) 0) b) l ∙ ap (λ (m : ℕ). put from (λ j. with_of (get_or l (from + j) 0) b) m l) e

-- one row more.
pub join-next : (l₀ l : List ℕ) (b from p own v : ℕ) → from ≤ p → l ≡ joined l₀ b from p → own ≡ with_of 0 b → v ≡ union_of (get_or l p 0) own
    → set l p v ≡ joined l₀ b from (p + 1)
join-next l₀ l b from p own v h e o w =
    ap₂ (λ (r : List ℕ) (x : ℕ). set r p x) e (w ∙ (ap₂ union_of here o ∙ union-one (get_or l₀ p 0) b))
    ∙ (ap (λ (i : ℕ). set (joined l₀ b from p) i (with_of (get_or l₀ i 0) b)) (sym at)
    ∙ (put-more from f (p - from) l₀ ∙ ap (λ (m : ℕ). put from f m l₀) more))
  where
    f : ℕ → ℕ
    f j = with_of (get_or l₀ (from + j) 0) b

    at : from + (p - from) ≡ p
    at = omega arith

    more : p - from + 1 ≡ p + 1 - from
    more = omega arith

    here : get_or l p 0 ≡ get_or l₀ p 0
    here = ap (λ (r : List ℕ). get_or r p 0) e ∙ get_or_put-out from f (p - from) l₀ p 0 (λ j k q. omega arith)

module _ (l : List ℕ) (b from to q : ℕ) where
  -- A row of the range has the node,
  joined_in : from ≤ q → q < to → to ≤ length l → get_or (joined l b from to) q 0 ≡ with_of (get_or l q 0) b
  joined_in a h k =
      let at : from + (q - from) ≡ q = omega arith in
      ap (λ (i : ℕ). get_or (joined l b from to) i 0) (sym at)
      ∙ (get_or_put_in from (λ j. with_of (get_or l (from + j) 0) b) (to - from) l (q - from) 0 (omega arith) (omega arith)
      ∙ ap (λ (i : ℕ). with_of (get_or l i 0) b) at)

  -- any other is as it was.
  joined-out : (from ≤ q → q < to → ⊥) → get_or (joined l b from to) q 0 ≡ get_or l q 0
  joined-out h = get_or_put-out from (λ j. with_of (get_or l (from + j) 0) b) (to - from) l q 0 (λ j k e. h (omega arith) (omega arith))

-- ---- all copies of a node

-- Which nodes have a copy that goes to partition p.
abbrev dealt-to : (P : ℕ) (starts copies : ℕ → ℕ) → ℕ → ℕ → ℕ
dealt-to P starts copies p c = among P (starts c) (copies c) p

module _ (P b : ℕ) (starts copies : ℕ → ℕ) (l₀ l : List ℕ) (low : b < most_nodes) (start : starts b < P) (long : P ≤ length l₀)
    (inv : l ≡ put 0 (λ p. mask_of (λ c. among P (starts c) (copies c) p) b) P l₀) where
  -- Row q has those among the first b nodes.
  before : (q : ℕ) → q < P → get_or l q 0 ≡ mask_of (dealt-to P starts copies q) b
  before q h =
      ap₂ (λ (r : List ℕ) (i : ℕ). get_or r i 0) inv (sym (zero-add q)) ∙ get_or_put_in 0 (λ p. mask_of (dealt-to P starts copies p) b) P l₀ q 0 h (omega arith)

  -- A node's copies go to the rows from its start on and, past the last, to the first ones.
  pub node-dealt : (k to₁ to₂ : ℕ) (l₁ l₂ : List ℕ) → k ≡ min P (copies b) → to₁ ≡ min (starts b + k) P → to₂ ≡ starts b + k - P
      → l₁ ≡ joined l b (starts b) to₁ → l₂ ≡ joined l₁ b 0 to₂
      → l₂ ≡ put 0 (λ p. mask_of (λ c. among P (starts c) (copies c) p) (b + 1)) P l₀
  node-dealt k to₁ to₂ l₁ l₂ e f₁ f₂ e₁ e₂ =
      ext_get_or 0 l₂ (put 0 g P l₀) (omega (arith, size, length-put 0 g P l₀))
      (λ q h. ⊎_elim (λ i. inside q i ∙ sym (ap (λ (k : ℕ). get_or (put 0 g P l₀) k 0) (sym (zero-add q)) ∙ get_or_put_in 0 g P l₀ q 0 i (omega arith)))
      (λ o. out q (λ a u. omega arith) (λ u. omega arith)
      ∙ (ap (λ (r : List ℕ). get_or r q 0) inv
      ∙ (get_or_put-out 0 (λ p. mask_of (dealt-to P starts copies p) b) P l₀ q 0 (λ j k d. omega arith) ∙ sym (get_or_put-out 0 g P l₀ q 0 (λ j k d. omega arith)))))
      (lt_or_ge q P))
    where
      g : ℕ → ℕ
      g p = mask_of (dealt-to P starts copies p) (b + 1)

      size₀ : length l ≡ length l₀
      size₀ = ap length inv ∙ length-put 0 (λ p. mask_of (dealt-to P starts copies p) b) P l₀

      size₁ : length l₁ ≡ length l₀
      size₁ = ap length e₁ ∙ (length-put (starts b) (λ j. with_of (get_or l (starts b + j) 0) b) (to₁ - starts b) l ∙ size₀)

      size : length l₂ ≡ length l₀
      size = ap length e₂ ∙ (length-put 0 (λ j. with_of (get_or l₁ (0 + j) 0) b) (to₂ - 0) l₁ ∙ size₁)

      -- Row q after the first range.
      cell₁ : (q : ℕ) → (starts b ≤ q → q < to₁ → ⊥) → get_or l₁ q 0 ≡ get_or l q 0
      cell₁ q n = ap (λ (r : List ℕ). get_or r q 0) e₁ ∙ joined-out l b (starts b) to₁ q n

      -- A row in neither range is as it was.
      out : (q : ℕ) → (starts b ≤ q → q < to₁ → ⊥) → (q < to₂ → ⊥) → get_or l₂ q 0 ≡ get_or l q 0
      out q n₁ n₂ = ap (λ (r : List ℕ). get_or r q 0) e₂ ∙ (joined-out l₁ b 0 to₂ q (λ a. n₂) ∙ cell₁ q n₁)

      -- A row that the node is in, and one that it is not in.
      takes : (q : ℕ) → q < P → dealt-to P starts copies q b ≡ 1 → get_or l₂ q 0 ≡ with_of (get_or l q 0) b → get_or l₂ q 0 ≡ g q
      takes q h s v = v ∙ mask_here (dealt-to P starts copies q) b (get_or l q 0) (before q h) low (omega arith)

      stays : (q : ℕ) → q < P → dealt-to P starts copies q b ≡ 0 → get_or l₂ q 0 ≡ get_or l q 0 → get_or l₂ q 0 ≡ g q
      stays q h s v = v ∙ mask_not_here (dealt-to P starts copies q) b (get_or l q 0) (before q h) s

      -- A row from the start on.
      on : (q : ℕ) → q < P → starts b ≤ q → get_or l₂ q 0 ≡ g q
      on q h a =
          let d : q - starts b ≡ (q + P - starts b % P) % P = after_on P (starts b) q a h in
          ⊎_elim
          (λ i. takes q h (among-some P (starts b) (copies b) q (q - starts b) d i)
          (ap (λ (r : List ℕ). get_or r q 0) e₂
          ∙ (joined-out l₁ b 0 to₂ q (λ z u. omega arith)
          ∙ (ap (λ (r : List ℕ). get_or r q 0) e₁ ∙ joined_in l b (starts b) to₁ q a (omega arith) (omega (arith, size₀))))))
          (λ o. stays q h (among_none P (starts b) (copies b) q (q - starts b) d o) (out q (λ z u. omega arith) (λ u. omega arith)))
          (lt_or_ge (q - starts b) (copies b))

      -- A row before the start.
      round : (q : ℕ) → q < P → q < starts b → get_or l₂ q 0 ≡ g q
      round q h a =
          let d : q + P - starts b ≡ (q + P - starts b % P) % P = after-round P (starts b) q a start in
          ⊎_elim
          (λ i. takes q h (among-some P (starts b) (copies b) q (q + P - starts b) d i)
          (ap (λ (r : List ℕ). get_or r q 0) e₂
          ∙ (joined_in l₁ b 0 to₂ q (omega arith) (omega arith) (omega (arith, size₁)) ∙ ap (λ (x : ℕ). with_of x b) (cell₁ q (λ z u. omega arith)))))
          (λ o. stays q h (among_none P (starts b) (copies b) q (q + P - starts b) d o) (out q (λ z u. omega arith) (λ u. omega arith)))
          (lt_or_ge (q + P - starts b) (copies b))

      inside : (q : ℕ) → q < P → get_or l₂ q 0 ≡ g q
      inside q h = ⊎_elim (round q h) (on q h) (lt_or_ge q (starts b))
