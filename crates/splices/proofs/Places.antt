-- The place of an id among nodes by rising id: how many nodes are below it and how many have it, and what a scan over the nodes counts.
-- Assumes nothing.
use Prim.Native.Nat.{ℕ, ◌+◌, ◌≤◌, ◌<◌}
use mathlib.Core.Path.{◌≡◌, refl, sym, ap, ap₂, ◌∙◌}
use mathlib.Core.Bool.{true}
use mathlib.Core.List.{List, [], ◌∷◌, ◌++◌}
use mathlib.Core.Logic.{⊎_elim}
use native.Mathlib.Numerals.{add-one}
use native.Mathlib.Omega.{arith}
use lib.Dec.{ltb}
use lib.ListN.{length, take, drop, get_or, length-append}
use lib.Seq.{take-suc, take-append_seam, drop-append-add, drop-append_seam}
use borrow.Author.Tests.{lt-ltb}
use Rattle.sums.proofs.Sum.{eq_or_ne}
use Rattle.cluster.specs.Terms.{no_node, ids_of, mem, rising_from, rising}
use Rattle.cluster.specs.declared.Node.{Node}
use Rattle.cluster.proofs.Lists.{mem_head, mem-skip, rising_tail}
use Rattle.splices.specs.TermsReplaced.{nodes_below, nodes_with, nodes_above, replaced}
use Rattle.splices.specs.ModelSplice.{spliced}
use Rattle.splices.proofs.Replaced.{below_cons, below-skip, with_cons, with-skip, with_none, below-append, each_weaker, each_rising, replaced-own}

-- ---- how many nodes have an id

-- An id is among the ids where a node has it.
pub with_mem : (i : ℕ) (l : List Node) → mem i (ids_of l) ≡ ltb 0 (length (nodes_with i l))
unfolding mem ids_of nodes_with
with_mem i [] = refl
with_mem i (n ∷ ns) =
    ⊎_elim
    (λ e. mem_head i n.id (ids_of ns) e ∙ sym (lt-ltb 0 (length (nodes_with i (n ∷ ns))) (omega (arith, ap length (with_cons i n ns (sym e))))))
    (λ h. mem-skip i n.id (ids_of ns) h ∙ (with_mem i ns ∙ ap (λ (r : List Node). ltb 0 (length r)) (sym (with-skip i n ns (λ e. h (sym e))))))
    (eq_or_ne i n.id)

-- Of nodes that rise, one at most.
with-one-from : (i k : ℕ) (l : List Node) → rising_from k (ids_of l) ≡ true → length (nodes_with i l) ≤ 1
unfolding ids_of nodes_with
with-one-from i k [] e = omega arith
with-one-from i k (n ∷ ns) e =
    let later : rising_from n.id (ids_of ns) ≡ true = rising_tail k n.id (ids_of ns) e in
    ⊎_elim
    (λ q. omega (
      arith,
      ap length (with_cons i n ns q),
      ap length (with_none i ns (each_weaker _ _ ns (λ x g. omega arith) (each_rising n.id ns later))),
    ))
    (λ h. omega (arith, ap length (with-skip i n ns h), with-one-from i n.id ns later))
    (eq_or_ne n.id i)

pub with-one : (i : ℕ) (l : List Node) → rising (ids_of l) ≡ true → length (nodes_with i l) ≤ 1
with-one i l e = with-one-from i 0 l e

-- ---- the parts by place

-- Each node is in one of the three parts.
pub length-parts : (i : ℕ) (l : List Node) → rising (ids_of l) ≡ true
    → length (nodes_below i l) + (length (nodes_with i l) + length (nodes_above i l)) ≡ length l
length-parts i l e =
    omega (
      arith,
      length-append (nodes_below i l) (nodes_with i l ++ nodes_above i l),
      length-append (nodes_with i l) (nodes_above i l),
      ap length (replaced-own i 0 l e),
    )

-- Nodes replaced by place are nodes replaced by id.
pub spliced-replaced : (i : ℕ) (new l : List Node) → rising (ids_of l) ≡ true
    → spliced l (length (nodes_below i l)) (length (nodes_with i l)) new ≡ replaced i new l
unfolding spliced replaced
spliced-replaced i new l e =
    ap₂ (λ (x y : List Node). x ++ (new ++ y))
    (ap (λ (r : List Node). take (length b) r) (sym own) ∙ take-append_seam b (w ++ a))
    (ap (λ (r : List Node). drop (length b + length w) r) (sym own) ∙ (drop-append-add b (w ++ a) (length w) ∙ drop-append_seam w a))
  where
    b : List Node
    b = nodes_below i l

    w : List Node
    w = nodes_with i l

    a : List Node
    a = nodes_above i l

    own : b ++ (w ++ a) ≡ l
    own = replaced-own i 0 l e

-- ---- a scan that counts

pub with_append : (i : ℕ) (l r : List Node) → nodes_with i (l ++ r) ≡ nodes_with i l ++ nodes_with i r
unfolding nodes_with
with_append i [] r = refl
with_append i (n ∷ ns) r =
    ⊎_elim
    (λ h. with_cons i n (ns ++ r) h
    ∙ (ap (λ (t : List Node). n ∷ t) (with_append i ns r) ∙ ap (λ (t : List Node). t ++ nodes_with i r) (sym (with_cons i n ns h))))
    (λ h. with-skip i n (ns ++ r) h ∙ (with_append i ns r ∙ ap (λ (t : List Node). t ++ nodes_with i r) (sym (with-skip i n ns h))))
    (eq_or_ne n.id i)

-- One node more among the first.
first_more : (l : List Node) (k : ℕ) → k < length l → take (k + 1) l ≡ take k l ++ (get_or l k no_node ∷ [])
first_more l k h = ap (λ (j : ℕ). take j l) (add-one k) ∙ take-suc l k no_node h

module _ (i : ℕ) (l : List Node) (k : ℕ) (inside : k < length l) where
  -- What the next node adds to the nodes below, and to those that have the id.
  below_more : length (nodes_below i (take (k + 1) l)) ≡ length (nodes_below i (take k l)) + length (nodes_below i (get_or l k no_node ∷ []))
  below_more =
      ap (λ (r : List Node). length (nodes_below i r)) (first_more l k inside)
      ∙ (ap length (below-append i (take k l) (get_or l k no_node ∷ [])) ∙ length-append (nodes_below i (take k l)) (nodes_below i (get_or l k no_node ∷ [])))

  with-more : length (nodes_with i (take (k + 1) l)) ≡ length (nodes_with i (take k l)) + length (nodes_with i (get_or l k no_node ∷ []))
  with-more =
      ap (λ (r : List Node). length (nodes_with i r)) (first_more l k inside)
      ∙ (ap length (with_append i (take k l) (get_or l k no_node ∷ [])) ∙ length-append (nodes_with i (take k l)) (nodes_with i (get_or l k no_node ∷ [])))

  pub below-counted : (get_or l k no_node).id < i → length (nodes_below i (take (k + 1) l)) ≡ length (nodes_below i (take k l)) + 1
  unfolding nodes_below
  below-counted h = omega (arith, below_more, ap length (below_cons i (get_or l k no_node) [] h))

  pub below_passed : i ≤ (get_or l k no_node).id → length (nodes_below i (take (k + 1) l)) ≡ length (nodes_below i (take k l))
  unfolding nodes_below
  below_passed h = omega (arith, below_more, ap length (below-skip i (get_or l k no_node) [] h))

  pub with-counted : (get_or l k no_node).id ≡ i → length (nodes_with i (take (k + 1) l)) ≡ length (nodes_with i (take k l)) + 1
  unfolding nodes_with
  with-counted h = omega (arith, with-more, ap length (with_cons i (get_or l k no_node) [] h))

  pub with_passed : ((get_or l k no_node).id ≡ i → ⊥) → length (nodes_with i (take (k + 1) l)) ≡ length (nodes_with i (take k l))
  unfolding nodes_with
  with_passed h = omega (arith, with-more, ap length (with-skip i (get_or l k no_node) [] h))

-- A scan that has not begun has counted nothing.
pub below-begin : (i : ℕ) (l : List Node) → 0 ≡ length (nodes_below i (take 0 l))
unfolding nodes_below
below-begin i l = refl

pub with-begin : (i : ℕ) (l : List Node) → 0 ≡ length (nodes_with i (take 0 l))
unfolding nodes_with
with-begin i l = refl
