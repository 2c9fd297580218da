-- What nodes by rising id keep where those of an id are replaced: they rise, they are as many but for those, and the id stands among them or not.
-- Assumes nothing.
use Prim.Native.Nat.{ℕ, ◌+◌, ◌-◌, ◌≤◌, ◌<◌}
use mathlib.Core.Path.{◌≡◌, refl, sym, ap, ap₂, ◌∙◌, subst}
use mathlib.Core.Bool.{Bool, true, false, cond, false≢true}
use mathlib.Core.List.{List, [], ◌∷◌, ◌++◌}
use mathlib.Core.Logic.{⊎_elim}
use native.Mathlib.Omega.{arith}
use lib.ListN.{length, length-append}
use borrow.Author.Tests.{eq-eqb, ne_eqb}
use Rattle.sums.proofs.Sum.{eq_or_ne, lt_or_ge}
use Rattle.cluster.specs.Terms.{ids_of, mem, rising_from, rising}
use Rattle.cluster.specs.declared.Node.{Node}
use Rattle.cluster.proofs.Lists.{mem_head, mem-skip, mem_tail, mem-none, mem_cases, rising_head, rising_tail, rising_none, rising_cons, rising_down, rising_above}
use Rattle.splices.specs.TermsReplaced.{nodes_below, nodes_with, nodes_above, node_with, replaced}
use Rattle.splices.proofs.Replaced.{below_cons, below-skip, with_cons, with-skip, above_cons, above_skip}
use Rattle.splices.proofs.Replaced.{Each, each_weaker, each_below, each_above, each_rising, with_none, replaced-own}

-- ---- the node of an id

pub node-first : (i : ℕ) (n : Node) (ns : List Node) → n.id ≡ i → node_with i (n ∷ ns) ≡ n
unfolding node_with
node-first i n ns h = ap (λ (b : Bool). cond b n (node_with i ns)) (eq-eqb n.id i h)

pub node-later : (i : ℕ) (n : Node) (ns : List Node) → (n.id ≡ i → ⊥) → node_with i (n ∷ ns) ≡ node_with i ns
unfolding node_with
node-later i n ns h = ap (λ (b : Bool). cond b n (node_with i ns)) (ne_eqb n.id i h)

-- The node of an id that is there has it.
pub node-id : (i : ℕ) (l : List Node) → mem i (ids_of l) ≡ true → (node_with i l).id ≡ i
unfolding ids_of
node-id i [] m = absurd (mem-none i m)
node-id i (n ∷ ns) m =
    ⊎_elim (λ q. ap (λ (x : Node). x.id) (node-first i n ns q) ∙ q)
    (λ q. ap (λ (x : Node). x.id) (node-later i n ns q) ∙ node-id i ns (sym (mem-skip i n.id (ids_of ns) (λ e. q (sym e))) ∙ m))
    (eq_or_ne n.id i)

-- An id that is there is that of one node, where ids rise.
with-from : (i k : ℕ) (l : List Node) → rising_from k (ids_of l) ≡ true → mem i (ids_of l) ≡ true → nodes_with i l ≡ node_with i l ∷ []
unfolding ids_of
with-from i k [] e m = absurd (mem-none i m)
with-from i k (n ∷ ns) e m =
    let up = rising_tail k n.id (ids_of ns) e in
    ⊎_elim
    (λ q. with_cons i n ns (sym q)
    ∙ ap₂ (λ (x : Node) (t : List Node). x ∷ t) (sym (node-first i n ns (sym q)))
    (with_none i ns (each_weaker _ _ ns (λ x h. omega arith) (each_rising n.id ns up))))
    (λ h. let under : n.id < i = rising_above n.id i (ids_of ns) up h in
    with-skip i n ns (λ q. omega arith) ∙ (with-from i n.id ns up h ∙ ap (λ (x : Node). x ∷ []) (sym (node-later i n ns (λ q. omega arith)))))
    (mem_cases i n.id (ids_of ns) m)

pub with-node : (i : ℕ) (l : List Node) → rising (ids_of l) ≡ true → mem i (ids_of l) ≡ true → nodes_with i l ≡ node_with i l ∷ []
with-node i l e m = with-from i 0 l e m

-- An id that is absent is that of no node.
pub without-node : (i : ℕ) (l : List Node) → mem i (ids_of l) ≡ false → nodes_with i l ≡ []
unfolding nodes_with ids_of
without-node i [] m = refl
without-node i (n ∷ ns) m =
    ⊎_elim (λ q. absurd (false≢true (sym m ∙ mem_head i n.id (ids_of ns) (sym q))))
    (λ q. with-skip i n ns q ∙ without-node i ns (sym (mem-skip i n.id (ids_of ns) (λ e. q (sym e))) ∙ m))
    (eq_or_ne n.id i)

-- ---- ids that rise

below-rising : (i k : ℕ) (l : List Node) → rising_from k (ids_of l) ≡ true → rising_from k (ids_of (nodes_below i l)) ≡ true
unfolding ids_of nodes_below
below-rising i k [] e = e
below-rising i k (n ∷ ns) e =
    let rest = below-rising i n.id ns (rising_tail k n.id (ids_of ns) e) in
    let first = rising_head k n.id (ids_of ns) e in
    ⊎_elim
    (λ h. subst (λ (t : List Node). rising_from k (ids_of t) ≡ true) (sym (below_cons i n ns h)) (rising_cons k n.id (ids_of (nodes_below i ns)) first rest))
    (λ h. subst (λ (t : List Node). rising_from k (ids_of t) ≡ true) (sym (below-skip i n ns h)) (rising_down k n.id (ids_of (nodes_below i ns)) (omega arith) rest))
    (lt_or_ge n.id i)

above_rising : (i k : ℕ) (l : List Node) → rising_from k (ids_of l) ≡ true → rising_from k (ids_of (nodes_above i l)) ≡ true
unfolding ids_of nodes_above
above_rising i k [] e = e
above_rising i k (n ∷ ns) e =
    let rest = above_rising i n.id ns (rising_tail k n.id (ids_of ns) e) in
    let first = rising_head k n.id (ids_of ns) e in
    ⊎_elim
    (λ h. subst (λ (t : List Node). rising_from k (ids_of t) ≡ true) (sym (above_cons i n ns h)) (rising_cons k n.id (ids_of (nodes_above i ns)) first rest))
    (λ h. subst (λ (t : List Node). rising_from k (ids_of t) ≡ true) (sym (above_skip i n ns h)) (rising_down k n.id (ids_of (nodes_above i ns)) (omega arith) rest))
    (lt_or_ge i n.id)

-- Rising nodes, all above a number, rise from it.
rising_lift : (i k : ℕ) (l : List Node) → Each (λ x. i < x) l → rising_from k (ids_of l) ≡ true → rising_from i (ids_of l) ≡ true
unfolding ids_of
rising_lift i k [] h e = rising_none i
rising_lift i k (n ∷ ns) h e = rising_cons i n.id (ids_of ns) h.0 (rising_tail k n.id (ids_of ns) e)

-- Rising nodes up to a number, and then nodes that rise from it.
rising-join : (j k : ℕ) (l r : List Node) → k ≤ j → Each (λ x. x ≤ j) l → rising_from k (ids_of l) ≡ true → rising_from j (ids_of r) ≡ true
    → rising_from k (ids_of (l ++ r)) ≡ true
unfolding ids_of
rising-join j k [] r b h e f = rising_down k j (ids_of r) b f
rising-join j k (n ∷ ns) r b h e f =
    rising_cons k n.id (ids_of (ns ++ r)) (rising_head k n.id (ids_of ns) e)
    (rising-join j n.id ns r h.0 h.1 (rising_tail k n.id (ids_of ns) e) f)

pub rising-replaced : (i : ℕ) (new l : List Node) → 1 ≤ i → rising (ids_of l) ≡ true → Each (λ x. x ≡ i) new → length new ≤ 1
    → rising (ids_of (replaced i new l)) ≡ true
unfolding replaced ids_of
rising-replaced i new l p e own few =
    rising-join (i - 1) 0 (nodes_below i l) (new ++ nodes_above i l) (omega arith) (each_weaker _ _ (nodes_below i l) (λ x h. omega arith) (each_below i l))
    (below-rising i 0 l e) (go new own few)
  where
    up : rising_from i (ids_of (nodes_above i l)) ≡ true
    up = rising_lift i 0 (nodes_above i l) (each_above i l) (above_rising i 0 l e)

    go : (new : List Node) → Each (λ x. x ≡ i) new → length new ≤ 1 → rising_from (i - 1) (ids_of (new ++ nodes_above i l)) ≡ true
    go [] h f = rising_down (i - 1) i (ids_of (nodes_above i l)) (omega arith) up
    go (n ∷ []) h f =
        rising_cons (i - 1) n.id (ids_of (nodes_above i l)) (omega (arith, h.0)) (rising_down n.id i (ids_of (nodes_above i l)) (omega (arith, h.0)) up)
    go (n ∷ (m ∷ ns)) h f = absurd (omega arith)

-- ---- the id among those replaced

-- Nodes with other ids.
mem_other : (i : ℕ) (l : List Node) → Each (λ x. i ≡ x → ⊥) l → mem i (ids_of l) ≡ false
unfolding ids_of mem
mem_other i [] h = refl
mem_other i (n ∷ ns) h = mem-skip i n.id (ids_of ns) h.0 ∙ mem_other i ns h.1

each_append : (P : ℕ → Type 0) (l r : List Node) → Each P l → Each P r → Each P (l ++ r)
each_append P [] r h g = g
each_append P (n ∷ ns) r h g = (h.0, each_append P ns r h.1 g)

-- Replaced by none, the id is absent.
pub mem-replaced-none : (i : ℕ) (l : List Node) → mem i (ids_of (replaced i [] l)) ≡ false
unfolding replaced
mem-replaced-none i l =
    mem_other i (nodes_below i l ++ nodes_above i l)
    (each_append _ (nodes_below i l) (nodes_above i l) (each_weaker _ _ (nodes_below i l) (λ x h e. omega arith) (each_below i l))
    (each_weaker _ _ (nodes_above i l) (λ x h e. omega arith) (each_above i l)))

-- Replaced by one node that has the id, it is there, and is that node's.
module _ (i : ℕ) (n : Node) (own : n.id ≡ i) where
  mem-over : (l r : List Node) → mem i (ids_of (l ++ (n ∷ r))) ≡ true
  unfolding ids_of
  mem-over [] r = mem_head i n.id (ids_of r) (sym own)
  mem-over (m ∷ ms) r = mem_tail i m.id (ids_of (ms ++ (n ∷ r))) (mem-over ms r)

  node_over : (l r : List Node) → Each (λ x. x < i) l → node_with i (l ++ (n ∷ r)) ≡ n
  node_over [] r h = node-first i n r own
  node_over (m ∷ ms) r h = node-later i m (ms ++ (n ∷ r)) (λ q. omega (arith, h.0)) ∙ node_over ms r h.1

  pub mem-replaced-one : (l : List Node) → mem i (ids_of (replaced i (n ∷ []) l)) ≡ true
  unfolding replaced
  mem-replaced-one l = mem-over (nodes_below i l) (nodes_above i l)

  pub node-replaced : (l : List Node) → node_with i (replaced i (n ∷ []) l) ≡ n
  unfolding replaced
  node-replaced l = node_over (nodes_below i l) (nodes_above i l) (each_below i l)

-- ---- how many they are

pub length-replaced : (i : ℕ) (new l : List Node) → rising (ids_of l) ≡ true → length (replaced i new l) + length (nodes_with i l) ≡ length l + length new
unfolding replaced
length-replaced i new l e =
    let a = length-append (nodes_below i l) (new ++ nodes_above i l) in
    let b = length-append new (nodes_above i l) in
    let d = length-append (nodes_below i l) (nodes_with i l ++ nodes_above i l) in
    let f = length-append (nodes_with i l) (nodes_above i l) in
    let g = ap length (replaced-own i 0 l e) in
    omega (arith, a, b, d, f, g)
