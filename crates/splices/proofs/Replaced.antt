-- The laws of nodes replaced by id: the three parts of a list, replacing twice, and putting back.
-- Assumes nothing.
use Prim.Native.Nat.{ℕ, ◌≤◌, ◌<◌}
use mathlib.Core.Path.{◌≡◌, refl, sym, ap, ap₂, ◌∙◌}
use mathlib.Core.Bool.{Bool, true, false, cond}
use mathlib.Core.List.{List, [], ◌∷◌, ◌++◌, append-nil}
use mathlib.Core.Logic.{⊎_elim}
use native.Mathlib.Omega.{arith}
use lib.Dec.{ltb}
use borrow.Author.Tests.{ltb-true, lt-ltb, le-ltb, eq-eqb, ne_eqb}
use Rattle.sums.proofs.Sum.{eq_or_ne, lt_or_ge}
use Rattle.cluster.specs.Terms.{ids_of, rising_from, rising}
use Rattle.cluster.specs.declared.Node.{Node}
use Rattle.cluster.proofs.Lists.{rising_head, rising_tail}
use Rattle.splices.specs.TermsReplaced.{nodes_below, nodes_with, nodes_above, replaced}

-- ---- the three parts of one node more

pub below_cons : (i : ℕ) (n : Node) (ns : List Node) → n.id < i → nodes_below i (n ∷ ns) ≡ n ∷ nodes_below i ns
unfolding nodes_below
below_cons i n ns h = ap (λ (b : Bool). cond b (n ∷ nodes_below i ns) (nodes_below i ns)) (lt-ltb n.id i h)

pub below-skip : (i : ℕ) (n : Node) (ns : List Node) → i ≤ n.id → nodes_below i (n ∷ ns) ≡ nodes_below i ns
unfolding nodes_below
below-skip i n ns h = ap (λ (b : Bool). cond b (n ∷ nodes_below i ns) (nodes_below i ns)) (le-ltb n.id i h)

pub with_cons : (i : ℕ) (n : Node) (ns : List Node) → n.id ≡ i → nodes_with i (n ∷ ns) ≡ n ∷ nodes_with i ns
unfolding nodes_with
with_cons i n ns h = ap (λ (b : Bool). cond b (n ∷ nodes_with i ns) (nodes_with i ns)) (eq-eqb n.id i h)

pub with-skip : (i : ℕ) (n : Node) (ns : List Node) → (n.id ≡ i → ⊥) → nodes_with i (n ∷ ns) ≡ nodes_with i ns
unfolding nodes_with
with-skip i n ns h = ap (λ (b : Bool). cond b (n ∷ nodes_with i ns) (nodes_with i ns)) (ne_eqb n.id i h)

pub above_cons : (i : ℕ) (n : Node) (ns : List Node) → i < n.id → nodes_above i (n ∷ ns) ≡ n ∷ nodes_above i ns
unfolding nodes_above
above_cons i n ns h = ap (λ (b : Bool). cond b (n ∷ nodes_above i ns) (nodes_above i ns)) (lt-ltb i n.id h)

pub above_skip : (i : ℕ) (n : Node) (ns : List Node) → n.id ≤ i → nodes_above i (n ∷ ns) ≡ nodes_above i ns
unfolding nodes_above
above_skip i n ns h = ap (λ (b : Bool). cond b (n ∷ nodes_above i ns) (nodes_above i ns)) (le-ltb i n.id h)

-- ---- all of a list of one kind

-- Every node of a list has a property of its id.
abbrev pub Each : (ℕ → Type 0) → List Node → Type 0
Each P [] = Unit {0}
Each P (n ∷ ns) = P n.id × Each P ns

module _ (i : ℕ) (l r : List Node) where
  pub below-append : nodes_below i (l ++ r) ≡ nodes_below i l ++ nodes_below i r
  unfolding nodes_below
  below-append = go l
    where
      go : (l : List Node) → nodes_below i (l ++ r) ≡ nodes_below i l ++ nodes_below i r
      go [] = refl
      go (n ∷ ns) =
          ⊎_elim
          (λ h. below_cons i n (ns ++ r) h ∙ (ap (λ (t : List Node). n ∷ t) (go ns) ∙ ap (λ (t : List Node). t ++ nodes_below i r) (sym (below_cons i n ns h))))
          (λ h. below-skip i n (ns ++ r) h ∙ (go ns ∙ ap (λ (t : List Node). t ++ nodes_below i r) (sym (below-skip i n ns h))))
          (lt_or_ge n.id i)

  pub above_append : nodes_above i (l ++ r) ≡ nodes_above i l ++ nodes_above i r
  unfolding nodes_above
  above_append = go l
    where
      go : (l : List Node) → nodes_above i (l ++ r) ≡ nodes_above i l ++ nodes_above i r
      go [] = refl
      go (n ∷ ns) =
          ⊎_elim
          (λ h. above_cons i n (ns ++ r) h ∙ (ap (λ (t : List Node). n ∷ t) (go ns) ∙ ap (λ (t : List Node). t ++ nodes_above i r) (sym (above_cons i n ns h))))
          (λ h. above_skip i n (ns ++ r) h ∙ (go ns ∙ ap (λ (t : List Node). t ++ nodes_above i r) (sym (above_skip i n ns h))))
          (lt_or_ge i n.id)

pub below_all : (i : ℕ) (l : List Node) → Each (λ x. x < i) l → nodes_below i l ≡ l
unfolding nodes_below
below_all i [] h = refl
below_all i (n ∷ ns) h = below_cons i n ns h.0 ∙ ap (λ (t : List Node). n ∷ t) (below_all i ns h.1)

pub below_none : (i : ℕ) (l : List Node) → Each (λ x. i ≤ x) l → nodes_below i l ≡ []
unfolding nodes_below
below_none i [] h = refl
below_none i (n ∷ ns) h = below-skip i n ns h.0 ∙ below_none i ns h.1

pub above_all : (i : ℕ) (l : List Node) → Each (λ x. i < x) l → nodes_above i l ≡ l
unfolding nodes_above
above_all i [] h = refl
above_all i (n ∷ ns) h = above_cons i n ns h.0 ∙ ap (λ (t : List Node). n ∷ t) (above_all i ns h.1)

pub above_none : (i : ℕ) (l : List Node) → Each (λ x. x ≤ i) l → nodes_above i l ≡ []
unfolding nodes_above
above_none i [] h = refl
above_none i (n ∷ ns) h = above_skip i n ns h.0 ∙ above_none i ns h.1

pub each_weaker : (P Q : ℕ → Type 0) (l : List Node) → ((x : ℕ) → P x → Q x) → Each P l → Each Q l
each_weaker P Q [] f h = tt
each_weaker P Q (n ∷ ns) f h = (f n.id h.0, each_weaker P Q ns f h.1)

pub each_below : (i : ℕ) (l : List Node) → Each (λ x. x < i) (nodes_below i l)
unfolding nodes_below
each_below i [] = tt
each_below i (n ∷ ns) = go (each_below i ns) (ltb n.id i) refl
  where
    go : Each (λ x. x < i) (nodes_below i ns) → (b : Bool) → ltb n.id i ≡ b → Each (λ x. x < i) (cond b (n ∷ nodes_below i ns) (nodes_below i ns))
    go r true e = (ltb-true n.id i e, r)
    go r false e = r

pub each_above : (i : ℕ) (l : List Node) → Each (λ x. i < x) (nodes_above i l)
unfolding nodes_above
each_above i [] = tt
each_above i (n ∷ ns) = go (each_above i ns) (ltb i n.id) refl
  where
    go : Each (λ x. i < x) (nodes_above i ns) → (b : Bool) → ltb i n.id ≡ b → Each (λ x. i < x) (cond b (n ∷ nodes_above i ns) (nodes_above i ns))
    go r true e = (ltb-true i n.id e, r)
    go r false e = r

-- Nodes that rise from a number have ids above it.
pub each_rising : (k : ℕ) (l : List Node) → rising_from k (ids_of l) ≡ true → Each (λ x. k < x) l
unfolding ids_of
each_rising k [] e = tt
each_rising k (n ∷ ns) e =
    (rising_head k n.id (ids_of ns) e, each_weaker _ _ ns (λ x h. omega (arith, rising_head k n.id (ids_of ns) e)) (each_rising n.id ns (rising_tail k n.id (ids_of ns) e)))

pub with_none : (i : ℕ) (l : List Node) → Each (λ x. i < x) l → nodes_with i l ≡ []
unfolding nodes_with
with_none i [] h = refl
with_none i (n ∷ ns) h = with-skip i n ns (λ q. omega (arith, h.0)) ∙ with_none i ns h.1

-- ---- replacing twice

-- What a second replacement finds is what the first found.
pub replaced_twice : (i : ℕ) (a b l : List Node) → Each (λ x. x ≡ i) b → replaced i a (replaced i b l) ≡ replaced i a l
unfolding replaced
replaced_twice i a b l own =
    ap₂ (λ (x y : List Node). x ++ (a ++ y))
    (below-append i (nodes_below i l) (b ++ nodes_above i l)
    ∙ (ap₂ ◌++◌ (below_all i (nodes_below i l) (each_below i l))
    (below-append i b (nodes_above i l) ∙ ap₂ ◌++◌ (below_none i b (each_weaker _ _ b (λ x e. omega arith) own)) (below_none i (nodes_above i l) (each_weaker _ _ (nodes_above i l) (λ x e. omega arith) (each_above i l))))
    ∙ append-nil (nodes_below i l)))
    (above_append i (nodes_below i l) (b ++ nodes_above i l)
    ∙ ap₂ ◌++◌ (above_none i (nodes_below i l) (each_weaker _ _ (nodes_below i l) (λ x e. omega arith) (each_below i l)))
    (above_append i b (nodes_above i l) ∙ ap₂ ◌++◌ (above_none i b (each_weaker _ _ b (λ x e. omega arith) own)) (above_all i (nodes_above i l) (each_above i l))))

rising-later : (n : Node) (ns : List Node) (k : ℕ) → rising_from k (ids_of (n ∷ ns)) ≡ true → rising_from n.id (ids_of ns) ≡ true
unfolding ids_of
rising-later n ns k e = rising_tail k n.id (ids_of ns) e

-- Rising nodes are those below an id, the one that has it, and those above.
pub replaced-own : (i k : ℕ) (l : List Node) → rising_from k (ids_of l) ≡ true → nodes_below i l ++ (nodes_with i l ++ nodes_above i l) ≡ l
unfolding nodes_below nodes_with nodes_above
replaced-own i k [] e = refl
replaced-own i k (n ∷ ns) e =
    ⊎_elim
    (λ h. ap₂ ◌++◌ (below_cons i n ns h) (ap₂ ◌++◌ (with-skip i n ns (λ q. omega arith)) (above_skip i n ns (omega arith)))
    ∙ ap (λ (t : List Node). n ∷ t) (replaced-own i n.id ns (rising-later n ns k e)))
    (λ h. let up = each_rising n.id ns (rising-later n ns k e) in
    let over : Each (λ x. i < x) ns = each_weaker _ _ ns (λ x g. omega arith) up in
    ap₂ ◌++◌ (below_none i (n ∷ ns) (h, each_weaker _ _ ns (λ x g. omega arith) up))
    (⊎_elim
    (λ q. ap₂ ◌++◌ (with_cons i n ns q ∙ ap (λ (t : List Node). n ∷ t) (with_none i ns over)) (above_skip i n ns (omega arith) ∙ above_all i ns over))
    (λ q. ap₂ ◌++◌ (with_none i (n ∷ ns) (omega arith, over)) (above_all i (n ∷ ns) (omega arith, over)))
    (eq_or_ne n.id i)))
    (lt_or_ge n.id i)

-- What stood there is put back.
pub put_back : (i : ℕ) (new l : List Node) → Each (λ x. x ≡ i) new → rising (ids_of l) ≡ true → replaced i (nodes_with i l) (replaced i new l) ≡ l
unfolding replaced
put_back i new l own e = replaced_twice i (nodes_with i l) new l own ∙ replaced-own i 0 l e
