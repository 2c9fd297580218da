-- What holds of every node of a list: it holds of the node of an id, and of all nodes where those of an id are replaced by such.
-- Assumes nothing.
use Prim.Native.Nat.{ℕ, zero, suc}
use mathlib.Core.Path.{sym, subst}
use mathlib.Core.List.{List, [], ◌∷◌, ◌++◌}
use mathlib.Core.Logic.{⊎_elim}
use lib.ListN.{get_or}
use Rattle.sums.proofs.Sum.{eq_or_ne, lt_or_ge}
use Rattle.cluster.specs.Terms.{no_node}
use Rattle.cluster.specs.declared.Node.{Node}
use Rattle.splices.specs.TermsReplaced.{nodes_below, nodes_above, node_with, replaced}
use Rattle.splices.proofs.Replaced.{below_cons, below-skip, above_cons, above_skip}
use Rattle.splices.proofs.Kept.{node-first, node-later}

-- Every node of a list has a property.
abbrev pub All : (Node → Type 0) → List Node → Type 0
All P [] = Unit {0}
All P (n ∷ ns) = P n × All P ns

module _ (P : Node → Type 0) where
  all_append : (l r : List Node) → All P l → All P r → All P (l ++ r)
  all_append [] r h g = g
  all_append (n ∷ ns) r h g = (h.0, all_append ns r h.1 g)

  all-below : (i : ℕ) (l : List Node) → All P l → All P (nodes_below i l)
  unfolding nodes_below
  all-below i [] h = tt
  all-below i (n ∷ ns) h =
      ⊎_elim (λ q. subst (All P) (sym (below_cons i n ns q)) (h.0, all-below i ns h.1)) (λ q. subst (All P) (sym (below-skip i n ns q)) (all-below i ns h.1))
      (lt_or_ge n.id i)

  all_above : (i : ℕ) (l : List Node) → All P l → All P (nodes_above i l)
  unfolding nodes_above
  all_above i [] h = tt
  all_above i (n ∷ ns) h =
      ⊎_elim (λ q. subst (All P) (sym (above_cons i n ns q)) (h.0, all_above i ns h.1)) (λ q. subst (All P) (sym (above_skip i n ns q)) (all_above i ns h.1))
      (lt_or_ge i n.id)

  pub all-replaced : (i : ℕ) (new l : List Node) → All P new → All P l → All P (replaced i new l)
  unfolding replaced
  all-replaced i new l g h =
      all_append (nodes_below i l) (new ++ nodes_above i l) (all-below i l h) (all_append new (nodes_above i l) g (all_above i l h))

  -- The same by places: past the last node there is none.
  pub all_of : (l : List Node) → ((b : ℕ) → P (get_or l b no_node)) → All P l
  all_of [] h = tt
  all_of (n ∷ ns) h = (h 0, all_of ns (λ b. h (suc b)))

module _ (P : Node → Type 0) (none : P no_node) where
  pub all-at : (l : List Node) → All P l → (b : ℕ) → P (get_or l b no_node)
  all-at [] h b = none
  all-at (n ∷ ns) h zero = h.0
  all-at (n ∷ ns) h (suc b) = all-at ns h.1 b

  -- The node of an id, or none.
  pub all-with : (i : ℕ) (l : List Node) → All P l → P (node_with i l)
  unfolding node_with
  all-with i [] h = none
  all-with i (n ∷ ns) h =
      ⊎_elim (λ q. subst P (sym (node-first i n ns q)) h.0) (λ q. subst P (sym (node-later i n ns q)) (all-with i ns h.1)) (eq_or_ne n.id i)
