-- The numbers of nodes put into lent cells, one node after the other.
-- Assumes nothing.
use Prim.Native.Nat.{ℕ, ◌+◌, ◌*◌, ◌≤◌, ◌<◌}
use mathlib.Core.Path.{◌≡◌, refl, sym, ap, ap₂, ◌∙◌}
use mathlib.Core.List.{List, [], ◌∷◌, ◌++◌, append_assoc, append-nil}
use native.Mathlib.Numerals.{add-one}
use native.Mathlib.Omega.{arith}
use lib.ListN.{length, take, drop, get_or, length-append, take-append-drop}
use lib.Seq.{length-take-le, take-suc, take_at, take_all, drop-append-add, drop-drop}
use Rattle.cluster.specs.Terms.{most_nodes, no_node}
use Rattle.cluster.specs.declared.Node.{Node}
use Rattle.answers.specs.TermsAnswers.{node_cells_width, node_cells}

-- The cells of a node.
abbrev pub cells_of_node : Node → List ℕ
cells_of_node n = n.id ∷ n.zone ∷ n.capacity ∷ n.ceiling ∷ []

length-node_cells : (l : List Node) → length (node_cells l) ≡ node_cells_width * length l
unfolding node_cells
length-node_cells [] = refl
length-node_cells (n ∷ ns) = let e = length-node_cells ns in omega arith

node_cells-append : (l m : List Node) → node_cells (l ++ m) ≡ node_cells l ++ node_cells m
unfolding node_cells
node_cells-append [] m = refl
node_cells-append (n ∷ ns) m = ap (λ (r : List ℕ). cells_of_node n ++ r) (node_cells-append ns m)

-- One node more.
node_cells-more : (l : List Node) (b : ℕ) → b < length l → node_cells (take (b + 1) l) ≡ node_cells (take b l) ++ cells_of_node (get_or l b no_node)
unfolding node_cells
node_cells-more l b h =
    ap node_cells (ap (λ (n : ℕ). take n l) (add-one b) ∙ take-suc l b no_node h) ∙ node_cells-append (take b l) (get_or l b no_node ∷ [])

module _ (at : ℕ) (lent : List ℕ) (nodes : List Node) (room : at + node_cells_width * most_nodes ≤ length lent) (slots : length nodes ≡ most_nodes) where
  -- What is there once b nodes are.
  abbrev front : ℕ → List ℕ
  front b = take at lent ++ node_cells (take b nodes)

  abbrev place : ℕ → ℕ
  place b = at + node_cells_width * b

  abbrev pub written : ℕ → List ℕ
  written b = front b ++ drop (place b) lent

  front_length : (b : ℕ) → b ≤ most_nodes → length (front b) ≡ place b
  front_length b h =
      omega (arith, length-append (take at lent) (node_cells (take b nodes)), length-take-le at lent (omega arith), length-node_cells (take b nodes), length-take-le b nodes (omega arith))

  pub node-next : (b : ℕ) (cells : List ℕ) → b < most_nodes → cells ≡ written b
      → take (place b) cells ++ cells_of_node (get_or nodes b no_node) ++ drop (place b + node_cells_width) cells ≡ written (b + 1)
  node-next b cells h e =
      let p = place b in
      let n = cells_of_node (get_or nodes b no_node) in
      let long : length (front b) ≡ p = front_length b (omega arith) in
      let next : p + node_cells_width ≡ place (b + 1) = omega arith in
      let rest : drop (p + node_cells_width) (written b) ≡ drop (p + node_cells_width) lent =
      ap (λ (k : ℕ). drop (k + node_cells_width) (written b)) (sym long) ∙ (drop-append-add (front b) (drop p lent) node_cells_width ∙ drop-drop node_cells_width p lent) in
      ap (λ (l : List ℕ). take p l ++ n ++ drop (p + node_cells_width) l) e
      ∙ (ap₂ (λ (f r : List ℕ). f ++ n ++ r) (take_at (front b) (drop p lent) p long) rest
      ∙ ap₂ (λ (f : List ℕ) (k : ℕ). f ++ drop k lent)
      (append_assoc (take at lent) (node_cells (take b nodes)) n ∙ ap (λ (l : List ℕ). take at lent ++ l) (sym (node_cells-more nodes b (omega arith)))) next)

  pub node-none : lent ≡ written 0
  unfolding node_cells
  node-none =
      let e : at ≡ at + node_cells_width * 0 = omega arith in
      sym (take-append-drop at lent) ∙ ap₂ (λ (f : List ℕ) (k : ℕ). f ++ drop k lent) (sym (append-nil (take at lent))) e

  pub node-all : written most_nodes ≡ take at lent ++ node_cells nodes ++ drop (at + node_cells_width * most_nodes) lent
  node-all = ap (λ (l : List Node). take at lent ++ node_cells l ++ drop (at + node_cells_width * most_nodes) lent) (take_all most_nodes nodes (omega arith))
