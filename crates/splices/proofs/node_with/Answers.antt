-- `splices::node_with` meets its contract: the node is the first that `find` comes to.
-- Assumes nothing.
use Rattle.std.proofs.Common.{rules, tests}
use Prim.Native.Nat.{ℕ}
use mathlib.Core.Path.{◌≡◌, refl, sym, ap, ◌∙◌}
use mathlib.Core.Bool.{Bool, true, false, cond}
use mathlib.Core.List.{List, [], ◌∷◌}
use lib.Dec.{eqb}
use lib.ListN.{take}
use Rattle.std.proofs.Common.{Some}
use Rattle.std.specs.Option.{unwrap_or, option_map}
use Rattle.std.specs.List.{find}
use Rattle.std.proofs.lemmas.Iterator.{YieldsList-from_slice}
use Rattle.std.proofs.lemmas.Iterator.Search.{find_from_yields_List}
use Rattle.cluster.specs.Terms.{no_node}
use Rattle.cluster.specs.declared.Node.{Node}
use Rattle.splices.specs.TermsReplaced.{node_with}
use Rattle.splices.proofs.node_with.Goals as goal

-- The node of an id is the first that has it; a slot that is not in use where there is none.
node-found : (i : ℕ) (l : List Node) → node_with i l ≡ unwrap_or (find (λ n. eqb n.id i) l) no_node
unfolding node_with
node-found i [] = refl
node-found i (n ∷ ns) = go (eqb n.id i) (node-found i ns)
  where
    go : (t : Bool) → node_with i ns ≡ unwrap_or (find (λ m. eqb m.id i) ns) no_node
        → cond t n (node_with i ns) ≡ unwrap_or (cond t (Some n) (find (λ m. eqb m.id i) ns)) no_node
    go true e = refl
    go false e = e

pub returns-in-Some : goal.returns-in-Some
returns-in-Some c =
    let a = c.args in
    let l : List Node = take a.c.count a.c.nodes in
    ap (λ o. unwrap_or (option_map (λ n. n.now) o) no_node) (sym c.in-Some.is)
    ∙ ap (λ o. unwrap_or o no_node)
    (find_from_yields_List (λ n. eqb n.id a.id) _ _ c.find.result c.find.ensures.ran (YieldsList-from_slice l cc) (λ x b q k. search (rules, tests)))
    ∙ sym (node-found a.id l)

pub returns-in-None : goal.returns-in-None
returns-in-None c =
    let a = c.args in
    let l : List Node = take a.c.count a.c.nodes in
    ap (λ o. unwrap_or (option_map (λ n. n.now) o) no_node) (sym c.in-None.is)
    ∙ ap (λ o. unwrap_or o no_node)
    (find_from_yields_List (λ n. eqb n.id a.id) _ _ c.find.result c.find.ensures.ran (YieldsList-from_slice l cc) (λ x b q k. search (rules, tests)))
    ∙ sym (node-found a.id l)
