-- The ids of the nodes of a mask: the first of them is that of the least node, and the others are those of the mask without it.
-- Assumes nothing.
use Prim.Native.Nat.{ℕ, zero, suc, ◌+◌, ◌-◌, ◌≤◌, ◌<◌, min}
use mathlib.Core.Path.{◌≡◌, refl, sym, ap, ◌∙◌}
use mathlib.Core.List.{List, [], ◌∷◌}
use mathlib.Core.Logic.{⊎_elim}
use native.Mathlib.Omega.{arith}
use lib.ListN.{length, take, drop, get_or, get_or-eq_default}
use lib.Seq.{drop-drop, get_or-drop, get_or-take, ext_get_or, length-take-le}
use Rattle.sums.specs.TermsSums.{sum_to}
use Rattle.sums.proofs.Sum.{lt_or_ge, sum_first}
use Rattle.sets.specs.ModelBits.{bit, without_of, least_of}
use Rattle.sets.proofs.Laws.{bit_zero, bit-without, bit-without_same, bit-without_other, least-before, least_at}
use Rattle.cluster.specs.Terms.{most_nodes, no_node, ids_of}
use Rattle.incidence.specs.ModelIncidence.{ids_where}
use Rattle.incidence.proofs.TieRows.{id-at, length_ids, where_out, where_in, where_cong}
use Rattle.incidence.proofs.Columns.{length-column, cell-column}
use Rattle.cluster.specs.declared.Node.{Node}
use Rattle.masks.specs.ModelMasks.{id_cells}

-- Past the nodes the id is 0.
pub past-id : (ns : List Node) (b : ℕ) → length ns ≤ b → (get_or ns b no_node).id ≡ 0
past-id ns b h = ap (λ (n : Node). n.id) (get_or-eq_default ns no_node h)

-- Of the ids of nodes there are as many as nodes,
pub ids-many : (ns : List Node) (ids : List ℕ) → ids ≡ ids_of ns → length ids ≡ length ns
ids-many ns ids e = ap length e ∙ length_ids ns

-- and one after another they are those of the nodes.
pub id-cell : (ns : List Node) (ids : List ℕ) (b : ℕ) → ids ≡ ids_of ns → get_or ids b 0 ≡ (get_or ns b no_node).id
id-cell ns ids b e = ap (λ (l : List ℕ). get_or l b 0) e ∙ id-at ns b

-- The cells of ids that are in use have the ids of the nodes.
pub ids_used : (ns : List Node) (ids : List ℕ) (n : ℕ) → n ≤ most_nodes → n ≡ length ns → ids ≡ id_cells ns → take n ids ≡ ids_of ns
unfolding id_cells
ids_used ns ids n few m e =
    ext_get_or 0 (take n ids) (ids_of ns) (length-take-le n ids (omega (arith, ap length e, length-column id (length ns))) ∙ (m ∙ sym (length_ids ns)))
    (λ b l. let k : b < n = omega (arith, length-take-le n ids (omega (arith, ap length e, length-column id (length ns)))) in
    get_or-take n ids b 0 k ∙ (ap (λ (r : List ℕ). get_or r b 0) e ∙ (cell-column id (length ns) b (omega arith) (omega arith) ∙ sym (id-at ns b))))
  where
    id : ℕ → ℕ
    id b = (get_or ns b no_node).id

-- A function that is 0 on the nodes gives no ids.
pub where_none : (ns : List Node) (f : ℕ → ℕ) → ((b : ℕ) → b < length ns → f b ≡ 0) → ids_where ns f ≡ []
unfolding ids_where
where_none [] f h = refl
where_none (n ∷ ns) f h = where_out n ns f (h 0 (omega arith)) ∙ where_none ns (λ b. f (suc b)) (λ b l. h (suc b) (omega arith))

-- There are as many ids as nodes at which the function is not 0.
pub where_length : (ns : List Node) (f : ℕ → ℕ) → length (ids_where ns f) ≡ sum_to (length ns) (λ b. min 1 (f b))
unfolding ids_where sum_to
where_length [] f = refl
where_length (n ∷ ns) f =
    ⊎_elim
    (λ l. omega (arith, ap length (where_out n ns f (omega arith)), where_length ns (λ b. f (suc b)), sum_first (length ns) (λ b. min 1 (f b))))
    (λ l. omega (arith, ap length (where_in n ns f l), where_length ns (λ b. f (suc b)), sum_first (length ns) (λ b. min 1 (f b))))
    (lt_or_ge (f 0) 1)

-- Where f is 0 before node b and not 0 at it, the first id is that of b, and the others are those of f without b.
pub where_first : (ns : List Node) (f g : ℕ → ℕ) (b : ℕ) → b < length ns → ((j : ℕ) → j < b → f j ≡ 0) → 1 ≤ f b → g b ≡ 0
    → ((j : ℕ) → j < length ns → (b ≡ j → ⊥) → g j ≡ f j) → ids_where ns f ≡ (get_or ns b no_node).id ∷ ids_where ns g
where_first [] f g b l z h e s = absurd (omega arith)
where_first (n ∷ ns) f g zero l z h e s =
    where_in n ns f h
    ∙ ap (λ (r : List ℕ). n.id ∷ r)
    (where_cong ns (λ b. f (suc b)) (λ b. g (suc b)) (λ j k. sym (s (suc j) (omega arith) (λ q. omega arith))) ∙ sym (where_out n ns g e))
where_first (n ∷ ns) f g (suc b) l z h e s =
    where_out n ns f (z 0 (omega arith))
    ∙ (where_first ns (λ j. f (suc j)) (λ j. g (suc j)) b (omega arith) (λ j k. z (suc j) (omega arith)) h e
    (λ j k q. s (suc j) (omega arith) (λ r. q (omega arith)))
    ∙ ap (λ (r : List ℕ). (get_or ns b no_node).id ∷ r) (sym (where_out n ns g (s 0 (omega arith) (λ q. omega arith) ∙ z 0 (omega arith)))))

-- The empty mask gives no ids.
pub where_empty : (ns : List Node) → ids_where ns (bit 0) ≡ []
where_empty ns = where_none ns (bit 0) (λ b l. bit_zero b)

-- The ids of a mask: that of its least node, then those of the mask without it; none where it has no node.
where_least : (ns : List Node) (s : ℕ) → length ns ≤ most_nodes
    → (get_or (ids_where ns (bit s)) 0 0 ≡ (get_or ns (least_of s) no_node).id) × (drop 1 (ids_where ns (bit s)) ≡ ids_where ns (bit (without_of s (least_of s))))
where_least ns s few =
    ⊎_elim
    (λ l. let e : ids_where ns (bit s) ≡ (get_or ns (least_of s) no_node).id ∷ ids_where ns (bit (without_of s (least_of s))) =
    where_first ns (bit s) (bit (without_of s (least_of s))) (least_of s) l (λ j k. least-before s j k) (omega (arith, least_at s (omega arith)))
    (bit-without_same s (least_of s) (omega arith)) (λ j k n. bit-without_other s (least_of s) j (omega arith) n) in
    (ap (λ (r : List ℕ). get_or r 0 0) e, ap (λ (r : List ℕ). drop 1 r) e))
    (λ l. let e : ids_where ns (bit s) ≡ [] = where_none ns (bit s) (λ b k. least-before s b (omega arith)) in
    let d : ids_where ns (bit (without_of s (least_of s))) ≡ [] =
    where_none ns (bit (without_of s (least_of s))) (λ b k. omega (arith, bit-without s (least_of s) b (omega arith), least-before s b (omega arith))) in
    (ap (λ (r : List ℕ). get_or r 0 0) e ∙ sym (past-id ns (least_of s) l), ap (λ (r : List ℕ). drop 1 r) e ∙ sym d))
    (lt_or_ge (least_of s) (length ns))

module _ (ns : List Node) (r : List ℕ) (j s : ℕ) (few : length ns ≤ most_nodes) (inv : drop j r ≡ ids_where ns (bit s)) where
  -- Where the ids from j on are those of a mask, id j is that of its least node,
  pub where_next : (get_or ns (least_of s) no_node).id ≡ get_or r j 0
  where_next =
      let e : j + 0 ≡ j = omega arith in
      sym (ap (λ (k : ℕ). get_or r k 0) (sym e) ∙ (sym (get_or-drop j r 0 0) ∙ (ap (λ (l : List ℕ). get_or l 0 0) inv ∙ (where_least ns s few).0)))

  -- and those from j + 1 on are those of the mask without it.
  pub where_others : drop (j + 1) r ≡ ids_where ns (bit (without_of s (least_of s)))
  where_others = sym (drop-drop 1 j r) ∙ (ap (λ (l : List ℕ). drop 1 l) inv ∙ (where_least ns s few).1)

  -- Where the mask is empty, the ids from j on are 0.
  pub where_end : s ≡ 0 → (i : ℕ) → j ≤ i → 0 ≡ get_or r i 0
  where_end z i h =
      let e : j + (i - j) ≡ i = omega arith in
      sym (ap (λ (k : ℕ). get_or r k 0) (sym e)
      ∙ (sym (get_or-drop j r (i - j) 0) ∙ ap (λ (l : List ℕ). get_or l (i - j) 0) (inv ∙ (ap (λ (m : ℕ). ids_where ns (bit m)) z ∙ where_empty ns))))
