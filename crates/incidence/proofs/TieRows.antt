-- Rows of ids and rows of bits over the nodes: counts, and the row of ids with given bits.
-- Assumes nothing.
use Prim.Native.Nat.{ℕ, zero, suc, ◌+◌, ◌*◌, ◌≤◌, ◌<◌}
use mathlib.Core.Path.{◌≡◌, refl, sym, ap, ap₂, ◌∙◌, subst}
use mathlib.Core.List.{List, [], ◌∷◌}
use mathlib.Core.Bool.{Bool, true, false, not, cond}
use mathlib.Core.Logic.{⊎_elim}
use native.Mathlib.Nat.{mul-one}
use native.Mathlib.Omega.{arith}
use lib.Dec.{eqb}
use lib.ListN.{length, get_or, length-map, get_or-map}
use borrow.Author.Tests.{eqb-true, eqb-false, eq-eqb, ne_eqb}
use Rattle.sums.specs.TermsSums.{sum_to, one_if}
use Rattle.sums.proofs.Sum.{sum_cong, sum_first}
use Rattle.cluster.specs.Terms.{no_node, ids_of, mem, rising_from, Layout, row, copies_in}
use Rattle.incidence.specs.ModelIncidence.{bits_of, ids_where}
use Rattle.cluster.specs.declared.Node.{Node}
use Rattle.cluster.proofs.Lists.{same_test, mem_head, mem-skip, mem_tail, mem_cases, mem_index, index_mem, rising_head, rising_tail, rising_cons, rising_down, rising_above, rising_fresh, rising_same, over, over-length, over-within}

-- ---- the ids of the nodes

-- The id of node b stands at index b.
pub id-at : (ns : List Node) (b : ℕ) → get_or (ids_of ns) b 0 ≡ (get_or ns b no_node).id
unfolding ids_of
id-at ns b = get_or-map (λ (n : Node). n.id) ns b no_node

-- There are as many ids as nodes.
pub length_ids : (ns : List Node) → length (ids_of ns) ≡ length ns
unfolding ids_of
length_ids ns = length-map ns (λ (n : Node). n.id)

-- The id of a node is an id of the cluster.
pub id_known : (ns : List Node) (b : ℕ) → b < length ns → mem (get_or ns b no_node).id (ids_of ns) ≡ true
id_known ns b h =
    subst (λ (i : ℕ). mem i (ids_of ns) ≡ true) (id-at ns b) (index_mem (ids_of ns) b (omega (arith, length_ids ns)))

-- An id of the cluster is that of a node.
pub known_id : (ns : List Node) (i : ℕ) → mem i (ids_of ns) ≡ true → (b : ℕ) × (b < length ns) × ((get_or ns b no_node).id ≡ i)
known_id ns i m =
    let w = mem_index i (ids_of ns) m in
    (w.0, omega (arith, w.1, length_ids ns), sym (id-at ns w.0) ∙ w.2)

-- A sum over the ids is a sum over the nodes.
pub over-ids : (ns : List Node) (f : ℕ → ℕ) → over (ids_of ns) f ≡ sum_to (length ns) (λ b. f (get_or ns b no_node).id)
unfolding ids_of over sum_to
over-ids [] f = refl
over-ids (n ∷ ns) f =
    ap (λ (k : ℕ). f n.id + k) (over-ids ns f) ∙ sym (sum_first (length ns) (λ b. f (get_or (n ∷ ns) b no_node).id))

-- ---- counting

-- Whatever is added up over the ids of a row can be added up over the nodes that the row names.
pub row-sum : (j k : ℕ) (ns : List Node) (r : List ℕ) (f : ℕ → ℕ) → rising_from j (ids_of ns) ≡ true → rising_from k r ≡ true
    → ((i : ℕ) → mem i r ≡ true → mem i (ids_of ns) ≡ true)
    → over r f ≡ sum_to (length ns) (λ b. bits_of ns r b * f (get_or ns b no_node).id)
row-sum j k ns r f d e h = over-within k j r (ids_of ns) f e d h ∙ over-ids ns (λ y. one_if (mem y r) * f y)

-- The length of a row is the sum of its bits.
pub row-length : (j k : ℕ) (ns : List Node) (r : List ℕ) → rising_from j (ids_of ns) ≡ true → rising_from k r ≡ true
    → ((i : ℕ) → mem i r ≡ true → mem i (ids_of ns) ≡ true) → length r ≡ sum_to (length ns) (bits_of ns r)
row-length j k ns r d e h =
    sym (over-length r)
    ∙ (row-sum j k ns r (λ x. 1) d e h
    ∙ sum_cong (length ns) (λ b. bits_of ns r b * 1) (bits_of ns r) (λ b l. mul-one (bits_of ns r b)))

-- The copies of a node, counted by rows.
pub copies-sum : (L : Layout) (i : ℕ) → copies_in L i ≡ sum_to (length L) (λ p. one_if (mem i (row L p)))
unfolding copies_in sum_to
copies-sum [] i = refl
copies-sum (r ∷ rs) i =
    ap (λ (k : ℕ). one_if (mem i r) + k) (copies-sum rs i)
    ∙ sym (sum_first (length rs) (λ p. one_if (mem i (row (r ∷ rs) p))))

-- ---- the row of ids with given bits

-- A node at which f is 0 is left out,
pub where_out : (n : Node) (ns : List Node) (f : ℕ → ℕ) → f 0 ≡ 0 → ids_where (n ∷ ns) f ≡ ids_where ns (λ b. f (suc b))
unfolding ids_where
where_out n ns f e =
    ap (λ (t : Bool). cond t (ids_where ns (λ b. f (suc b))) (n.id ∷ ids_where ns (λ b. f (suc b)))) (eq-eqb (f 0) 0 e)

-- and any other is taken.
pub where_in : (n : Node) (ns : List Node) (f : ℕ → ℕ) → 1 ≤ f 0 → ids_where (n ∷ ns) f ≡ n.id ∷ ids_where ns (λ b. f (suc b))
unfolding ids_where
where_in n ns f h =
    ap (λ (t : Bool). cond t (ids_where ns (λ b. f (suc b))) (n.id ∷ ids_where ns (λ b. f (suc b)))) (ne_eqb (f 0) 0 (λ e. omega arith))

-- Functions that agree on the nodes give the same ids.
pub where_cong : (ns : List Node) (f g : ℕ → ℕ) → ((b : ℕ) → b < length ns → f b ≡ g b) → ids_where ns f ≡ ids_where ns g
unfolding ids_where
where_cong [] f g h = refl
where_cong (n ∷ ns) f g h =
    ap₂ (λ (v : ℕ) (r : List ℕ). cond (eqb v 0) r (n.id ∷ r)) (h 0 (omega arith))
    (where_cong ns (λ b. f (suc b)) (λ b. g (suc b)) (λ b l. h (suc b) (omega arith)))

-- It names nodes of the cluster alone.
pub where_known : (ns : List Node) (f : ℕ → ℕ) (i : ℕ) → mem i (ids_where ns f) ≡ true → mem i (ids_of ns) ≡ true
unfolding ids_of ids_where
where_known [] f i m = m
where_known (n ∷ ns) f i m = go (eqb (f 0) 0) (where_known ns (λ b. f (suc b)) i) m
  where
    go : (t : Bool) → (mem i (ids_where ns (λ b. f (suc b))) ≡ true → mem i (ids_of ns) ≡ true)
        → mem i (cond t (ids_where ns (λ b. f (suc b))) (n.id ∷ ids_where ns (λ b. f (suc b)))) ≡ true → mem i (n.id ∷ ids_of ns) ≡ true
    go true r h = mem_tail i n.id (ids_of ns) (r h)
    go false r h =
        ⊎_elim (λ e. mem_head i n.id (ids_of ns) e) (λ k. mem_tail i n.id (ids_of ns) (r k))
        (mem_cases i n.id (ids_where ns (λ b. f (suc b))) h)

-- It rises where the ids do.
pub where_rising : (k : ℕ) (ns : List Node) (f : ℕ → ℕ) → rising_from k (ids_of ns) ≡ true → rising_from k (ids_where ns f) ≡ true
unfolding ids_of ids_where
where_rising k [] f e = e
where_rising k (n ∷ ns) f e =
    go (eqb (f 0) 0) (where_rising n.id ns (λ b. f (suc b)) (rising_tail k n.id (ids_of ns) e)) (rising_head k n.id (ids_of ns) e)
  where
    go : (t : Bool) → rising_from n.id (ids_where ns (λ b. f (suc b))) ≡ true → k < n.id
        → rising_from k (cond t (ids_where ns (λ b. f (suc b))) (n.id ∷ ids_where ns (λ b. f (suc b)))) ≡ true
    go true r h = rising_down k n.id (ids_where ns (λ b. f (suc b))) (omega arith) r
    go false r h = rising_cons k n.id (ids_where ns (λ b. f (suc b))) h r

-- It names node b exactly where f is not 0.
pub where_bit : (k : ℕ) (ns : List Node) (f : ℕ → ℕ) (b : ℕ) → rising_from k (ids_of ns) ≡ true → b < length ns
    → mem (get_or ns b no_node).id (ids_where ns f) ≡ not (eqb (f b) 0)
unfolding ids_of ids_where
where_bit k [] f b e h = absurd (omega arith)
where_bit k (n ∷ ns) f zero e h =
    go (eqb (f 0) 0)
    (rising_fresh n.id n.id (ids_where ns (λ c. f (suc c)))
    (where_rising n.id ns (λ c. f (suc c)) (rising_tail k n.id (ids_of ns) e)) (omega arith))
  where
    go : (t : Bool) → mem n.id (ids_where ns (λ c. f (suc c))) ≡ false
        → mem n.id (cond t (ids_where ns (λ c. f (suc c))) (n.id ∷ ids_where ns (λ c. f (suc c)))) ≡ not t
    go true r = r
    go false r = mem_head n.id n.id (ids_where ns (λ c. f (suc c))) refl
where_bit k (n ∷ ns) f (suc b) e h =
    go (eqb (f 0) 0) (where_bit n.id ns (λ c. f (suc c)) b (rising_tail k n.id (ids_of ns) e) (omega arith))
    (rising_above n.id (get_or ns b no_node).id (ids_of ns) (rising_tail k n.id (ids_of ns) e) (id_known ns b (omega arith)))
  where
    go : (t : Bool) → mem (get_or ns b no_node).id (ids_where ns (λ c. f (suc c))) ≡ not (eqb (f (suc b)) 0) → n.id < (get_or ns b no_node).id
        → mem (get_or ns b no_node).id (cond t (ids_where ns (λ c. f (suc c))) (n.id ∷ ids_where ns (λ c. f (suc c)))) ≡ not (eqb (f (suc b)) 0)
    go true r l = r
    go false r l = mem-skip (get_or ns b no_node).id n.id (ids_where ns (λ c. f (suc c))) (λ q. omega arith) ∙ r

-- Its bits are those given.
pub where_bits : (k : ℕ) (ns : List Node) (f : ℕ → ℕ) (b : ℕ) → rising_from k (ids_of ns) ≡ true → b < length ns → f b ≤ 1
    → bits_of ns (ids_where ns f) b ≡ f b
unfolding one_if
where_bits k ns f b e h l = ap one_if (where_bit k ns f b e h) ∙ go (eqb (f b) 0) refl
  where
    go : (t : Bool) → eqb (f b) 0 ≡ t → one_if (not t) ≡ f b
    go true q = sym (eqb-true (f b) 0 q)
    go false q = let n = eqb-false (f b) 0 q in omega arith

-- The members of the row with the bits of a row r: the ids of the cluster that r names.
pub where_mem : (ns : List Node) (r : List ℕ) (i : ℕ) → mem i (ids_of ns) ≡ true → mem i r ≡ true → mem i (ids_where ns (bits_of ns r)) ≡ true
unfolding ids_of ids_where one_if
where_mem [] r i m h = m
where_mem (n ∷ ns) r i m h =
    ⊎_elim
    (λ e. ap (λ (t : Bool). mem i (cond (eqb (one_if t) 0) (ids_where ns (bits_of ns r)) (n.id ∷ ids_where ns (bits_of ns r))))
    (subst (λ (x : ℕ). mem x r ≡ true) e h) ∙ mem_head i n.id (ids_where ns (bits_of ns r)) e)
    (λ k. go (mem n.id r) (where_mem ns r i k h)) (mem_cases i n.id (ids_of ns) m)
  where
    go : (t : Bool) → mem i (ids_where ns (bits_of ns r)) ≡ true
        → mem i (cond (eqb (one_if t) 0) (ids_where ns (bits_of ns r)) (n.id ∷ ids_where ns (bits_of ns r))) ≡ true
    go true e = mem_tail i n.id (ids_where ns (bits_of ns r)) e
    go false e = e

-- A rising row of ids of the cluster is told by its bits.
pub where_row : (j k : ℕ) (ns : List Node) (r : List ℕ) → rising_from j (ids_of ns) ≡ true → rising_from k r ≡ true
    → ((i : ℕ) → mem i r ≡ true → mem i (ids_of ns) ≡ true) → ids_where ns (bits_of ns r) ≡ r
unfolding one_if
where_row j k ns r d e h =
    rising_same j k (ids_where ns (bits_of ns r)) r (where_rising j ns (bits_of ns r) d) e
    (λ i. same_test (mem i (ids_where ns (bits_of ns r))) (mem i r) (named i) (λ m. where_mem ns r i (h i m) m))
  where
    named : (i : ℕ) → mem i (ids_where ns (bits_of ns r)) ≡ true → mem i r ≡ true
    named i m =
        let w = known_id ns i (where_known ns (bits_of ns r) i m) in
        subst (λ (x : ℕ). mem x r ≡ true) w.2
        (go (mem (get_or ns w.0 no_node).id r)
        (sym (where_bit j ns (bits_of ns r) w.0 d w.1) ∙ subst (λ (x : ℕ). mem x (ids_where ns (bits_of ns r)) ≡ true) (sym w.2) m))
      where
        go : (t : Bool) → not (eqb (one_if t) 0) ≡ true → t ≡ true
        go true q = refl
        go false q = q
