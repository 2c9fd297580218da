-- The nodes that ids name, by one walk over both: the steps of the walk, and that they are the nodes whose ids stand in the row.
-- Assumes nothing.
use Prim.Native.Nat.{ℕ, suc, ◌+◌, ◌-◌, ◌*◌, ◌^◌, ◌≤◌, ◌<◌, min, max}
use mathlib.Core.Path.{◌≡◌, refl, sym, ap, ap₂, ◌∙◌}
use mathlib.Core.List.{List, [], ◌∷◌}
use mathlib.Core.Bool.{Bool, true, cond}
use mathlib.Core.Logic.{◌⊎◌, inl, inr, ⊎_elim}
use native.Mathlib.Nat.{mul-add, mul_assoc, pow-suc}
use native.Mathlib.Numerals.{add-one}
use native.Mathlib.Omega.{arith}
use lib.Dec.{ltb}
use lib.ListN.{length, take, drop, get_or}
use lib.Seq.{drop-cons, drop-length}
use borrow.Author.Tests.{lt-ltb, le-ltb, eq-eqb, ne_eqb}
use Rattle.sums.specs.ModelSums.{is}
use Rattle.sums.specs.TermsSums.{one_if}
use Rattle.sums.proofs.Sum.{lt_or_ge, is_cases, is_eq, is_ne}
use Rattle.sets.specs.ModelBits.{bit, mask_of, with_of}
use Rattle.sets.proofs.Laws.{bit_le, mask-bit, mask_cong, mask_next, mask-with}
use Rattle.cells.proofs.Cells.{rest_cons, rest-none}
use Rattle.cluster.specs.Terms.{most_nodes, no_node, ids_of, mem, rising_from, ids_in}
use Rattle.incidence.specs.ModelIncidence.{bits_of}
use Rattle.cluster.specs.declared.Node.{Node}
use Rattle.cluster.proofs.Lists.{mem_head, mem-skip, rising_tail, rising_cons, rising_fresh, rising_above}
use Rattle.incidence.proofs.TieRows.{id_known}
use Rattle.masks.specs.ModelMasks.{named_at, named}

-- ---- the steps

-- No ids name no node.
pub named_none : (ns : List Node) → named ns [] ≡ 0
unfolding named named_at
named_none [] = refl
named_none (n ∷ ns) = refl

-- What is left to a walk that is at node b and at cell i of a row that ends at cell `to`.
unfoldable pub left : List Node → ℕ → List ℕ → ℕ → ℕ → ℕ
left ns b l to i = named (drop b ns) (ids_in (take (to - i) (drop i l)))

-- Before the first step all is left.
pub left_all : (ns : List Node) (l : List ℕ) (from to : ℕ) → named ns (ids_in (take (to - from) (drop from l))) ≡ 0 + 2 ^ 0 * left ns 0 l to from
unfolding left
left_all ns l from to = omega arith

-- At the end of the row nothing is left,
pub left_end : (ns : List Node) (b : ℕ) (l : List ℕ) (to i : ℕ) → to ≤ i → left ns b l to i ≡ 0
unfolding left ids_in
left_end ns b l to i h = ap (λ (r : List ℕ). named (drop b ns) (ids_in r)) (rest-none l to i h) ∙ named_none (drop b ns)

-- nor past the nodes.
pub left_past : (ns : List Node) (b : ℕ) (l : List ℕ) (to i : ℕ) → b ≡ length ns → left ns b l to i ≡ 0
unfolding left named
left_past ns b l to i e = ap (λ (r : List Node). named r (ids_in (take (to - i) (drop i l)))) (ap (λ (k : ℕ). drop k ns) e ∙ drop-length ns)

module _ (ns : List Node) (b : ℕ) (l : List ℕ) (to i : ℕ) (inside : i < to) (long : to ≤ length l) where
  -- nor at a 0.
  pub left_zero : get_or l i 0 ≡ 0 → left ns b l to i ≡ 0
  unfolding left ids_in
  left_zero e =
      ap (λ (r : List ℕ). named (drop b ns) (ids_in r)) (rest_cons l to i 0 inside long)
      ∙ (ap (λ (t : Bool). named (drop b ns) (cond t [] (get_or l i 0 ∷ ids_in (take (to - (i + 1)) (drop (i + 1) l))))) (eq-eqb (get_or l i 0) 0 e)
      ∙ named_none (drop b ns))

  module _ (v : ℕ) (node : b < length ns) (own : (get_or ns b no_node).id ≡ v) (some : get_or l i 0 ≡ 0 → ⊥) where
    -- The ids that are left start with that of the cell.
    ids_here : ids_in (take (to - i) (drop i l)) ≡ get_or l i 0 ∷ ids_in (take (to - (i + 1)) (drop (i + 1) l))
    unfolding ids_in
    ids_here =
        ap (λ (r : List ℕ). ids_in r) (rest_cons l to i 0 inside long)
        ∙ ap (λ (t : Bool). cond t [] (get_or l i 0 ∷ ids_in (take (to - (i + 1)) (drop (i + 1) l)))) (ne_eqb (get_or l i 0) 0 some)

    -- What is left, by the id v of the node and the id that the walk is at.
    left_here : left ns b l to i ≡ cond (ltb (get_or l i 0) v) (left ns b l to (i + 1)) (is (get_or l i 0) v + 2 * left ns (b + 1) l to i)
    unfolding left named named_at
    left_here =
        ap₂ (λ (r : List Node) (s : List ℕ). named r s) (drop-cons ns b no_node node) ids_here
        ∙ (ap₂ (λ (r : List Node) (s : List ℕ). cond (ltb (get_or l i 0) (get_or ns b no_node).id) (named r (ids_in (take (to - (i + 1)) (drop (i + 1) l))))
        (is (get_or l i 0) (get_or ns b no_node).id + 2 * named (drop (suc b) ns) s))
        (sym (drop-cons ns b no_node node)) (sym ids_here)
        ∙ ap₂ (λ (u k : ℕ). cond (ltb (get_or l i 0) u) (left ns b l to (i + 1)) (is (get_or l i 0) u + 2 * left ns k l to i)) own (sym (add-one b)))

    -- An id below that of the node is passed.
    pub left_skip : get_or l i 0 < v → left ns b l to i ≡ left ns b l to (i + 1)
    left_skip h =
        left_here
        ∙ ap (λ (t : Bool). cond t (left ns b l to (i + 1)) (is (get_or l i 0) v + 2 * left ns (b + 1) l to i)) (lt-ltb (get_or l i 0) v h)

    -- Else the node is done with.
    pub left_node : v ≤ get_or l i 0 → left ns b l to i ≡ is (get_or l i 0) v + 2 * left ns (b + 1) l to i
    left_node h =
        left_here
        ∙ ap (λ (t : Bool). cond t (left ns b l to (i + 1)) (is (get_or l i 0) v + 2 * left ns (b + 1) l to i)) (le-ltb (get_or l i 0) v h)

-- A number above all members of a mask adds its power of two.
pub with-next : (m b : ℕ) → b < most_nodes → m < 2 ^ b → with_of m b ≡ m + 2 ^ b
with-next m b h l =
    ap (λ (k : ℕ). with_of k b) (sym same)
    ∙ (sym (mask-with f b h (omega (arith, one)))
    ∙ (mask_next f b ∙ omega (arith, same, ap (λ (k : ℕ). min 1 k * 2 ^ b) one)))
  where
    f : ℕ → ℕ
    f j = max (bit m j) (is b j)

    one : f b ≡ 1
    one = omega (arith, bit_le m b, is_eq {a = b} {b = b} refl)

    same : mask_of f b ≡ m
    same = mask_cong f (λ j. bit m j) b (λ j k. omega (arith, is_ne {a = b} {b = j} (λ e. omega arith))) ∙ mask-bit b m l

-- What is left is one digit higher once a node is done with.
higher : (b d k : ℕ) → 2 ^ b * (d + 2 * k) ≡ 2 ^ b * d + 2 ^ (b + 1) * k
higher b d k =
    mul-add (2 ^ b) d (2 * k)
    ∙ ap (λ (x : ℕ). 2 ^ b * d + x) (sym (mul_assoc (2 ^ b) 2 k) ∙ ap (λ (x : ℕ). x * k) (sym (pow-suc 2 b) ∙ ap (λ (x : ℕ). 2 ^ x) (sym (add-one b))))

-- A node that is done with: taken into the mask where its id v is the next one, x, and not else.
pub node_done : (total mask b x v k mask' : ℕ) → b < most_nodes → mask < 2 ^ b → total ≡ mask + 2 ^ b * (is x v + 2 * k)
    → ((x ≡ v) × (mask' ≡ with_of mask b)) ⊎ ((x ≡ v → ⊥) × (mask' ≡ mask)) → (mask' < 2 ^ (b + 1)) × (total ≡ mask' + 2 ^ (b + 1) * k)
node_done total mask b x v k mask' h bound inv (inl w) = (
  omega (arith, w.1, with-next mask b h bound, ap (λ (n : ℕ). 2 ^ n) (add-one b), pow-suc 2 b),
  omega (arith, w.1, with-next mask b h bound, higher b 1 k, inv ∙ ap (λ (d : ℕ). mask + 2 ^ b * (d + 2 * k)) (is_eq w.0)),
)
node_done total mask b x v k mask' h bound inv (inr w) = (
  omega (arith, w.1, ap (λ (n : ℕ). 2 ^ n) (add-one b), pow-suc 2 b),
  omega (arith, w.1, higher b 0 k, inv ∙ ap (λ (d : ℕ). mask + 2 ^ b * (d + 2 * k)) (is_ne w.0)),
)

-- Where nothing is left, the mask is whole.
pub walked : (total mask b k : ℕ) → total ≡ mask + 2 ^ b * k → k ≡ 0 → mask ≡ total
walked total mask b k inv e = omega (arith, inv, ap (λ (x : ℕ). 2 ^ b * x) e)

-- ---- the nodes named

-- Ids below all of the nodes' change no bit.
bits_below : (ns : List Node) (x : ℕ) (xs : List ℕ) → rising_from x (ids_of ns) ≡ true
    → mask_of (bits_of ns (x ∷ xs)) (length ns) ≡ mask_of (bits_of ns xs) (length ns)
bits_below ns x xs e =
    mask_cong (bits_of ns (x ∷ xs)) (bits_of ns xs) (length ns)
    (λ b l. ap one_if (mem-skip (get_or ns b no_node).id x xs (λ q. omega (arith, rising_above x (get_or ns b no_node).id (ids_of ns) e (id_known ns b l)))))

-- Of rising nodes and rising ids, the walk finds the nodes whose ids stand among them.
pub named-bits : (j k : ℕ) (ns : List Node) (r : List ℕ) → rising_from j (ids_of ns) ≡ true → rising_from k r ≡ true
    → named ns r ≡ mask_of (bits_of ns r) (length ns)
unfolding named named_at mask_of mem one_if
named-bits j k [] r d e = refl
named-bits j k (n ∷ ns) r d e = walk (λ s i f. named-bits n.id i ns s (tail d) f) k r e
  where
    tail : rising_from j (ids_of (n ∷ ns)) ≡ true → rising_from n.id (ids_of ns) ≡ true
    tail d = unfold ids_of in rising_tail j n.id (ids_of ns) d

    walk : ((s : List ℕ) (i : ℕ) → rising_from i s ≡ true → named ns s ≡ mask_of (bits_of ns s) (length ns))
        → (i : ℕ) (s : List ℕ) → rising_from i s ≡ true → named (n ∷ ns) s ≡ mask_of (bits_of (n ∷ ns) s) (suc (length ns))
    walk rest i [] f = omega (arith, sym (named_none ns) ∙ rest [] i f)
    walk rest i (x ∷ xs) f =
        ⊎_elim
        (λ h. ap (λ (t : Bool). cond t (named (n ∷ ns) xs) (is x n.id + 2 * named ns (x ∷ xs))) (lt-ltb x n.id h)
        ∙ (walk rest x xs (rising_tail i x xs f)
        ∙ sym (bits_below (n ∷ ns) x xs (unfold ids_of in rising_cons x n.id (ids_of ns) h (tail d)))))
        (λ h. ap (λ (t : Bool). cond t (named (n ∷ ns) xs) (is x n.id + 2 * named ns (x ∷ xs))) (le-ltb x n.id h)
        ∙ ap₂ (λ (u v : ℕ). u + 2 * v) (digit h) (rest (x ∷ xs) i f))
        (lt_or_ge x n.id)
      where
        digit : n.id ≤ x → is x n.id ≡ min 1 (one_if (mem n.id (x ∷ xs)))
        digit h =
            ⊎_elim
            (λ w. w.1 ∙ ap (λ (t : Bool). min 1 (one_if t)) (sym (mem_head n.id x xs (sym w.0))))
            (λ w. w.1
            ∙ ap (λ (t : Bool). min 1 (one_if t))
            (sym (mem-skip n.id x xs (λ q. w.0 (sym q)) ∙ rising_fresh x n.id xs (rising_tail i x xs f) h)))
            (is_cases x n.id)
