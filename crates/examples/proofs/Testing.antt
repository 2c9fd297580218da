-- The tests mean the terms: validity, both ways; acceptance, former layouts and the order, from the test to the term.
-- Assumes nothing.
use Prim.Native.Nat.{ℕ, zero, suc, ◌*◌, ◌≤◌, ◌<◌}
use mathlib.Core.Path.{◌≡◌, refl, ap, ap₂, ◌∙◌}
use mathlib.Core.Bool.{Bool, true, false, ◌&&◌, ◌||◌, false≢true}
use mathlib.Core.Logic.{◌⊎◌, inl, inr, ⊎_elim}
use mathlib.Core.List.{List, [], ◌∷◌}
use native.Mathlib.Nat.{mul-le-mul_left}
use native.Mathlib.Omega.{arith}
use lib.Dec.{ltb, leb, eqb}
use lib.ListN.{length, get_or}
use borrow.Author.Tests.{ltb-true, lt-ltb, leb-true, le-leb, eqb-true, eq-eqb}
use Rattle.cluster.proofs.Taking.{takes-held}
use Rattle.cluster.specs.Terms.{most_bits, most_copies, most_nodes, most_ceiling, Topology, partitions, no_node, node_at, ids_of, mem, rising, zones_of, Layout, row, copies_in, ValidRow, usable, ValidAt, IsFormer}
use Rattle.cluster.specs.TermsReading.{Accepted}
use Rattle.cluster.specs.TermsFirst.{RowBefore, Before}
use Rattle.cluster.specs.declared.Node.{Node}
use Rattle.sums.proofs.Tests.{both}
use Rattle.cluster.proofs.Lists.{mem_head, mem_tail, mem-none, mem_cases}
use Rattle.examples.specs.ModelExamples.{every, row_test, node_test, valid_test, accepted_test, former_row_test, former_test, same_row, same_layout, row_before_test, before_test}

-- ---- tests over a list

-- A test of all holds at each index,
every-at : {A : Type 0} (f : A → Bool) (l : List A) (d : A) → every f l ≡ true → (i : ℕ) → i < length l → f (get_or l i d) ≡ true
unfolding every
every-at f [] d h i l = absurd (omega arith)
every-at f (x ∷ xs) d h zero l = (both (f x) (every f xs) h).0
every-at f (x ∷ xs) d h (suc i) l = every-at f xs d (both (f x) (every f xs) h).1 i (omega arith)

-- and a test that holds at each index holds of all.
at_every : {A : Type 0} (f : A → Bool) (l : List A) (d : A) → ((i : ℕ) → i < length l → f (get_or l i d) ≡ true) → every f l ≡ true
unfolding every
at_every f [] d h = refl
at_every f (x ∷ xs) d h = ap₂ ◌&&◌ (h zero (omega arith)) (at_every f xs d (λ i l. h (suc i) (omega arith)))

-- The same by members, of a list of numbers.
every-member : (f : ℕ → Bool) (r : List ℕ) → every f r ≡ true → (i : ℕ) → mem i r ≡ true → f i ≡ true
unfolding every
every-member f [] h i m = absurd (mem-none i m)
every-member f (x ∷ xs) h i m =
    let a = both (f x) (every f xs) h in
    ⊎_elim (λ e. ap f e ∙ a.0) (λ n. every-member f xs a.1 i n) (mem_cases i x xs m)

member-every : (f : ℕ → Bool) (r : List ℕ) → ((i : ℕ) → mem i r ≡ true → f i ≡ true) → every f r ≡ true
unfolding every
member-every f [] h = refl
member-every f (x ∷ xs) h = ap₂ ◌&&◌ (h x (mem_head x x xs refl)) (member-every f xs (λ i m. h i (mem_tail i x xs m)))

-- ---- validity

row_valid : (t : Topology) (r : List ℕ) → row_test t r ≡ true → ValidRow t r
unfolding row_test
row_valid t r h =
    let a = both (rising r) _ h in
    let b = both (eqb (length r) t.replication) _ a.1 in
    let c = both (every (λ (i : ℕ). mem i (ids_of t.nodes)) r) _ b.1 in
    record {
      ids = a.0;
      many = eqb-true (length r) t.replication b.0;
      known = every-member (λ (i : ℕ). mem i (ids_of t.nodes)) r c.0;
      zones = leb-true t.redundancy (zones_of t.nodes r) c.1;
    }

valid_row : (t : Topology) (r : List ℕ) → ValidRow t r → row_test t r ≡ true
unfolding row_test
valid_row t r v =
    ap₂ ◌&&◌ v.ids
    (ap₂ ◌&&◌ (eq-eqb (length r) t.replication v.many)
    (ap₂ ◌&&◌ (member-every (λ (i : ℕ). mem i (ids_of t.nodes)) r v.known) (le-leb t.redundancy (zones_of t.nodes r) v.zones)))

-- What passes the test is valid,
pub test_valid : (t : Topology) (L : Layout) (s : ℕ) → valid_test t L s ≡ true → ValidAt t L s
unfolding valid_test node_test
test_valid t L s h =
    let a = both (ltb 0 s) _ h in
    let b = both (eqb (length L) (partitions t)) _ a.1 in
    let c = both (every (row_test t) L) (every (node_test L s) t.nodes) b.1 in
    let e : length L ≡ partitions t = eqb-true (length L) (partitions t) b.0 in
    record {
      positive = ltb-true 0 s a.0;
      partition_rows = e;
      rows = λ p l. row_valid t (row L p) (every-at (row_test t) L [] c.0 p (omega (arith, e)));
      capacities = λ b l. (held c.1 b l).0;
      ceilings = λ b l. (held c.1 b l).1;
    }
  where
    held : every (node_test L s) t.nodes ≡ true → (b : ℕ) → b < length t.nodes
        → (copies_in L (node_at t b).id * s ≤ usable (node_at t b)) × (copies_in L (node_at t b).id ≤ (node_at t b).ceiling)
    held e b l = (takes-held (node_at t b) (copies_in L (node_at t b).id) s).0 (every-at (node_test L s) t.nodes no_node e b l)

-- and what is valid passes it.
pub valid_test_lem : (t : Topology) (L : Layout) (s : ℕ) → ValidAt t L s → valid_test t L s ≡ true
unfolding valid_test node_test
valid_test_lem t L s v =
    ap₂ ◌&&◌ (lt-ltb 0 s v.positive)
    (ap₂ ◌&&◌ (eq-eqb (length L) (partitions t) v.partition_rows)
    (ap₂ ◌&&◌ (at_every (row_test t) L [] (λ p l. valid_row t (row L p) (v.rows p (omega (arith, v.partition_rows)))))
    (at_every (node_test L s) t.nodes no_node
    (λ b l. (takes-held (node_at t b) (copies_in L (node_at t b).id) s).1 (v.capacities b l, v.ceilings b l)))))

-- What is valid at a size is valid at each smaller one.
pub valid_below : (t : Topology) (L : Layout) (s s' : ℕ) → 1 ≤ s → s ≤ s' → ValidAt t L s' → ValidAt t L s
valid_below t L s s' one le v = record {
  positive = one;
  partition_rows = v.partition_rows;
  rows = v.rows;
  capacities = λ b l. omega (arith, v.capacities b l, mul-le-mul_left (copies_in L (node_at t b).id) le);
  ceilings = v.ceilings;
}

-- ---- acceptance, and the former layout

-- Nodes that pass have no ceiling above 256, nor has a slot not in use.
ceilings_low : (l : List Node) → every (λ (n : Node). leb n.ceiling most_ceiling) l ≡ true → (b : ℕ) → (get_or l b no_node).ceiling ≤ most_ceiling
unfolding every
ceilings_low [] h b = omega arith
ceilings_low (n ∷ ns) h zero = leb-true n.ceiling most_ceiling (both (leb n.ceiling most_ceiling) _ h).0
ceilings_low (n ∷ ns) h (suc b) = ceilings_low ns (both (leb n.ceiling most_ceiling) _ h).1 b

pub test_accepted : (t : Topology) → accepted_test t ≡ true → Accepted t
unfolding accepted_test
test_accepted t h =
    let a = both (leb t.bits most_bits) _ h in
    let b = both (ltb 0 t.replication) _ a.1 in
    let c = both (leb t.replication most_copies) _ b.1 in
    let d = both (ltb 0 t.redundancy) _ c.1 in
    let e = both (leb t.redundancy t.replication) _ d.1 in
    let f = both (leb (length t.nodes) most_nodes) _ e.1 in
    let g = both (rising (ids_of t.nodes)) _ f.1 in
    record {
      bits = leb-true t.bits most_bits a.0;
      replication = (ltb-true 0 t.replication b.0, leb-true t.replication most_copies c.0);
      redundancy = (ltb-true 0 t.redundancy d.0, leb-true t.redundancy t.replication e.0);
      few = leb-true (length t.nodes) most_nodes f.0;
      ids = g.0;
      ceilings = ceilings_low t.nodes g.1;
    }

pub test_former : (t : Topology) (F : Layout) → former_test t F ≡ true → IsFormer t F
unfolding former_test former_row_test
test_former t F h =
    let a = both (eqb (length F) (partitions t)) (every former_row_test F) h in
    let e : length F ≡ partitions t = eqb-true (length F) (partitions t) a.0 in
    let each : (p : ℕ) → p < partitions t → (rising (row F p) ≡ true) × (leb (length (row F p)) most_copies ≡ true) = λ p l.
    both (rising (row F p)) (leb (length (row F p)) most_copies) (every-at former_row_test F [] a.1 p (omega (arith, e))) in
    record {
      partition_rows = e;
      ids = λ p l. (each p l).0;
      few = λ p l. leb-true (length (row F p)) most_copies (each p l).1;
    }

-- ---- the same

-- Rows that pass are equal ..
same_row_lem : (r q : List ℕ) → same_row r q ≡ true → r ≡ q
unfolding same_row
same_row_lem [] [] h = refl
same_row_lem [] (y ∷ ys) h = absurd (false≢true h)
same_row_lem (x ∷ xs) [] h = absurd (false≢true h)
same_row_lem (x ∷ xs) (y ∷ ys) h =
    let a = both (eqb x y) (same_row xs ys) h in
    ap₂ (λ (i : ℕ) (l : List ℕ). i ∷ l) (eqb-true x y a.0) (same_row_lem xs ys a.1)

-- .. and so are layouts.
same_layout_lem : (L M : Layout) → same_layout L M ≡ true → L ≡ M
unfolding same_layout
same_layout_lem [] [] h = refl
same_layout_lem [] (q ∷ qs) h = absurd (false≢true h)
same_layout_lem (r ∷ rs) [] h = absurd (false≢true h)
same_layout_lem (r ∷ rs) (q ∷ qs) h =
    let a = both (same_row r q) (same_layout rs qs) h in
    ap₂ (λ (i : List ℕ) (l : Layout). i ∷ l) (same_row_lem r q a.0) (same_layout_lem rs qs a.1)

-- ---- the order

-- One of two tests holds.
either : (a b : Bool) → a || b ≡ true → (a ≡ true) ⊎ (b ≡ true)
either true b h = inl refl
either false b h = inr h

-- A row that passes comes before the other ..
row_before : (r q : List ℕ) → row_before_test r q ≡ true → RowBefore r q
unfolding row_before_test RowBefore
row_before [] q h = absurd (false≢true h)
row_before (x ∷ xs) [] h = absurd (false≢true h)
row_before (x ∷ xs) (y ∷ ys) h =
    ⊎_elim (λ a. inl (ltb-true x y a))
    (λ a. let b = both (eqb x y) (row_before_test xs ys) a in inr (eqb-true x y b.0, row_before xs ys b.1))
    (either (ltb x y) (eqb x y && row_before_test xs ys) h)

-- .. and so does a layout.
before-layout : (L M : Layout) → before_test L M ≡ true → Before L M
unfolding before_test Before
before-layout [] M h = absurd (false≢true h)
before-layout (r ∷ rs) [] h = absurd (false≢true h)
before-layout (r ∷ rs) (q ∷ qs) h =
    ⊎_elim (λ a. inl (row_before r q a))
    (λ a. let b = both (same_row r q) (before_test rs qs) a in inr (same_row_lem r q b.0, before-layout rs qs b.1))
    (either (row_before_test r q) (same_row r q && before_test rs qs) h)

-- A layout that passes is the other or comes before it.
pub test_before : (L M : Layout) → same_layout L M || before_test L M ≡ true → (L ≡ M) ⊎ Before L M
test_before L M h = ⊎_elim (λ a. inl (same_layout_lem L M a)) (λ a. inr (before-layout L M a)) (either (same_layout L M) (before_test L M) h)
