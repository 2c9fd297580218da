-- The order of layouts and the order of 0/1 rows: what comes before as bits comes before as ids.
-- Assumes nothing.
use Prim.Native.Nat.{ℕ, zero, suc, ◌≤◌, ◌<◌}
use mathlib.Core.Path.{◌≡◌, refl, sym, ◌∙◌, subst}
use mathlib.Core.List.{List, [], ◌∷◌}
use mathlib.Core.Bool.{true}
use mathlib.Core.Logic.{◌⊎◌, inl, inr}
use native.Mathlib.Omega.{arith}
use lib.ListN.{length}
use Rattle.sums.proofs.Sum.{lt_or_ge}
use Rattle.cells.proofs.Cells.{tab_cong}
use Rattle.exchange.proofs.Agreeing.{SameLayout}
use Rattle.ties.specs.ModelOrder.{Precedes}
use Rattle.ties.proofs.Order.{before_zero}
use Rattle.cluster.specs.Terms.{Topology, partitions, Layout, row, ids_of, rising, rising_from}
use Rattle.cluster.specs.TermsFirst.{RowBefore, Before}
use Rattle.cluster.specs.declared.Node.{Node}
use Rattle.cluster.proofs.Lists.{rising_head, rising_tail}
use Rattle.incidence.specs.ModelIncidence.{ids_where, layout_of}
use Rattle.incidence.proofs.TieRows.{where_out, where_in, where_cong, where_rising}
use Rattle.incidence.proofs.TieLayouts.{length-layout, row-layout}

-- ---- layouts with the same bits

-- Layouts with the same bits are the same.
pub same_layout_lem : (t : Topology) (S T : ℕ → ℕ → ℕ) → SameLayout (partitions t) (length t.nodes) S T → layout_of t S ≡ layout_of t T
unfolding layout_of
same_layout_lem t S T h =
    tab_cong (λ p. ids_where t.nodes (S p)) (λ p. ids_where t.nodes (T p)) (partitions t) (λ p l. where_cong t.nodes (S p) (T p) (h p l))

-- ---- the order

-- A row comes before one as long whose ids are all above its first.
head_before : (n : ℕ) (xs q : List ℕ) → rising_from n q ≡ true → length (n ∷ xs) ≡ length q → RowBefore (n ∷ xs) q
unfolding RowBefore
head_before n xs [] e l = absurd (omega arith)
head_before n xs (y ∷ ys) e l = inl (rising_head n y ys e)

-- The same id before two rows leaves their order.
tail_before : (n : ℕ) (xs ys : List ℕ) → RowBefore xs ys → RowBefore (n ∷ xs) (n ∷ ys)
unfolding RowBefore
tail_before n xs ys h = inr (refl, h)

-- At the first node in which two rows as long as each other differ, the one that has it comes first.
where_before : (k : ℕ) (ns : List Node) (f g : ℕ → ℕ) (b : ℕ) → rising_from k (ids_of ns) ≡ true → b < length ns → ((x : ℕ) → x < b → f x ≡ g x)
    → f b ≡ 1 → g b ≡ 0 → length (ids_where ns f) ≡ length (ids_where ns g) → RowBefore (ids_where ns f) (ids_where ns g)
unfolding ids_of
where_before k [] f g b r l e o z m = absurd (omega arith)
where_before k (n ∷ ns) f g zero r l e o z m =
    let i = where_in n ns f (omega arith) in
    let j = where_out n ns g z in
    rw (i, j)
    (head_before n.id (ids_where ns (λ c. f (suc c))) (ids_where ns (λ c. g (suc c)))
    (where_rising n.id ns (λ c. g (suc c)) (rising_tail k n.id (ids_of ns) r)) (rw (i, j) at m))
where_before k (n ∷ ns) f g (suc b) r l e o z m =
    go (where_before n.id ns (λ c. f (suc c)) (λ c. g (suc c)) b (rising_tail k n.id (ids_of ns) r) (omega arith) (λ x j. e (suc x) (omega arith)) o z)
    (lt_or_ge (f 0) 1)
  where
    go : (length (ids_where ns (λ c. f (suc c))) ≡ length (ids_where ns (λ c. g (suc c))) → RowBefore (ids_where ns (λ c. f (suc c))) (ids_where ns (λ c. g (suc c))))
        → (f 0 < 1) ⊎ (1 ≤ f 0) → RowBefore (ids_where (n ∷ ns) f) (ids_where (n ∷ ns) g)
    go rest (inl h) =
        let i = where_out n ns f (omega arith) in
        let j = where_out n ns g (omega (arith, e 0 (omega arith))) in
        rw (i, j) (rest (rw (i, j) at m))
    go rest (inr h) =
        let i = where_in n ns f h in
        let j = where_in n ns g (omega (arith, e 0 (omega arith))) in
        let q : length (n.id ∷ ids_where ns (λ c. f (suc c))) ≡ length (n.id ∷ ids_where ns (λ c. g (suc c))) = rw (i, j) at m in
        rw (i, j) (tail_before n.id (ids_where ns (λ c. f (suc c))) (ids_where ns (λ c. g (suc c))) (rest (omega (arith, q))))

-- A layout comes first by its first row that differs.
layout-before : (L M : Layout) (p : ℕ) → p < length L → length L ≡ length M → ((q : ℕ) → q < p → row L q ≡ row M q) → RowBefore (row L p) (row M p) → Before L M
unfolding Before
layout-before [] M p l e same h = absurd (omega arith)
layout-before (r ∷ rs) [] p l e same h = absurd (omega arith)
layout-before (r ∷ rs) (q ∷ qs) zero l e same h = inl h
layout-before (r ∷ rs) (q ∷ qs) (suc p) l e same h =
    inr (same 0 (omega arith), layout-before rs qs p (omega arith) (omega arith) (λ i j. same (suc i) (omega arith)) h)

-- What comes before as bits comes before as ids, where rows are as long as each other.
pub ids-before : (t : Topology) → rising (ids_of t.nodes) ≡ true → (S T : ℕ → ℕ → ℕ)
    → ((p : ℕ) → p < partitions t → length (ids_where t.nodes (S p)) ≡ length (ids_where t.nodes (T p)))
    → Precedes (partitions t) (length t.nodes) S T → Before (layout_of t S) (layout_of t T)
ids-before t ids S T long c =
    layout-before (layout_of t S) (layout_of t T) c.p (omega (arith, length-layout t S, c.in_p)) (length-layout t S ∙ sym (length-layout t T)) earlier
    (subst (λ (r : List ℕ). RowBefore r (row (layout_of t T) c.p)) (sym (row-layout t S c.p c.in_p))
    (subst (λ (r : List ℕ). RowBefore (ids_where t.nodes (S c.p)) r) (sym (row-layout t T c.p c.in_p)) here))
  where
    earlier : (q : ℕ) → q < c.p → row (layout_of t S) q ≡ row (layout_of t T) q
    earlier q i =
        let l : q < partitions t = omega (arith, c.in_p) in
        row-layout t S q l
        ∙ (where_cong t.nodes (S q) (T q) (λ b k. sym (c.before q l b k (before_zero c.p c.b q b (inl i)))) ∙ sym (row-layout t T q l))

    here : RowBefore (ids_where t.nodes (S c.p)) (ids_where t.nodes (T c.p))
    here =
        where_before 0 t.nodes (S c.p) (T c.p) c.b ids c.in_b
        (λ x i. sym (c.before c.p c.in_p x (omega (arith, c.in_b)) (before_zero c.p c.b c.p x (inr (refl, i))))) c.has c.lacks
        (long c.p c.in_p)
