-- The ids that the rows name, by rising id, are met one after another by asking for the least id above the last; the copies of each are the cells
-- that hold it.
-- Assumes nothing.
use Prim.Native.Nat.{ℕ, zero, suc, ◌+◌, ◌-◌, ◌*◌, ◌≤◌, ◌<◌}
use mathlib.Core.Path.{◌≡◌, refl, sym, ap, ap₂, ◌∙◌, subst}
use mathlib.Core.Bool.{true, cond}
use mathlib.Core.List.{List, [], ◌∷◌, ◌++◌}
use mathlib.Core.Logic.{◌⊎◌, inl, inr, ⊎_elim}
use native.Mathlib.Nat.{suc-mul}
use native.Mathlib.Omega.{arith}
use lib.Dec.{ltb}
use lib.ListN.{length, take, replicate}
use lib.Seq.{take-add}
use borrow.Author.Tests.{le-leb, lt-leb, lt-ltb, le-ltb, eq-eqb, ne_eqb}
use Rattle.sums.specs.TermsSums.{one_if, tab}
use Rattle.sums.specs.ModelSums.{is}
use Rattle.sums.proofs.Sum.{lt_or_ge, eq_or_ne, is_eq, is_ne}
use Rattle.sums.proofs.Tests.{true_or_false}
use Rattle.cluster.specs.Terms.{row_cells, Layout, row, mem, rising_from, rising, copies_in, row_at, ids_in, rows_in, formed}
use Rattle.cluster.proofs.Lists.{same_test, mem_head, mem-skip, mem_tail, mem-none, mem_cases, rising_head, rising_tail, rising_none, rising_cons, rising_above, rising_fresh}
use Rattle.cell_rows.proofs.CellRows.{formed-rising, formed-cells}
use Rattle.totals.specs.ModelTotals.{nearer_of, least_from, least_above, count_in}
use Rattle.totals.specs.RecordTotals.{with_id, with_ids, ids_named}

-- ---- a rising list with one id more

put-before : (i x : ℕ) (xs : List ℕ) → i < x → with_id i (x ∷ xs) ≡ i ∷ x ∷ xs
unfolding with_id
put-before i x xs h = rw (lt-ltb i x h)

put_there : (i x : ℕ) (xs : List ℕ) → i ≡ x → with_id i (x ∷ xs) ≡ x ∷ xs
unfolding with_id
put_there i x xs e = rw (le-ltb i x (omega arith), eq-eqb i x e)

put-after : (i x : ℕ) (xs : List ℕ) → x < i → with_id i (x ∷ xs) ≡ x ∷ with_id i xs
unfolding with_id
put-after i x xs h = rw (le-ltb i x (omega arith), ne_eqb i x (λ e. omega arith))

-- It rises,
with-rising : (k i : ℕ) (l : List ℕ) → k < i → rising_from k l ≡ true → rising_from k (with_id i l) ≡ true
unfolding with_id
with-rising k i [] h r = rising_cons k i [] h (rising_none i)
with-rising k i (x ∷ xs) h r =
    ⊎_elim (λ l. ap (rising_from k) (put-before i x xs l) ∙ rising_cons k i (x ∷ xs) h (rising_cons i x xs l (rising_tail k x xs r)))
    (λ g. ⊎_elim (λ e. ap (rising_from k) (put_there i x xs e) ∙ r)
    (λ d. ap (rising_from k) (put-after i x xs (omega arith)) ∙ rising_cons k x (with_id i xs) (rising_head k x xs r) (with-rising x i xs (omega arith) (rising_tail k x xs r)))
    (eq_or_ne i x))
    (lt_or_ge i x)

-- and has that id and those that it had.
with-has : (i j : ℕ) (l : List ℕ) → (j ≡ i) ⊎ (mem j l ≡ true) → mem j (with_id i l) ≡ true
unfolding with_id
with-has i j [] h = ⊎_elim (λ e. mem_head j i [] e) (λ m. absurd (mem-none j m)) h
with-has i j (x ∷ xs) h =
    ⊎_elim (λ l. ap (mem j) (put-before i x xs l) ∙ ⊎_elim (λ e. mem_head j i (x ∷ xs) e) (λ m. mem_tail j i (x ∷ xs) m) h)
    (λ g. ⊎_elim (λ e. ap (mem j) (put_there i x xs e) ∙ ⊎_elim (λ q. mem_head j x xs (q ∙ e)) (λ m. m) h)
    (λ d. ap (mem j) (put-after i x xs (omega arith))
    ∙ ⊎_elim (λ e. mem_tail j x (with_id i xs) (with-has i j xs (inl e)))
    (λ m. ⊎_elim (λ e. mem_head j x (with_id i xs) e) (λ t. mem_tail j x (with_id i xs) (with-has i j xs (inr t))) (mem_cases j x xs m)) h)
    (eq_or_ne i x))
    (lt_or_ge i x)

has-with : (i j : ℕ) (l : List ℕ) → mem j (with_id i l) ≡ true → (j ≡ i) ⊎ (mem j l ≡ true)
unfolding with_id
has-with i j [] h = ⊎_elim (λ e. inl e) (λ m. absurd (mem-none j m)) (mem_cases j i [] h)
has-with i j (x ∷ xs) h =
    ⊎_elim (λ l. mem_cases j i (x ∷ xs) (sym (ap (mem j) (put-before i x xs l)) ∙ h))
    (λ g. ⊎_elim (λ e. inr (sym (ap (mem j) (put_there i x xs e)) ∙ h))
    (λ d. ⊎_elim (λ e. inr (mem_head j x xs e)) (λ m. ⊎_elim (λ e. inl e) (λ t. inr (mem_tail j x xs t)) (has-with i j xs m))
    (mem_cases j x (with_id i xs) (sym (ap (mem j) (put-after i x xs (omega arith))) ∙ h)))
    (eq_or_ne i x))
    (lt_or_ge i x)

rows-has : (is : List ℕ) (l : List ℕ) (j : ℕ) → (mem j is ≡ true) ⊎ (mem j l ≡ true) → mem j (with_ids is l) ≡ true
unfolding with_ids
rows-has [] l j h = ⊎_elim (λ m. absurd (mem-none j m)) (λ m. m) h
rows-has (i ∷ is) l j h =
    with-has i j (with_ids is l)
    (⊎_elim (λ m. ⊎_elim (λ e. inl e) (λ t. inr (rows-has is l j (inl t))) (mem_cases j i is m)) (λ m. inr (rows-has is l j (inr m))) h)

has-rows : (is : List ℕ) (l : List ℕ) (j : ℕ) → mem j (with_ids is l) ≡ true → (mem j is ≡ true) ⊎ (mem j l ≡ true)
unfolding with_ids
has-rows [] l j h = inr h
has-rows (i ∷ is) l j h =
    ⊎_elim (λ e. inl (mem_head j i is e)) (λ m. ⊎_elim (λ t. inl (mem_tail j i is t)) (λ t. inr t) (has-rows is l j m)) (has-with i j (with_ids is l) h)

rows-rising : (is : List ℕ) (l : List ℕ) (k : ℕ) → rising_from k is ≡ true → rising l ≡ true → rising (with_ids is l) ≡ true
unfolding with_ids
rows-rising [] l k h r = r
rows-rising (i ∷ is) l k h r = with-rising 0 i (with_ids is l) (omega (arith, rising_head k i is h)) (rows-rising is l i (rising_tail k i is h) r)

-- ---- the ids named

pub named-has : (L : Layout) (i : ℕ) → mem i (ids_named L) ≡ true → 1 ≤ copies_in L i
unfolding ids_named copies_in one_if
named-has [] i h = absurd (mem-none i h)
named-has (r ∷ rs) i h =
    ⊎_elim (λ m. omega (arith, ap one_if m)) (λ m. omega (arith, named-has rs i m)) (has-rows r (ids_named rs) i h)

pub has_named : (L : Layout) (i : ℕ) → 1 ≤ copies_in L i → mem i (ids_named L) ≡ true
unfolding ids_named copies_in one_if
has_named [] i h = absurd (omega arith)
has_named (r ∷ rs) i h =
    ⊎_elim (λ e. rows-has r (ids_named rs) i (inl e)) (λ e. rows-has r (ids_named rs) i (inr (has_named rs i (omega (arith, h, ap one_if e)))))
    (true_or_false (mem i r))

pub named-rising : (L : Layout) → ((p : ℕ) → p < length L → rising (row L p) ≡ true) → rising (ids_named L) ≡ true
unfolding ids_named
named-rising [] h = rising_none 0
named-rising (r ∷ rs) h = rows-rising r (ids_named rs) 0 (h 0 (omega arith)) (named-rising rs (λ p l. h (suc p) (omega arith)))

-- There are no more of them than copies.
with_few : (i : ℕ) (l : List ℕ) → length (with_id i l) ≤ 1 + length l
unfolding with_id
with_few i [] = omega arith
with_few i (x ∷ xs) =
    ⊎_elim (λ l. omega (arith, ap length (put-before i x xs l)))
    (λ g. ⊎_elim (λ e. omega (arith, ap length (put_there i x xs e))) (λ d. omega (arith, ap length (put-after i x xs (omega arith)), with_few i xs)) (eq_or_ne i x))
    (lt_or_ge i x)

rows_few : (is l : List ℕ) → length (with_ids is l) ≤ length is + length l
unfolding with_ids
rows_few [] l = omega arith
rows_few (i ∷ is) l = omega (arith, with_few i (with_ids is l), rows_few is l)

pub named_few : (L : Layout) (R : ℕ) → ((p : ℕ) → p < length L → length (row L p) ≡ R) → length (ids_named L) ≤ length L * R
unfolding ids_named
named_few [] R h = omega arith
named_few (r ∷ rs) R h =
    omega (arith, rows_few r (ids_named rs), h 0 (omega arith), named_few rs R (λ p l. h (suc p) (omega arith)), suc-mul (length rs) R)

-- ---- the next id

-- What the least number above `last` is: none, or one that stands there and is not above another.
pub record Least (last acc : ℕ) (l : List ℕ) (r : ℕ) : Type 0 where
  pub none : r ≡ 0 → (acc ≡ 0) × ((x : ℕ) → mem x l ≡ true → x ≤ last)
  pub there : (r ≡ 0 → ⊥) → (r ≡ acc) ⊎ ((last < r) × (mem r l ≡ true))
  pub below : (x : ℕ) → mem x l ≡ true → last < x → r ≤ x
  pub kept : (acc ≡ 0 → ⊥) → (r ≤ acc) × (r ≡ 0 → ⊥)

pub near-low : (last acc x : ℕ) → x ≤ last → nearer_of last acc x ≡ acc
unfolding nearer_of
near-low last acc x h = rw (le-leb x last h)

pub near_first : (last acc x : ℕ) → last < x → acc ≡ 0 → nearer_of last acc x ≡ x
unfolding nearer_of
near_first last acc x h e = rw (lt-leb x last h, eq-eqb acc 0 e)

pub near-less : (last acc x : ℕ) → last < x → (acc ≡ 0 → ⊥) → x < acc → nearer_of last acc x ≡ x
unfolding nearer_of
near-less last acc x h e l = rw (lt-leb x last h, ne_eqb acc 0 e, lt-ltb x acc l)

pub near-more : (last acc x : ℕ) → last < x → (acc ≡ 0 → ⊥) → acc ≤ x → nearer_of last acc x ≡ acc
unfolding nearer_of
near-more last acc x h e l = rw (lt-leb x last h, ne_eqb acc 0 e, le-ltb x acc l)

-- One number more, where it takes the place of the least so far, and where it does not.
least-taken : (last acc x : ℕ) (xs : List ℕ) (r : ℕ) → last < x → (acc ≡ 0) ⊎ (x ≤ acc) → Least last x xs r → Least last acc (x ∷ xs) r
least-taken last acc x xs r h a w = record {
  none = λ z. absurd ((w.kept (λ q. omega arith)).1 z);
  there = λ z. ⊎_elim (λ e. inr (omega (arith, e), mem_head r x xs e)) (λ p. inr (p.0, mem_tail r x xs p.1)) (w.there z);
  below = λ y m l. ⊎_elim (λ e. omega (arith, e, (w.kept (λ q. omega arith)).0)) (λ t. w.below y t l) (mem_cases y x xs m);
  kept = λ z. (⊎_elim (λ q. absurd (z q)) (λ q. omega (arith, q, (w.kept (λ q. omega arith)).0)) a, (w.kept (λ q. omega arith)).1);
}

least_passed : (last acc x : ℕ) (xs : List ℕ) (r : ℕ) → (x ≤ last) ⊎ ((acc ≡ 0 → ⊥) × (acc ≤ x)) → Least last acc xs r → Least last acc (x ∷ xs) r
least_passed last acc x xs r a w = record {
  none = λ z. let n = w.none z in
      (n.0, λ y m. ⊎_elim (λ e. ⊎_elim (λ q. omega arith) (λ q. absurd (q.0 n.0)) a) (λ t. n.1 y t) (mem_cases y x xs m));
  there = λ z. ⊎_elim (λ e. inl e) (λ p. inr (p.0, mem_tail r x xs p.1)) (w.there z);
  below = λ y m l. ⊎_elim (λ e. ⊎_elim (λ q. absurd (omega arith)) (λ q. omega (arith, e, q.1, (w.kept q.0).0)) a) (λ t. w.below y t l) (mem_cases y x xs m);
  kept = w.kept;
}

pub least-from : (last acc : ℕ) (l : List ℕ) → Least last acc l (least_from last acc l)
unfolding least_from
least-from last acc [] = record {
  none = λ z. (z, λ x m. absurd (mem-none x m));
  there = λ z. inl refl;
  below = λ x m. absurd (mem-none x m);
  kept = λ z. (omega arith, z);
}
least-from last acc (x ∷ xs) =
    ⊎_elim
    (λ l. ⊎_elim
    (λ e. subst (λ (a : ℕ). Least last acc (x ∷ xs) (least_from last a xs)) (sym (near_first last acc x l e))
    (least-taken last acc x xs (least_from last x xs) l (inl e) (least-from last x xs)))
    (λ e. ⊎_elim
    (λ k. subst (λ (a : ℕ). Least last acc (x ∷ xs) (least_from last a xs)) (sym (near-less last acc x l e k))
    (least-taken last acc x xs (least_from last x xs) l (inr (omega arith)) (least-from last x xs)))
    (λ k. subst (λ (a : ℕ). Least last acc (x ∷ xs) (least_from last a xs)) (sym (near-more last acc x l e k))
    (least_passed last acc x xs (least_from last acc xs) (inr (e, k)) (least-from last acc xs)))
    (lt_or_ge x acc))
    (eq_or_ne acc 0))
    (λ g. subst (λ (a : ℕ). Least last acc (x ∷ xs) (least_from last a xs)) (sym (near-low last acc x g))
    (least_passed last acc x xs (least_from last acc xs) (inl g) (least-from last acc xs)))
    (lt_or_ge last x)

-- The ids above `last` of a rising list.
unfoldable pub above : ℕ → List ℕ → List ℕ
above last [] = []
above last (x ∷ xs) = cond (ltb last x) (x ∷ xs) (above last xs)

above_here : (last x : ℕ) (xs : List ℕ) → last < x → above last (x ∷ xs) ≡ x ∷ xs
unfolding above
above_here last x xs h = rw (lt-ltb last x h)

above_on : (last x : ℕ) (xs : List ℕ) → x ≤ last → above last (x ∷ xs) ≡ above last xs
unfolding above
above_on last x xs h = rw (le-ltb last x h)

pub above_all : (N : List ℕ) → rising N ≡ true → above 0 N ≡ N
unfolding above
above_all [] h = refl
above_all (x ∷ xs) h = above_here 0 x xs (rising_head 0 x xs h)

above_none : (last : ℕ) (N : List ℕ) → ((x : ℕ) → mem x N ≡ true → x ≤ last) → above last N ≡ []
unfolding above
above_none last [] h = refl
above_none last (x ∷ xs) h = above_on last x xs (h x (mem_head x x xs refl)) ∙ above_none last xs (λ y m. h y (mem_tail y x xs m))

-- The first above `last` is r, where r stands there and no other above `last` is below it.
above_first : (k last r : ℕ) (N : List ℕ) → rising_from k N ≡ true → mem r N ≡ true → last < r → ((x : ℕ) → mem x N ≡ true → last < x → r ≤ x)
    → above last N ≡ r ∷ above r N
unfolding above
above_first k last r [] h m l b = absurd (mem-none r m)
above_first k last r (x ∷ xs) h m l b =
    ⊎_elim
    (λ q. let e : r ≡ x = ⊎_elim (λ e. e) (λ t. absurd (omega (arith, rising_above x r xs (rising_tail k x xs h) t, b x (mem_head x x xs refl) q))) (mem_cases r x xs m) in
    above_here last x xs q
    ∙ (ap (λ (y : ℕ). y ∷ xs) (sym e)
    ∙ ap (λ (ys : List ℕ). r ∷ ys) (sym (above_on r x xs (omega arith) ∙ above_tail x r xs (rising_tail k x xs h) (omega arith)))))
    (λ g. let t : mem r xs ≡ true = ⊎_elim (λ e. absurd (omega arith)) (λ t. t) (mem_cases r x xs m) in
    above_on last x xs g
    ∙ (above_first x last r xs (rising_tail k x xs h) t l (λ y n. b y (mem_tail y x xs n))
    ∙ ap (λ (ys : List ℕ). r ∷ ys) (sym (above_on r x xs (omega (arith, rising_above x r xs (rising_tail k x xs h) t))))))
    (lt_or_ge last x)
  where
    above_tail : (z s : ℕ) (ys : List ℕ) → rising_from z ys ≡ true → s ≤ z → above s ys ≡ ys
    above_tail z s [] c d = refl
    above_tail z s (y ∷ ys) c d = above_here s y ys (omega (arith, rising_head z y ys c))

-- It is above `last`.
pub least-up : (last : ℕ) (l : List ℕ) → (least_above last l ≡ 0 → ⊥) → last < least_above last l
unfolding least_above
least-up last l e = ⊎_elim (λ q. absurd (e q)) (λ p. p.0) ((least-from last 0 l).there e)

-- Cells in which the same ids stand as in a rising list N: asked for the least id above `last`, they tell the next id of N.
module _ (l N : List ℕ) (rises : rising N ≡ true) (same : (i : ℕ) → 1 ≤ i → mem i l ≡ mem i N) where
  pub next-none : (last : ℕ) → least_above last l ≡ 0 → above last N ≡ []
  unfolding least_above
  next-none last e =
      above_none last N (λ x m. ((least-from last 0 l).none e).1 x (same x (omega (arith, rising_above 0 x N rises m)) ∙ m))

  pub next-some : (last : ℕ) → (least_above last l ≡ 0 → ⊥) → above last N ≡ least_above last l ∷ above (least_above last l) N
  unfolding least_above
  next-some last e =
      let r = least_from last 0 l in
      let w = least-from last 0 l in
      let t : (last < r) × (mem r l ≡ true) = ⊎_elim (λ q. absurd (e q)) (λ p. p) (w.there e) in
      above_first 0 last r N rises (sym (same r (omega (arith, t.0))) ∙ t.1) t.0
      (λ x m q. w.below x (same x (omega arith) ∙ m) q)

-- ---- the copies

count-append : (i : ℕ) (k l : List ℕ) → count_in i (k ++ l) ≡ count_in i k + count_in i l
unfolding count_in
count-append i [] l = omega arith
count-append i (x ∷ xs) l = omega (arith, count-append i xs l)

count_zeros : (i n : ℕ) → 1 ≤ i → count_in i (replicate n 0) ≡ 0
unfolding count_in
count_zeros i zero h = refl
count_zeros i (suc n) h = omega (arith, count_zeros i n h, is_ne {a = 0} {b = i} (λ e. omega arith))

count-rising : (k i : ℕ) (l : List ℕ) → rising_from k l ≡ true → count_in i l ≡ one_if (mem i l)
unfolding count_in one_if mem
count-rising k i [] h = refl
count-rising k i (x ∷ xs) h =
    ⊎_elim
    (λ e. omega (
      arith,
      is_eq {a = x} {b = i} e,
      count-rising x i xs (rising_tail k x xs h),
      ap one_if (rising_fresh x i xs (rising_tail k x xs h) (omega arith)),
      ap one_if (mem_head i x xs (sym e)),
    ))
    (λ d. omega (arith, is_ne {a = x} {b = i} d, count-rising x i xs (rising_tail k x xs h), ap one_if (mem-skip i x xs (λ q. d (sym q)))))
    (eq_or_ne x i)

count-row : (i : ℕ) (l : List ℕ) → 1 ≤ i → formed l ≡ true → count_in i l ≡ one_if (mem i (ids_in l))
count-row i l h f =
    ap (count_in i) (formed-cells 0 l f)
    ∙ omega (arith, count-append i (ids_in l) (replicate (length l - length (ids_in l)) 0), count_zeros i (length l - length (ids_in l)) h, count-rising 0 i (ids_in l) (formed-rising 0 l f))

copies-last : (L : Layout) (r : List ℕ) (i : ℕ) → copies_in (L ++ (r ∷ [])) i ≡ copies_in L i + one_if (mem i r)
unfolding copies_in
copies-last [] r i = omega arith
copies-last (x ∷ xs) r i = omega (arith, copies-last xs r i)

-- The cells that hold an id are its copies in the rows.
pub count-copies : (cells : List ℕ) (i n : ℕ) → 1 ≤ i → ((p : ℕ) → p < n → formed (row_at cells p) ≡ true)
    → count_in i (take (n * row_cells) cells) ≡ copies_in (rows_in n cells) i
unfolding rows_in tab count_in copies_in
count-copies cells i zero h f = refl
count-copies cells i (suc n) h f =
    let e : suc n * row_cells ≡ n * row_cells + row_cells = omega arith in
    ap (λ (k : ℕ). count_in i (take k cells)) e
    ∙ (ap (count_in i) (take-add (n * row_cells) row_cells cells)
    ∙ (count-append i (take (n * row_cells) cells) (row_at cells n)
    ∙ (ap₂ ◌+◌ (count-copies cells i n h (λ p l. f p (omega arith))) (count-row i (row_at cells n) h (f n (omega arith)))
    ∙ sym (copies-last (rows_in n cells) (ids_in (row_at cells n)) i))))

count-mem : (i : ℕ) (l : List ℕ) → (1 ≤ count_in i l → mem i l ≡ true) × (mem i l ≡ true → 1 ≤ count_in i l)
unfolding count_in
count-mem i [] = (λ h. absurd (omega arith), λ m. absurd (mem-none i m))
count-mem i (x ∷ xs) = (
  λ h. ⊎_elim (λ e. mem_head i x xs (sym e)) (λ d. mem_tail i x xs ((count-mem i xs).0 (omega (arith, is_ne {a = x} {b = i} d)))) (eq_or_ne x i),
  λ m. ⊎_elim (λ e. omega (arith, is_eq {a = x} {b = i} (sym e))) (λ t. omega (arith, (count-mem i xs).1 t)) (mem_cases i x xs m),
)

-- The cells of the rows have the ids that the rows name.
pub cells-named : (cells : List ℕ) (n : ℕ) → ((p : ℕ) → p < n → formed (row_at cells p) ≡ true)
    → (i : ℕ) → 1 ≤ i → mem i (take (n * row_cells) cells) ≡ mem i (ids_named (rows_in n cells))
cells-named cells n f i h =
    let l = take (n * row_cells) cells in
    let e = count-copies cells i n h f in
    same_test (mem i l) (mem i (ids_named (rows_in n cells))) (λ m. has_named (rows_in n cells) i (omega (arith, e, (count-mem i l).1 m)))
    (λ m. (count-mem i l).0 (omega (arith, e, named-has (rows_in n cells) i m)))
