-- The first of the layouts of a weight, as a function: it is one of them, and the first; and what is the first is it.
-- Assumes nothing.
use Prim.Native.Nat.{ℕ, zero, suc, ◌+◌, ◌*◌, ◌/◌, ◌%◌, ◌≤◌, ◌<◌}
use mathlib.Core.Path.{◌≡◌, refl, sym, ap, ap₂, ◌∙◌, subst}
use mathlib.Core.Bool.{Bool, true, false, cond, ◌&&◌, false≢true}
use mathlib.Core.Logic.{inl, inr, ⊎_elim}
use native.Mathlib.Omega.{arith}
use lib.Dec.{leb, eqb}
use borrow.Author.Tests.{eq-eqb, ne_eqb, eqb-true, leb-true, le-leb}
use Rattle.sums.specs.TermsSums.{sum_to, every_to}
use Rattle.sums.proofs.Sum.{lt_or_ge}
use Rattle.sums.proofs.Tests.{both, every-at, every-all}
use Rattle.exchange.specs.ModelRow.{weigh, cover, copies}
use Rattle.exchange.proofs.Agreeing.{SameLayout, same_layout_sym, within_cong, weigh_cong}
use Rattle.ties.specs.ModelOrder.{Nearest, Precedes, Foremost, append, digit, strip, number, numbered, numbers, largest, is_nearest, first_of}
use Rattle.ties.proofs.Order.{before_zero, compare}

-- ---- digits

-- The same digits after the same number.
append_cong : (n : ℕ) (f g : ℕ → ℕ) (v u : ℕ) → ((i : ℕ) → i < n → f i ≡ g i) → v ≡ u → append n f v ≡ append n g u
unfolding append
append_cong zero f g v u h e = e
append_cong (suc n) f g v u h e =
    ap₂ (λ (a b : ℕ). 2 * a + b) (append_cong n f g v u (λ i l. h i (omega arith)) e) (h n (omega arith))

-- A smaller number stays smaller with digits after it.
append_lt : (n : ℕ) (f g : ℕ → ℕ) (v u : ℕ) → ((i : ℕ) → i < n → f i ≤ 1) → v < u → append n f v < append n g u
unfolding append
append_lt zero f g v u h l = l
append_lt (suc n) f g v u h l = omega (arith, append_lt n f g v u (λ i k. h i (omega arith)) l, h n (omega arith))

-- Digits decide at the first one that differs.
append-first : (n k : ℕ) (f g : ℕ → ℕ) (v : ℕ) → ((i : ℕ) → i < n → f i ≤ 1) → k < n → ((i : ℕ) → i < k → f i ≡ g i) → f k ≡ 0
    → g k ≡ 1
    → append n f v < append n g v
unfolding append
append-first zero k f g v h l e z o = absurd (omega arith)
append-first (suc n) k f g v h l e z o =
    ⊎_elim (λ i. omega (arith, append-first n k f g v (λ i k. h i (omega arith)) i e z o, h n (omega arith)))
    (λ i. let q : k ≡ n = omega arith in
    omega (arith, append_cong n f g v v (λ j m. e j (omega arith)) refl, ap f q, ap g q)) (lt_or_ge k n)

-- A digit is 0 or 1.
digit_le : (n m i : ℕ) → digit n m i ≤ 1
unfolding digit
digit_le zero m i = omega arith
digit_le (suc n) m i = go (eqb i n) (digit_le n (m / 2) i)
  where
    go : (t : Bool) → digit n (m / 2) i ≤ 1 → cond t (m % 2) (digit n (m / 2) i) ≤ 1
    go true h = omega arith
    go false h = h

-- The last digit.
digit-last : (n m : ℕ) → digit (suc n) m n ≡ m % 2
unfolding digit
digit-last n m = rw (eq-eqb n n refl)

-- A digit before it.
digit_other : (n m i : ℕ) → (i ≡ n → ⊥) → digit (suc n) m i ≡ digit n (m / 2) i
unfolding digit
digit_other n m i h = rw (ne_eqb i n h)

-- Half of a number is that without its last digit.
append_half : (n : ℕ) (f : ℕ → ℕ) (v : ℕ) → f n ≤ 1 → (2 * append n f v + f n) / 2 ≡ append n f v
append_half n f v h = omega arith

-- The digits that were appended, read again.
digit-append : (n : ℕ) (f : ℕ → ℕ) (v : ℕ) → ((i : ℕ) → i < n → f i ≤ 1) → (i : ℕ) → i < n → digit n (append n f v) i ≡ f i
unfolding append
digit-append zero f v h i l = absurd (omega arith)
digit-append (suc n) f v h i l =
    ⊎_elim
    (λ k. digit_other n (2 * append n f v + f n) i (λ e. omega arith)
    ∙ (ap (λ (m : ℕ). digit n m i) (append_half n f v (h n (omega arith))) ∙ digit-append n f v (λ i l. h i (omega arith)) i k))
    (λ k. let e : i ≡ n = omega arith in
    ap (λ (j : ℕ). digit (suc n) (2 * append n f v + f n) j) e
    ∙ (digit-last n (2 * append n f v + f n) ∙ omega (arith, h n (omega arith), ap f e)))
    (lt_or_ge i n)

-- What was before them, again.
strip-append : (n : ℕ) (f : ℕ → ℕ) (v : ℕ) → ((i : ℕ) → i < n → f i ≤ 1) → strip n (append n f v) ≡ v
unfolding append strip
strip-append zero f v h = refl
strip-append (suc n) f v h = ap (strip n) (append_half n f v (h n (omega arith))) ∙ strip-append n f v (λ i l. h i (omega arith))

-- A number is what its last digits are appended to.
append-digits : (n m : ℕ) → append n (digit n m) (strip n m) ≡ m
unfolding append strip
append-digits zero m = refl
append-digits (suc n) m =
    omega (
      arith,
      append_cong n (digit (suc n) m) (digit n (m / 2)) (strip n (m / 2)) (strip n (m / 2))
          (λ i l. digit_other n m i (λ e. omega arith)) refl,
      append-digits n (m / 2),
      digit-last n m,
    )

-- ---- numbers of layouts

-- A layout of zeros and ones.
abbrev Bits : ℕ → ℕ → (ℕ → ℕ → ℕ) → Type 0
Bits P N S = (p : ℕ) → p < P → (b : ℕ) → b < N → S p b ≤ 1

-- The same layouts have the same number.
number_cong : (P N : ℕ) (S T : ℕ → ℕ → ℕ) → SameLayout P N S T → number P N S ≡ number P N T
unfolding number
number_cong zero N S T h = refl
number_cong (suc P) N S T h =
    append_cong N (S P) (T P) (number P N S) (number P N T) (h P (omega arith)) (number_cong P N S T (λ p l. h p (omega arith)))

-- The number of a layout is one of those there are.
number_lt : (P N : ℕ) (S : ℕ → ℕ → ℕ) → Bits P N S → number P N S < numbers P N
unfolding number numbers
number_lt zero N S h = omega arith
number_lt (suc P) N S h =
    append_lt N (S P) (λ i. 0) (number P N S) (numbers P N) (h P (omega arith)) (number_lt P N S (λ p l. h p (omega arith)))

-- A layout that has the first pair where the two differ has the larger number.
precedes_number : (P N : ℕ) (S T : ℕ → ℕ → ℕ) → Bits P N T → (p b : ℕ) → p < P → b < N → S p b ≡ 1 → T p b ≡ 0
    → ((q : ℕ) → q < p → (x : ℕ) → x < N → T q x ≡ S q x) → ((x : ℕ) → x < b → T p x ≡ S p x) → number P N T < number P N S
unfolding number
precedes_number zero N S T h p b l k o z rows row = absurd (omega arith)
precedes_number (suc P) N S T h p b l k o z rows row =
    ⊎_elim
    (λ i. append_lt N (T P) (S P) (number P N T) (number P N S) (h P (omega arith))
    (precedes_number P N S T (λ q j. h q (omega arith)) p b i k o z rows row))
    (λ i. let e : p ≡ P = omega arith in
    subst (λ (v : ℕ). append N (T P) (number P N T) < append N (S P) v) (number_cong P N T S (λ q j. rows q (omega arith)))
    (append-first N b (T P) (S P) (number P N T) (h P (omega arith)) k
    (λ x j. ap (λ (t : ℕ). T t x) (sym e) ∙ (row x j ∙ ap (λ (t : ℕ). S t x) e))
    (ap (λ (t : ℕ). T t b) (sym e) ∙ z) (ap (λ (t : ℕ). S t b) (sym e) ∙ o)))
    (lt_or_ge p P)

-- What comes before has the larger number.
pub precedes_larger : (P N : ℕ) (S T : ℕ → ℕ → ℕ) → Bits P N T → Precedes P N S T → number P N T < number P N S
precedes_larger P N S T h c =
    precedes_number P N S T h c.p c.b c.in_p c.in_b c.has c.lacks
    (λ q i x j. c.before q (omega (arith, c.in_p)) x j (before_zero c.p c.b q x (inl i)))
    (λ x i. c.before c.p c.in_p x (omega (arith, c.in_b)) (before_zero c.p c.b c.p x (inr (refl, i))))

-- The layout of a number is one of zeros and ones.
numbered_le : (P N m p b : ℕ) → numbered P N m p b ≤ 1
unfolding numbered
numbered_le zero N m p b = omega arith
numbered_le (suc P) N m p b = go (eqb p P) (numbered_le P N (strip N m) p b)
  where
    go : (t : Bool) → numbered P N (strip N m) p b ≤ 1 → cond t (digit N m b) (numbered P N (strip N m) p b) ≤ 1
    go true h = digit_le N m b
    go false h = h

-- Its last row.
numbered-last : (P N m b : ℕ) → numbered (suc P) N m P b ≡ digit N m b
unfolding numbered
numbered-last P N m b = rw (eq-eqb P P refl)

-- A row before it.
numbered_other : (P N m p b : ℕ) → (p ≡ P → ⊥) → numbered (suc P) N m p b ≡ numbered P N (strip N m) p b
unfolding numbered
numbered_other P N m p b h = rw (ne_eqb p P h)

-- A layout is that of its number.
numbered-number : (P N : ℕ) (S : ℕ → ℕ → ℕ) → Bits P N S → SameLayout P N (numbered P N (number P N S)) S
unfolding number
numbered-number zero N S h p l b k = absurd (omega arith)
numbered-number (suc P) N S h p l b k =
    ⊎_elim
    (λ i. numbered_other P N (append N (S P) (number P N S)) p b (λ e. omega arith)
    ∙ (ap (λ (m : ℕ). numbered P N m p b) (strip-append N (S P) (number P N S) (h P (omega arith)))
    ∙ numbered-number P N S (λ q j. h q (omega arith)) p i b k))
    (λ i. let e : p ≡ P = omega arith in
    ap (λ (t : ℕ). numbered (suc P) N (append N (S P) (number P N S)) t b) e
    ∙ (numbered-last P N (append N (S P) (number P N S)) b
    ∙ (digit-append N (S P) (number P N S) (h P (omega arith)) b k ∙ ap (λ (t : ℕ). S t b) (sym e))))
    (lt_or_ge p P)

-- A small number is small without its last digits.
strip_lt : (n m u : ℕ) → m < append n (λ i. 0) u → strip n m < u
unfolding append strip
strip_lt zero m u l = l
strip_lt (suc n) m u l = strip_lt n (m / 2) u (omega arith)

-- A number is that of its layout.
number-numbered : (P N m : ℕ) → m < numbers P N → number P N (numbered P N m) ≡ m
unfolding number numbers
number-numbered zero N m l = omega arith
number-numbered (suc P) N m l =
    append_cong N (numbered (suc P) N m P) (digit N m) (number P N (numbered (suc P) N m)) (strip N m) (λ b k. numbered-last P N m b)
    (number_cong P N (numbered (suc P) N m) (numbered P N (strip N m)) (λ p k b j. numbered_other P N m p b (λ e. omega arith))
    ∙ number-numbered P N (strip N m) (strip_lt N m (numbers P N) l))
    ∙ append-digits N m

-- ---- the largest

-- Where a number passes, the largest that does passes, and is no smaller.
largest-true : (n k : ℕ) (t : ℕ → Bool) → k < n → t k ≡ true → (t (largest n t) ≡ true) × (k ≤ largest n t) × (largest n t < n)
unfolding largest
largest-true zero k t l e = absurd (omega arith)
largest-true (suc n) k t l e = go (t n) refl (λ i. largest-true n k t i e)
  where
    go : (b : Bool) → t n ≡ b → (k < n → (t (largest n t) ≡ true) × (k ≤ largest n t) × (largest n t < n))
        → (t (cond b n (largest n t)) ≡ true) × (k ≤ cond b n (largest n t)) × (cond b n (largest n t) < suc n)
    go true q rest = (q, omega arith, omega arith)
    go false q rest =
        ⊎_elim (λ i. let w = rest i in (w.0, w.1, omega (arith, w.2)))
        (λ i. let r : k ≡ n = omega arith in absurd (false≢true (sym q ∙ (ap t (sym r) ∙ e)))) (lt_or_ge k n)

-- ---- the test

module _ (P N R Z : ℕ) (zone cap : ℕ → ℕ) (g : ℕ → ℕ → ℕ) (A : ℕ) where
  -- Whether a row has R nodes in Z zones.
  abbrev row_test_lem : (ℕ → ℕ → ℕ) → ℕ → Bool
  row_test_lem S p = eqb (sum_to N (S p)) R && leb Z (cover N zone (S p))

  -- Whether a node is within its cap.
  abbrev cap_test : (ℕ → ℕ → ℕ) → ℕ → Bool
  cap_test S b = leb (copies P S b) (cap b)

  -- Whether the weight is A.
  abbrev weight_test : (ℕ → ℕ → ℕ) → Bool
  weight_test S = eqb (weigh P N g S) A

  -- A layout of bits that passes the test is one of the weight.
  test_nearest : (S : ℕ → ℕ → ℕ) → Bits P N S → is_nearest P N R Z zone cap g A S ≡ true → Nearest P N R Z zone cap g A S
  unfolding is_nearest
  test_nearest S bits e =
      let w = both (every_to P (row_test_lem S)) (every_to N (cap_test S) && weight_test S) e in
      let u = both (every_to N (cap_test S)) (weight_test S) w.1 in
      record {
        within = record {
          rows = λ p l.
              let v = both (eqb (sum_to N (S p)) R) (leb Z (cover N zone (S p))) (every-at P p (row_test_lem S) w.0 l) in
              record { bits = bits p l; size = eqb-true (sum_to N (S p)) R v.0; wide = leb-true Z (cover N zone (S p)) v.1 };
          caps = λ b k. leb-true (copies P S b) (cap b) (every-at N b (cap_test S) u.0 k);
        };
        weighs = eqb-true (weigh P N g S) A u.1;
      }

  -- A layout of the weight passes the test.
  nearest_test : (S : ℕ → ℕ → ℕ) → Nearest P N R Z zone cap g A S → is_nearest P N R Z zone cap g A S ≡ true
  unfolding is_nearest
  nearest_test S h =
      ap₂ ◌&&◌
      (every-all P (row_test_lem S)
      (λ p l. ap₂ ◌&&◌ (eq-eqb (sum_to N (S p)) R (h.within.rows p l).size) (le-leb Z (cover N zone (S p)) (h.within.rows p l).wide)))
      (ap₂ ◌&&◌ (every-all N (cap_test S) (λ b k. le-leb (copies P S b) (cap b) (h.within.caps b k)))
      (eq-eqb (weigh P N g S) A h.weighs))

  -- The same layouts are of the same weight.
  nearest_cong : (S T : ℕ → ℕ → ℕ) → SameLayout P N S T → Nearest P N R Z zone cap g A S → Nearest P N R Z zone cap g A T
  nearest_cong S T h x =
      record {
        within = within_cong P N S T h R Z zone cap x.within;
        weighs = sym (weigh_cong P N g g S T (λ p l b k. refl) h) ∙ x.weighs;
      }

  -- The test of a number.
  abbrev test : ℕ → Bool
  test m = is_nearest P N R Z zone cap g A (numbered P N m)

  -- A layout of the weight passes by its number.
  passes : (T : ℕ → ℕ → ℕ) → Nearest P N R Z zone cap g A T → (number P N T < numbers P N) × (test (number P N T) ≡ true)
  passes T t =
      let bits : Bits P N T = λ p l b k. (t.within.rows p l).bits b k in (
        number_lt P N T bits,
        nearest_test (numbered P N (number P N T)) (nearest_cong T (numbered P N (number P N T)) (same_layout_sym (numbered-number P N T bits)) t),
      )

  -- The largest number that passes.
  abbrev top_number : ℕ
  top_number = largest (numbers P N) test

  -- It passes, and no layout of the weight has a larger one.
  top : (S : ℕ → ℕ → ℕ) → Nearest P N R Z zone cap g A S
      → (test top_number ≡ true) × (number P N S ≤ top_number) × (top_number < numbers P N)
  top S s = let w = passes S s in largest-true (numbers P N) (number P N S) test w.0 w.1

  -- Where there is a layout of that weight, first_of is one, and the first.
  pub first_of_lem : (S : ℕ → ℕ → ℕ) → Nearest P N R Z zone cap g A S
      → Nearest P N R Z zone cap g A (first_of P N R Z zone cap g A) × Foremost P N R Z zone cap g A (first_of P N R Z zone cap g A)
  unfolding first_of
  first_of_lem S s = (test_nearest (numbered P N top_number) (λ p l b k. numbered_le P N top_number p b) (top S s).0, first)
    where
      first : Foremost P N R Z zone cap g A (numbered P N top_number)
      first T t =
          ⊎_elim (λ e. inl e)
          (λ c. ⊎_elim (λ u. inr u)
          (λ u. absurd
          (omega (
            arith,
            precedes_larger P N T (numbered P N top_number) (λ p l b k. numbered_le P N top_number p b) u,
            number-numbered P N top_number (top S s).2,
            (top T t).1,
          )))
          c)
          (compare P N (numbered P N top_number) T (λ p l b k. numbered_le P N top_number p b) (λ p l b k. (t.within.rows p l).bits b k))

  -- Two firsts are the same.
  pub first_unique : (S T : ℕ → ℕ → ℕ) → Nearest P N R Z zone cap g A S → Nearest P N R Z zone cap g A T
      → Foremost P N R Z zone cap g A S → Foremost P N R Z zone cap g A T → SameLayout P N S T
  first_unique S T s t f h =
      ⊎_elim (λ e. e)
      (λ u. ⊎_elim (λ e. same_layout_sym e)
      (λ v. absurd
      (omega (
        arith,
        precedes_larger P N S T (λ p l b k. (t.within.rows p l).bits b k) u,
        precedes_larger P N T S (λ p l b k. (s.within.rows p l).bits b k) v,
      )))
      (h S s))
      (f T t)

  -- What is the first is first_of.
  pub first-is : (S : ℕ → ℕ → ℕ) → Nearest P N R Z zone cap g A S → Foremost P N R Z zone cap g A S
      → SameLayout P N S (first_of P N R Z zone cap g A)
  first-is S s f = let w = first_of_lem S s in first_unique S (first_of P N R Z zone cap g A) s w.0 f w.1
