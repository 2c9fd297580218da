-- The laws of finite sums and of the indicator.
-- Assumes nothing.
use Prim.Native.Nat.{ℕ, zero, suc, ◌+◌, ◌-◌, ◌*◌, ◌≤◌, ◌<◌}
use mathlib.Core.Path.{◌≡◌, refl, sym, ap, ap₂, ◌∙◌}
use mathlib.Core.Bool.{Bool, true, false}
use mathlib.Core.Logic.{◌⊎◌, inl, inr, ⊎_elim}
use native.Mathlib.Nat.{add-zero, add-suc, zero-mul, suc-mul, one-mul, mul-zero, mul-add, mul_comm}
use native.Mathlib.Omega.{arith}
use lib.Dec.{ltb, eqb}
use borrow.Author.Tests.{ltb-true, ltb-false, eqb-true, eqb-false, eq-eqb, ne_eqb}
use native.Mathlib.Numerals.{add-one}
use Rattle.sums.specs.TermsSums.{sum_to, one_if}
use Rattle.sums.specs.ModelSums.{is}

-- ---- cases

-- Of two numbers one is below the other, or not.
pub lt_or_ge : (a b : ℕ) → (a < b) ⊎ (b ≤ a)
lt_or_ge a b = go (ltb a b) refl
  where
    go : (t : Bool) → ltb a b ≡ t → (a < b) ⊎ (b ≤ a)
    go true e = inl (ltb-true a b e)
    go false e = inr (ltb-false a b e)

-- Two numbers are equal, or not.
pub eq_or_ne : (a b : ℕ) → (a ≡ b) ⊎ (a ≡ b → ⊥)
eq_or_ne a b = go (eqb a b) refl
  where
    go : (t : Bool) → eqb a b ≡ t → (a ≡ b) ⊎ (a ≡ b → ⊥)
    go true e = inl (eqb-true a b e)
    go false e = inr (eqb-false a b e)

-- ---- the indicator

pub is_eq : {a b : ℕ} → a ≡ b → is a b ≡ 1
unfolding is one_if
is_eq {a} {b} e = ap one_if (eq-eqb a b e)

pub is_ne : {a b : ℕ} → (a ≡ b → ⊥) → is a b ≡ 0
unfolding is one_if
is_ne {a} {b} h = ap one_if (ne_eqb a b h)

pub is_le : (a b : ℕ) → is a b ≤ 1
is_le a b = ⊎_elim (λ e. omega (arith, is_eq e)) (λ h. omega (arith, is_ne h)) (eq_or_ne a b)

pub is_one : (a b : ℕ) → is a b ≡ 1 → a ≡ b
is_one a b h = ⊎_elim (λ e. e) (λ n. absurd (omega (arith, is_ne n))) (eq_or_ne a b)

-- Equal, with indicator 1; or different, with indicator 0.
pub is_cases : (a b : ℕ) → ((a ≡ b) × (is a b ≡ 1)) ⊎ ((a ≡ b → ⊥) × (is a b ≡ 0))
is_cases a b = ⊎_elim (λ e. inl (e, is_eq e)) (λ h. inr (h, is_ne h)) (eq_or_ne a b)

pub is_sym : (a b : ℕ) → is a b ≡ is b a
is_sym a b = ⊎_elim (λ e. is_eq e ∙ sym (is_eq (sym e))) (λ h. is_ne h ∙ sym (is_ne (λ e. h (sym e)))) (eq_or_ne a b)

-- The indicator as a factor: where it is 1, and where it is 0.
pub is_times : {a b : ℕ} → a ≡ b → (x : ℕ) → is a b * x ≡ x
is_times e x = ap (λ (t : ℕ). t * x) (is_eq e) ∙ one-mul x

pub not_times : {a b : ℕ} → (a ≡ b → ⊥) → (x : ℕ) → is a b * x ≡ 0
not_times h x = ap (λ (t : ℕ). t * x) (is_ne h) ∙ zero-mul x

-- ---- sums

-- Equal terms give equal sums.
pub sum_cong : (n : ℕ) (f g : ℕ → ℕ) → ((i : ℕ) → i < n → f i ≡ g i) → sum_to n f ≡ sum_to n g
unfolding sum_to
sum_cong zero f g h = refl
sum_cong (suc n) f g h = ap₂ ◌+◌ (sum_cong n f g (λ i l. h i (omega arith))) (h n (omega arith))

-- One term more, as the turn of a loop adds it.
pub sum-next : (f : ℕ → ℕ) (n s v : ℕ) → s ≡ sum_to n f → v ≡ f n → s + v ≡ sum_to (n + 1) f
unfolding sum_to
sum-next f n s v e d = ap₂ ◌+◌ e d ∙ ap (λ (k : ℕ). sum_to k f) (sym (add-one n))

-- Smaller terms give a smaller sum.
pub sum_le : (n : ℕ) (f g : ℕ → ℕ) → ((i : ℕ) → i < n → f i ≤ g i) → sum_to n f ≤ sum_to n g
unfolding sum_to
sum_le zero f g h = omega arith
sum_le (suc n) f g h = omega (arith, sum_le n f g (λ i l. h i (omega arith)), h n (omega arith))

-- Smaller terms, and one of them smaller by a number, give a sum smaller by that number.
pub sum_lt : (n : ℕ) (f g : ℕ → ℕ) (d k : ℕ) → ((i : ℕ) → i < n → f i ≤ g i) → k < n → f k + d ≤ g k → sum_to n f + d ≤ sum_to n g
unfolding sum_to
sum_lt zero f g d k h l s = omega arith
sum_lt (suc n) f g d k h l s =
    ⊎_elim (λ a. omega (arith, sum_lt n f g d k (λ i m. h i (omega arith)) a s, h n (omega arith)))
    (λ b. let e : n ≡ k = omega arith in omega (arith, sum_le n f g (λ i m. h i (omega arith)), ap f e, ap g e)) (lt_or_ge k n)

pub sum_zero : (n : ℕ) (f : ℕ → ℕ) → ((i : ℕ) → i < n → f i ≡ 0) → sum_to n f ≡ 0
unfolding sum_to
sum_zero zero f h = refl
sum_zero (suc n) f h = omega (arith, sum_zero n f (λ i l. h i (omega arith)), h n (omega arith))

-- The sum of sums, term by term.
pub sum-add : (n : ℕ) (f g : ℕ → ℕ) → sum_to n (λ i. f i + g i) ≡ sum_to n f + sum_to n g
unfolding sum_to
sum-add zero f g = refl
sum-add (suc n) f g = omega (arith, sum-add n f g)

-- Terms that balance have sums that balance.
pub sum_balance : (n : ℕ) (f a h b : ℕ → ℕ) → ((i : ℕ) → i < n → f i + a i ≡ h i + b i)
    → sum_to n f + sum_to n a ≡ sum_to n h + sum_to n b
sum_balance n f a h b e =
    sym (sum-add n f a) ∙ (sum_cong n (λ i. f i + a i) (λ i. h i + b i) e ∙ sum-add n h b)

-- A constant factor goes before the sum.
pub sum_scale : (n c : ℕ) (f : ℕ → ℕ) → sum_to n (λ i. c * f i) ≡ c * sum_to n f
unfolding sum_to
sum_scale zero c f = sym (mul-zero c)
sum_scale (suc n) c f = ap (λ (t : ℕ). t + c * f n) (sum_scale n c f) ∙ sym (mul-add c (sum_to n f) (f n))

-- A constant factor goes behind the sum.
pub sum_scale_right : (n c : ℕ) (f : ℕ → ℕ) → sum_to n (λ i. f i * c) ≡ sum_to n f * c
sum_scale_right n c f =
    sum_cong n (λ i. f i * c) (λ i. c * f i) (λ i l. mul_comm (f i) c) ∙ (sum_scale n c f ∙ mul_comm c (sum_to n f))

-- n equal terms.
pub sum_const : (n c : ℕ) → sum_to n (λ i. c) ≡ n * c
unfolding sum_to
sum_const zero c = sym (zero-mul c)
sum_const (suc n) c = ap (λ (t : ℕ). t + c) (sum_const n c) ∙ sym (suc-mul n c)

-- Two sums change places.
pub sum-swap : (m n : ℕ) (f : ℕ → ℕ → ℕ) → sum_to m (λ i. sum_to n (λ j. f i j)) ≡ sum_to n (λ j. sum_to m (λ i. f i j))
unfolding sum_to
sum-swap zero n f = sym (sum_zero n (λ j. 0) (λ j l. refl))
sum-swap (suc m) n f =
    ap (λ (t : ℕ). t + sum_to n (λ j. f m j)) (sum-swap m n f) ∙ sym (sum-add n (λ j. sum_to m (λ i. f i j)) (λ j. f m j))

-- The first m terms, then the others.
pub sum-split : (m n : ℕ) (f : ℕ → ℕ) → sum_to (m + n) f ≡ sum_to m f + sum_to n (λ i. f (m + i))
unfolding sum_to
sum-split m zero f = ap (λ (k : ℕ). sum_to k f) (add-zero m) ∙ sym (add-zero (sum_to m f))
sum-split m (suc n) f = ap (λ (k : ℕ). sum_to k f) (add-suc m n) ∙ omega (arith, sum-split m n f)

-- The first a terms, then the other b.
pub sum-part : (n a b : ℕ) (f : ℕ → ℕ) → a + b ≡ n → sum_to n f ≡ sum_to a f + sum_to b (λ t. f (a + t))
sum-part n a b f e = ap (λ (k : ℕ). sum_to k f) (sym e) ∙ sum-split a b f

-- The first term, then the others.
pub sum_first : (n : ℕ) (f : ℕ → ℕ) → sum_to (suc n) f ≡ f 0 + sum_to n (λ i. f (suc i))
unfolding sum_to
sum_first zero f = omega arith
sum_first (suc n) f = omega (arith, sum_first n f)

-- A sum whose terms vanish from m on.
pub sum-cut : (m n : ℕ) (f : ℕ → ℕ) → m ≤ n → ((i : ℕ) → m ≤ i → i < n → f i ≡ 0) → sum_to n f ≡ sum_to m f
sum-cut m n f l h =
    sum-part n m (n - m) f (omega arith)
    ∙ omega (arith, sum_zero (n - m) (λ i. f (m + i)) (λ i k. h (m + i) (omega arith) (omega arith)))

-- The sum that picks one index, as a weighted sum of the indicator, picks nothing where that index is beyond it ..
pub sum-none : (n k : ℕ) (f : ℕ → ℕ) → n ≤ k → sum_to n (λ i. is k i * f i) ≡ 0
sum-none n k f h = sum_zero n (λ i. is k i * f i) (λ i l. not_times (λ e. omega arith) (f i))

-- .. and else the value there.
pub sum_is : (n k : ℕ) (f : ℕ → ℕ) → k < n → sum_to n (λ i. is k i * f i) ≡ f k
unfolding sum_to
sum_is zero k f l = absurd (omega arith)
sum_is (suc n) k f l =
    ⊎_elim (λ a. omega (arith, sum_is n k f a, not_times {a = k} {b = n} (λ e. omega arith) (f n)))
    (λ b. let e : k ≡ n = omega arith in omega (arith, sum-none n k f b, is_times e (f n), ap f e)) (lt_or_ge k n)

-- A running sum with the next term is at most the whole sum.
pub sum_upto : (n i : ℕ) (f : ℕ → ℕ) → i < n → sum_to i f + f i ≤ sum_to n f
unfolding sum_to
sum_upto zero i f l = absurd (omega arith)
sum_upto (suc n) i f l =
    ⊎_elim (λ a. omega (arith, sum_upto n i f a))
    (λ b. let e : i ≡ n = omega arith in omega (arith, ap f e, ap (λ (t : ℕ). sum_to t f) e)) (lt_or_ge i n)

-- One term is at most the sum.
pub sum_term : (n k : ℕ) (f : ℕ → ℕ) → k < n → f k ≤ sum_to n f
sum_term n k f l = omega (arith, sum_upto n k f l)

-- Two sums whose terms differ at one index only.
pub sum_but_one : (n s : ℕ) (f h : ℕ → ℕ) → s < n → ((t : ℕ) → t < n → (t ≡ s → ⊥) → f t ≡ h t) → sum_to n f + h s ≡ sum_to n h + f s
unfolding sum_to
sum_but_one zero s f h l e = absurd (omega arith)
sum_but_one (suc n) s f h l e =
    ⊎_elim (λ a. omega (arith, sum_but_one n s f h a (λ t k d. e t (omega arith) d), e n (omega arith) (λ d. omega arith)))
    (λ b. let d : n ≡ s = omega arith in
    omega (arith, sum_cong n f h (λ t k. e t (omega arith) (λ x. omega arith)), ap f d, ap h d))
    (lt_or_ge s n)

-- Where a sum is smaller than another, a term is.
pub sum-witness : (n : ℕ) (f g : ℕ → ℕ) → sum_to n f < sum_to n g → (i : ℕ) × (i < n) × (f i < g i)
unfolding sum_to
sum-witness zero f g h = absurd (omega arith)
sum-witness (suc n) f g h =
    ⊎_elim (λ a. let w = sum-witness n f g a in (w.0, omega (arith, w.1), w.2)) (λ b. (n, omega arith, omega arith))
    (lt_or_ge (sum_to n f) (sum_to n g))
