-- Lists of numbers: members, rising lists, and sums over the numbers of a list.
-- Assumes nothing.
use Prim.Native.Nat.{ℕ, zero, suc, ◌+◌, ◌*◌, ◌≤◌, ◌<◌}
use mathlib.Core.Path.{◌≡◌, refl, sym, ap, ap₂, ◌∙◌}
use mathlib.Core.List.{List, [], ◌∷◌}
use mathlib.Core.Bool.{Bool, true, false, not, ◌&&◌, ◌||◌, false≢true}
use mathlib.Core.Logic.{◌⊎◌, inl, inr, ⊎_elim}
use native.Mathlib.Nat.{zero-mul, one-mul, mul-one}
use native.Mathlib.Omega.{arith}
use lib.Dec.{ltb}
use lib.ListN.{length, get_or}
use borrow.Author.Tests.{ltb-true, lt-ltb, eq-eqb, ne_eqb}
use Rattle.sums.specs.ModelSums.{is}
use Rattle.sums.specs.TermsSums.{one_if}
use Rattle.sums.proofs.Sum.{eq_or_ne, is_eq, is_ne, is_sym}
use Rattle.cluster.specs.Terms.{mem, rising_from, only_in}
use Rattle.sums.proofs.Tests.{both, true_or_false}

-- ---- tests

-- Two tests each of which implies the other are equal.
pub same_test : (a b : Bool) → (a ≡ true → b ≡ true) → (b ≡ true → a ≡ true) → a ≡ b
same_test true b f g = sym (f refl)
same_test false true f g = g refl
same_test false false f g = refl

-- ---- members

-- The first number is a member.
pub mem_head : (i x : ℕ) (xs : List ℕ) → i ≡ x → mem i (x ∷ xs) ≡ true
unfolding mem
mem_head i x xs e = ap (λ (t : Bool). t || mem i xs) (eq-eqb i x e)

-- Past a first number that is another one.
pub mem-skip : (i x : ℕ) (xs : List ℕ) → (i ≡ x → ⊥) → mem i (x ∷ xs) ≡ mem i xs
unfolding mem
mem-skip i x xs h = ap (λ (t : Bool). t || mem i xs) (ne_eqb i x h)

-- A member of the others is a member.
pub mem_tail : (i x : ℕ) (xs : List ℕ) → mem i xs ≡ true → mem i (x ∷ xs) ≡ true
mem_tail i x xs m = ⊎_elim (λ e. mem_head i x xs e) (λ n. mem-skip i x xs n ∙ m) (eq_or_ne i x)

-- The empty list has no member.
pub mem-none : (i : ℕ) → mem i [] ≡ true → ⊥
unfolding mem
mem-none i m = false≢true m

-- A member is the first number, or a member of the others.
pub mem_cases : (i x : ℕ) (xs : List ℕ) → mem i (x ∷ xs) ≡ true → (i ≡ x) ⊎ (mem i xs ≡ true)
mem_cases i x xs m = ⊎_elim (λ e. inl e) (λ n. inr (sym (mem-skip i x xs n) ∙ m)) (eq_or_ne i x)

-- A member stands at an index.
pub mem_index : (i : ℕ) (l : List ℕ) → mem i l ≡ true → (b : ℕ) × (b < length l) × (get_or l b 0 ≡ i)
mem_index i [] m = absurd (mem-none i m)
mem_index i (x ∷ xs) m = go (mem_index i xs) (mem_cases i x xs m)
  where
    go : (mem i xs ≡ true → (b : ℕ) × (b < length xs) × (get_or xs b 0 ≡ i)) → (i ≡ x) ⊎ (mem i xs ≡ true)
        → (b : ℕ) × (b < length (x ∷ xs)) × (get_or (x ∷ xs) b 0 ≡ i)
    go r (inl e) = (zero, omega arith, sym e)
    go r (inr h) = let w = r h in (suc w.0, omega (arith, w.1), w.2)

-- What stands at an index is a member.
pub index_mem : (l : List ℕ) (b : ℕ) → b < length l → mem (get_or l b 0) l ≡ true
index_mem [] b h = absurd (omega arith)
index_mem (x ∷ xs) zero h = mem_head x x xs refl
index_mem (x ∷ xs) (suc b) h = mem_tail (get_or xs b 0) x xs (index_mem xs b (omega arith))

-- ---- rising lists

-- The first number of a list that rises from k is above k.
pub rising_head : (k x : ℕ) (xs : List ℕ) → rising_from k (x ∷ xs) ≡ true → k < x
unfolding rising_from
rising_head k x xs e = ltb-true k x (both (ltb k x) (rising_from x xs) e).0

-- The others rise from the first.
pub rising_tail : (k x : ℕ) (xs : List ℕ) → rising_from k (x ∷ xs) ≡ true → rising_from x xs ≡ true
unfolding rising_from
rising_tail k x xs e = (both (ltb k x) (rising_from x xs) e).1

-- The empty list rises.
pub rising_none : (k : ℕ) → rising_from k [] ≡ true
unfolding rising_from
rising_none k = refl

-- A number above k, before what rises from it, rises from k.
pub rising_cons : (k x : ℕ) (xs : List ℕ) → k < x → rising_from x xs ≡ true → rising_from k (x ∷ xs) ≡ true
unfolding rising_from
rising_cons k x xs h e = ap (λ (t : Bool). t && rising_from x xs) (lt-ltb k x h) ∙ e

-- What rises from a number rises from a smaller one.
pub rising_down : (j k : ℕ) (l : List ℕ) → j ≤ k → rising_from k l ≡ true → rising_from j l ≡ true
rising_down j k [] h e = rising_none j
rising_down j k (x ∷ xs) h e = rising_cons j x xs (omega (arith, rising_head k x xs e)) (rising_tail k x xs e)

-- A member of a list that rises from k is above k.
pub rising_above : (k i : ℕ) (l : List ℕ) → rising_from k l ≡ true → mem i l ≡ true → k < i
rising_above k i [] e m = absurd (mem-none i m)
rising_above k i (x ∷ xs) e m =
    ⊎_elim (λ q. omega (arith, rising_head k x xs e))
    (λ h. omega (arith, rising_head k x xs e, rising_above x i xs (rising_tail k x xs e) h)) (mem_cases i x xs m)

-- What is not above k is no member of a list that rises from k.
pub rising_fresh : (k i : ℕ) (l : List ℕ) → rising_from k l ≡ true → i ≤ k → mem i l ≡ false
rising_fresh k i l e h = ⊎_elim (λ m. absurd (omega (arith, rising_above k i l e m))) (λ f. f) (true_or_false (mem i l))

-- Two rising lists with the same members are equal.
pub rising_same : (j k : ℕ) (l r : List ℕ) → rising_from j l ≡ true → rising_from k r ≡ true → ((i : ℕ) → mem i l ≡ mem i r) → l ≡ r
rising_same j k [] [] d e h = refl
rising_same j k [] (y ∷ ys) d e h = absurd (mem-none y (h y ∙ mem_head y y ys refl))
rising_same j k (x ∷ xs) [] d e h = absurd (mem-none x (sym (h x) ∙ mem_head x x xs refl))
rising_same j k (x ∷ xs) (y ∷ ys) d e h =
    ap₂ (λ (a : ℕ) (b : List ℕ). a ∷ b) heads
    (rising_same x y xs ys (rising_tail j x xs d) (rising_tail k y ys e) rest)
  where
    heads : x ≡ y
    heads =
        ⊎_elim (λ q. q)
        (λ m. ⊎_elim (λ q. sym q)
        (λ n. absurd (omega (arith, rising_above y x ys (rising_tail k y ys e) m, rising_above x y xs (rising_tail j x xs d) n)))
        (mem_cases y x xs (h y ∙ mem_head y y ys refl)))
        (mem_cases x y ys (sym (h x) ∙ mem_head x x xs refl))

    rest : (i : ℕ) → mem i xs ≡ mem i ys
    rest i =
        ⊎_elim
        (λ q. rising_fresh x i xs (rising_tail j x xs d) (omega arith)
        ∙ sym (rising_fresh y i ys (rising_tail k y ys e) (omega (arith, heads))))
        (λ n. sym (mem-skip i x xs n) ∙ (h i ∙ mem-skip i y ys (λ q. n (q ∙ sym heads)))) (eq_or_ne i x)

-- ---- sums over a list

-- f x₀ + f x₁ + .. over the numbers of a list.
unfoldable pub over : List ℕ → (ℕ → ℕ) → ℕ
over [] f = 0
over (x ∷ xs) f = f x + over xs f

-- Equal terms at the members give equal sums.
pub over_cong : (l : List ℕ) (f g : ℕ → ℕ) → ((x : ℕ) → mem x l ≡ true → f x ≡ g x) → over l f ≡ over l g
unfolding over
over_cong [] f g h = refl
over_cong (x ∷ xs) f g h = ap₂ ◌+◌ (h x (mem_head x x xs refl)) (over_cong xs f g (λ y m. h y (mem_tail y x xs m)))

-- A sum of zeros.
pub over_zero : (l : List ℕ) → over l (λ x. 0) ≡ 0
unfolding over
over_zero [] = refl
over_zero (x ∷ xs) = omega (arith, over_zero xs)

-- The sum of sums, term by term.
pub over_add : (l : List ℕ) (f g : ℕ → ℕ) → over l (λ x. f x + g x) ≡ over l f + over l g
unfolding over
over_add [] f g = refl
over_add (x ∷ xs) f g = omega (arith, over_add xs f g)

-- Two sums change places.
pub over-swap : (l r : List ℕ) (g : ℕ → ℕ → ℕ) → over l (λ x. over r (λ y. g x y)) ≡ over r (λ y. over l (λ x. g x y))
unfolding over
over-swap [] r g = sym (over_zero r)
over-swap (x ∷ xs) r g =
    ap (λ (n : ℕ). over r (λ y. g x y) + n) (over-swap xs r g) ∙ sym (over_add r (λ y. g x y) (λ y. over xs (λ z. g z y)))

-- A sum of ones is the length.
pub over-length : (l : List ℕ) → over l (λ x. 1) ≡ length l
unfolding over
over-length [] = refl
over-length (x ∷ xs) = omega (arith, over-length xs)

-- A rising list has each number once: the sum that picks one number.
pub over_pick : (k i : ℕ) (l : List ℕ) (f : ℕ → ℕ) → rising_from k l ≡ true → over l (λ x. is i x * f x) ≡ one_if (mem i l) * f i
unfolding over one_if mem
over_pick k i [] f e = sym (zero-mul (f i))
over_pick k i (x ∷ xs) f e = go (over_pick x i xs f (rising_tail k x xs e)) (eq_or_ne i x)
  where
    go : over xs (λ y. is i y * f y) ≡ one_if (mem i xs) * f i → (i ≡ x) ⊎ (i ≡ x → ⊥)
        → is i x * f x + over xs (λ y. is i y * f y) ≡ one_if (mem i (x ∷ xs)) * f i
    go r (inl q) =
        ap₂ ◌+◌ (ap (λ (n : ℕ). n * f x) (is_eq q))
        (r ∙ ap (λ (t : Bool). one_if t * f i) (rising_fresh x i xs (rising_tail k x xs e) (omega arith)))
        ∙ (omega (arith, ap f q) ∙ ap (λ (t : Bool). one_if t * f i) (sym (mem_head i x xs q)))
    go r (inr n) =
        ap₂ ◌+◌ (ap (λ (m : ℕ). m * f x) (is_ne n)) r
        ∙ (omega arith ∙ ap (λ (t : Bool). one_if t * f i) (sym (mem-skip i x xs n)))

-- The sum over a rising list of the indicators of a number says whether it stands there.
pub over-is : (k i : ℕ) (l : List ℕ) → rising_from k l ≡ true → over l (λ x. is i x) ≡ one_if (mem i l)
over-is k i l e =
    over_cong l (λ x. is i x) (λ x. is i x * 1) (λ x m. sym (mul-one (is i x)))
    ∙ (over_pick k i l (λ x. 1) e ∙ mul-one (one_if (mem i l)))

-- The indicator lets either number stand for the other.
pub is_move : (a b : ℕ) (f : ℕ → ℕ) → is a b * f b ≡ is b a * f a
is_move a b f =
    ⊎_elim (λ q. ap₂ ◌*◌ (is_sym a b) (ap f (sym q)))
    (λ n. ap (λ (m : ℕ). m * f b) (is_ne n) ∙ (omega arith ∙ ap (λ (m : ℕ). m * f a) (sym (is_ne (λ q. n (sym q))))))
    (eq_or_ne a b)

-- A sum over a rising list, all of whose numbers stand in a second rising list, is a sum over the second.
pub over-within : (j k : ℕ) (l r : List ℕ) (f : ℕ → ℕ) → rising_from j l ≡ true → rising_from k r ≡ true
    → ((i : ℕ) → mem i l ≡ true → mem i r ≡ true) → over l f ≡ over r (λ y. one_if (mem y l) * f y)
unfolding one_if
over-within j k l r f d e h =
    over_cong l f (λ x. over r (λ y. is x y * f y))
    (λ x m. sym (one-mul (f x)) ∙ (ap (λ (t : Bool). one_if t * f x) (sym (h x m)) ∙ sym (over_pick k x r f e)))
    ∙ (over-swap l r (λ x y. is x y * f y)
    ∙ over_cong r (λ y. over l (λ x. is x y * f y)) (λ y. one_if (mem y l) * f y)
    (λ y m. over_cong l (λ x. is x y * f y) (λ x. is y x * f x) (λ x n. is_move x y f) ∙ over_pick j y l f d))

-- What two rising lists have in common can be counted in either.
pub over_common : (j k : ℕ) (l r : List ℕ) → rising_from j l ≡ true → rising_from k r ≡ true
    → over l (λ x. one_if (mem x r)) ≡ over r (λ y. one_if (mem y l))
over_common j k l r d e =
    over_cong l (λ x. one_if (mem x r)) (λ x. over r (λ y. is x y)) (λ x m. sym (over-is k x r e))
    ∙ (over-swap l r (λ x y. is x y)
    ∙ over_cong r (λ y. over l (λ x. is x y)) (λ y. one_if (mem y l))
    (λ y m. over_cong l (λ x. is x y) (λ x. is y x) (λ x n. is_sym x y) ∙ over-is j y l d))

-- Each number of a list stands in a second one, or only in the first.
pub only_or_common : (l r : List ℕ) → only_in l r + over l (λ x. one_if (mem x r)) ≡ length l
unfolding over only_in one_if
only_or_common [] r = refl
only_or_common (x ∷ xs) r = go (mem x r) (only_or_common xs r)
  where
    go : (t : Bool) → only_in xs r + over xs (λ y. one_if (mem y r)) ≡ length xs
        → (one_if (not t) + only_in xs r) + (one_if t + over xs (λ y. one_if (mem y r))) ≡ suc (length xs)
    go true h = omega arith
    go false h = omega arith
