-- The laws of one row of cells: rising ids followed by zeros are a row of ids and nothing else, both ways.
-- Assumes nothing.
use Prim.Native.Nat.{ℕ, zero, suc, ◌-◌, ◌≤◌}
use mathlib.Core.Path.{◌≡◌, refl, sym, ap, ap₂, ◌∙◌}
use mathlib.Core.List.{List, [], ◌∷◌, ◌++◌}
use mathlib.Core.Bool.{true, ◌&&◌}
use native.Mathlib.Nat.{sub-zero}
use native.Mathlib.Omega.{arith}
use lib.Dec.{ltb, eqb, eqb-suc-zero}
use lib.ListN.{length, get_or, replicate}
use borrow.Author.Tests.{ltb-true, eqb-true}
use Rattle.sums.proofs.Tests.{both}
use Rattle.cluster.specs.Terms.{rising_from, ids_in, blank, formed_from}

-- Zeros after a list change no cell of it, read as 0 past the end.
pub get_or_zeros : (l : List ℕ) (n i : ℕ) → get_or (l ++ replicate n 0) i 0 ≡ get_or l i 0
get_or_zeros (x ∷ xs) n zero = refl
get_or_zeros (x ∷ xs) n (suc i) = get_or_zeros xs n i
get_or_zeros [] zero i = refl
get_or_zeros [] (suc n) zero = refl
get_or_zeros [] (suc n) (suc i) = get_or_zeros [] n i

-- ---- the two kinds of cell

-- A cell that is not 0 is an id, and the others' ids follow it.
pub ids_more : (x : ℕ) (xs : List ℕ) → ids_in (suc x ∷ xs) ≡ suc x ∷ ids_in xs
unfolding ids_in
ids_more x xs = simp eqb-suc-zero

-- Cells that start with an id are formed where it is above the last and the others are formed after it.
pub formed-more : (k x : ℕ) (xs : List ℕ) → formed_from k (suc x ∷ xs) ≡ (ltb k (suc x) && formed_from (suc x) xs)
unfolding formed_from
formed-more k x xs = simp eqb-suc-zero

-- ---- blank rows

-- Blank cells are zeros.
pub blank-zeros : (l : List ℕ) → blank l ≡ true → l ≡ replicate (length l) 0
unfolding blank
blank-zeros [] h = refl
blank-zeros (zero ∷ xs) h = ap (λ (r : List ℕ). 0 ∷ r) (blank-zeros xs h)
blank-zeros (suc x ∷ xs) h = absurd (omega (arith, eqb-true (suc x) 0 (both (eqb (suc x) 0) (blank xs) h).0))

-- Zeros are blank.
pub zeros-blank : (n : ℕ) → blank (replicate n 0) ≡ true
unfolding blank
zeros-blank zero = refl
zeros-blank (suc n) = zeros-blank n

-- Each cell of a blank row is 0.
pub blank-cell : (l : List ℕ) (i : ℕ) → blank l ≡ true → get_or l i 0 ≡ 0
blank-cell l i h = ap (λ (r : List ℕ). get_or r i 0) (blank-zeros l h) ∙ get_or_zeros [] (length l) i

-- A blank row has no ids.
pub blank-ids : (l : List ℕ) → blank l ≡ true → ids_in l ≡ []
unfolding ids_in
blank-ids [] h = refl
blank-ids (x ∷ xs) h = ap (λ (r : List ℕ). ids_in r) (blank-zeros (x ∷ xs) h)

-- A blank row is formed, whatever id it follows.
pub blank-formed : (k : ℕ) (l : List ℕ) → blank l ≡ true → formed_from k l ≡ true
unfolding blank formed_from
blank-formed k [] h = refl
blank-formed k (zero ∷ xs) h = h
blank-formed k (suc x ∷ xs) h = absurd (omega (arith, eqb-true (suc x) 0 (both (eqb (suc x) 0) (blank xs) h).0))

-- ---- formed rows

-- The first id of a formed row is above the last, and the others follow it.
formed_head : (k x : ℕ) (xs : List ℕ) → formed_from k (suc x ∷ xs) ≡ true → (ltb k (suc x) ≡ true) × (formed_from (suc x) xs ≡ true)
formed_head k x xs h = both (ltb k (suc x)) (formed_from (suc x) xs) (sym (formed-more k x xs) ∙ h)

-- A row has at most as many ids as cells.
pub ids-length : (l : List ℕ) → length (ids_in l) ≤ length l
unfolding ids_in
ids-length [] = omega arith
ids-length (zero ∷ xs) = omega arith
ids-length (suc x ∷ xs) = omega (arith, ids-length xs, ap length (ids_more x xs))

-- The ids of a formed row rise.
pub formed-rising : (k : ℕ) (l : List ℕ) → formed_from k l ≡ true → rising_from k (ids_in l) ≡ true
unfolding ids_in rising_from
formed-rising k [] h = refl
formed-rising k (zero ∷ xs) h = refl
formed-rising k (suc x ∷ xs) h =
    let b = formed_head k x xs h in
    ap (λ (r : List ℕ). rising_from k r) (ids_more x xs)
    ∙ ap₂ ◌&&◌ b.0 (formed-rising (suc x) xs b.1)

-- A formed row is its ids, then zeros.
pub formed-cells : (k : ℕ) (l : List ℕ) → formed_from k l ≡ true → l ≡ ids_in l ++ replicate (length l - length (ids_in l)) 0
unfolding ids_in formed_from
formed-cells k [] h = refl
formed-cells k (zero ∷ xs) h =
    ap (λ (r : List ℕ). 0 ∷ r) (blank-zeros xs h) ∙ ap (λ (n : ℕ). replicate n 0) (sym (sub-zero (suc (length xs))))
formed-cells k (suc x ∷ xs) h =
    let b = formed_head k x xs h in
    let e : length xs - length (ids_in xs) ≡ suc (length xs) - suc (length (ids_in xs)) = omega arith in
    ap (λ (r : List ℕ). suc x ∷ r) (formed-cells (suc x) xs b.1)
    ∙ (ap (λ (n : ℕ). suc x ∷ (ids_in xs ++ replicate n 0)) e
    ∙ ap (λ (r : List ℕ). r ++ replicate (suc (length xs) - length r) 0) (sym (ids_more x xs)))

-- Each cell of a formed row is the id at its place, or 0 where there is none.
pub formed-cell : (k : ℕ) (l : List ℕ) (i : ℕ) → formed_from k l ≡ true → get_or (ids_in l) i 0 ≡ get_or l i 0
formed-cell k l i h =
    sym (ap (λ (r : List ℕ). get_or r i 0) (formed-cells k l h) ∙ get_or_zeros (ids_in l) (length l - length (ids_in l)) i)

-- ---- rows of ids

-- Zeros after rising ids leave the ids as they are.
pub rising-ids : (k n : ℕ) (r : List ℕ) → rising_from k r ≡ true → ids_in (r ++ replicate n 0) ≡ r
unfolding ids_in rising_from
rising-ids k zero [] h = refl
rising-ids k (suc n) [] h = refl
rising-ids k n (zero ∷ xs) h = absurd (omega (arith, ltb-true k 0 (both (ltb k 0) (rising_from 0 xs) h).0))
rising-ids k n (suc x ∷ xs) h =
    ids_more x (xs ++ replicate n 0)
    ∙ ap (λ (r : List ℕ). suc x ∷ r) (rising-ids (suc x) n xs (both (ltb k (suc x)) (rising_from (suc x) xs) h).1)

-- Rising ids, then zeros, are a formed row.
pub rising-formed : (k n : ℕ) (r : List ℕ) → rising_from k r ≡ true → formed_from k (r ++ replicate n 0) ≡ true
unfolding formed_from rising_from
rising-formed k zero [] h = refl
rising-formed k (suc n) [] h = zeros-blank n
rising-formed k n (zero ∷ xs) h = absurd (omega (arith, ltb-true k 0 (both (ltb k 0) (rising_from 0 xs) h).0))
rising-formed k n (suc x ∷ xs) h =
    let b = both (ltb k (suc x)) (rising_from (suc x) xs) h in
    formed-more k x (xs ++ replicate n 0) ∙ ap₂ ◌&&◌ b.0 (rising-formed (suc x) n xs b.1)
