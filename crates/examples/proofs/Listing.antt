-- Every layout that is valid at a size is among the candidates.
-- Assumes nothing.
use Prim.Native.Nat.{ℕ, zero, suc, ◌<◌}
use mathlib.Core.Path.{◌≡◌, refl, sym, ap, ap₂, ◌∙◌}
use mathlib.Core.Bool.{Bool, true, ◌&&◌}
use mathlib.Core.Logic.{⊎_elim}
use mathlib.Core.List.{List, [], ◌∷◌, ◌++◌, map}
use native.Mathlib.Omega.{arith}
use lib.ListN.{length}
use Rattle.sums.proofs.Sum.{eq_or_ne}
use Rattle.cluster.specs.Terms.{Topology, partitions, ids_of, mem, rising_from, rising, Layout, row, ValidAt}
use Rattle.sums.proofs.Tests.{both}
use Rattle.cluster.proofs.Lists.{mem_head, mem_tail, mem-none, mem_cases, rising_tail, rising_above}
use Rattle.examples.specs.ModelExamples.{every, choices, before, layouts_of, candidates}

-- ---- listed

-- Something is on a list: each test that holds of all of the list holds of it.
abbrev pub Listed : {A : Type 0} → A → List A → Type 0
Listed {A} x l = (f : A → Bool) → every f l ≡ true → f x ≡ true

-- A test of all of two lists, one after the other, is one of each.
pub every_append : {A : Type 0} (f : A → Bool) (l m : List A) → every f (l ++ m) ≡ true → (every f l ≡ true) × (every f m ≡ true)
unfolding every
every_append f [] m h = (refl, h)
every_append f (x ∷ xs) m h =
    let a = both (f x) (every f (xs ++ m)) h in
    let b = every_append f xs m a.1 in
    (ap₂ ◌&&◌ a.0 b.0, b.1)

-- A test of what a function makes of a list.
pub every_map : {A B : Type 0} (f : B → Bool) (g : A → B) (l : List A) → every f (map g l) ≡ every (λ x. f (g x)) l
unfolding every
every_map f g [] = refl
every_map f g (x ∷ xs) = ap (λ (b : Bool). f (g x) && b) (every_map f g xs)

-- ---- rows

-- A rising row of n numbers, all of them of a rising list, is among the choices of n out of it.
pub row_listed : (n j k : ℕ) (ids r : List ℕ) → rising_from k ids ≡ true → rising_from j r ≡ true → length r ≡ n
    → ((i : ℕ) → mem i r ≡ true → mem i ids ≡ true) → Listed r (choices n ids)
unfolding choices every
row_listed zero j k ids [] u v e m f h = (both (f []) true h).0
row_listed zero j k ids (y ∷ ys) u v e m f h = absurd (omega arith)
row_listed (suc n) j k ids [] u v e m f h = absurd (omega arith)
row_listed (suc n) j k [] (y ∷ ys) u v e m f h = absurd (mem-none y (m y (mem_head y y ys refl)))
row_listed (suc n) j k (x ∷ xs) (y ∷ ys) u v e m f h =
    ⊎_elim
    (λ q. ap (λ (z : ℕ). f (z ∷ ys)) q
    ∙ row_listed n y x xs ys (rising_tail k x xs u) (rising_tail j y ys v) (omega arith) (others q) (λ r. f (x ∷ r))
    (sym (every_map f (λ (r : List ℕ). x ∷ r) (choices n xs)) ∙ parts.0))
    (λ q. row_listed (suc n) j x xs (y ∷ ys) (rising_tail k x xs u) v e (all q) f parts.1) (eq_or_ne y x)
  where
    parts : (every f (map (λ (r : List ℕ). x ∷ r) (choices n xs)) ≡ true) × (every f (choices (suc n) xs) ≡ true)
    parts = every_append f (map (λ (r : List ℕ). x ∷ r) (choices n xs)) (choices (suc n) xs) h

    -- Where both begin alike, the others of the row are above x, and so among the others of the list.
    others : y ≡ x → (i : ℕ) → mem i ys ≡ true → mem i xs ≡ true
    others q i w =
        ⊎_elim (λ p. absurd (omega (arith, p, q, rising_above y i ys (rising_tail j y ys v) w))) (λ p. p)
        (mem_cases i x xs (m i (mem_tail i y ys w)))

    -- Where the row begins with another number, that is above x, and so is the whole row.
    all : (y ≡ x → ⊥) → (i : ℕ) → mem i (y ∷ ys) ≡ true → mem i xs ≡ true
    all q i w =
        let above : x < y = ⊎_elim (λ p. absurd (q p)) (λ p. rising_above x y xs (rising_tail k x xs u) p) (mem_cases y x xs (m y (mem_head y y ys refl))) in
        ⊎_elim (λ p. absurd (⊎_elim (λ z. omega (arith, p, z, above)) (λ z. omega (arith, p, above, rising_above y i ys (rising_tail j y ys v) z)) (mem_cases i y ys w)))
        (λ p. p) (mem_cases i x xs (m i w))

-- ---- layouts

-- A test of each row before each layout.
every-before : (f : Layout → Bool) (rows : List (List ℕ)) (rest : List Layout) → every f (before rows rest) ≡ true
    → every (λ r. every (λ L. f (r ∷ L)) rest) rows ≡ true
unfolding every before
every-before f [] rest h = refl
every-before f (r ∷ rs) rest h =
    let a = every_append f (map (λ (L : Layout). r ∷ L) rest) (before rs rest) h in
    ap₂ ◌&&◌ (sym (every_map f (λ (L : Layout). r ∷ L) rest) ∙ a.0) (every-before f rs rest a.1)

-- A layout of n rows that are listed is listed.
pub layout-listed : (n : ℕ) (rows : List (List ℕ)) (L : Layout) → length L ≡ n → ((p : ℕ) → p < n → Listed (row L p) rows) → Listed L (layouts_of n rows)
unfolding layouts_of every
layout-listed zero rows [] e w f h = (both (f []) true h).0
layout-listed zero rows (r ∷ rs) e w f h = absurd (omega arith)
layout-listed (suc n) rows [] e w f h = absurd (omega arith)
layout-listed (suc n) rows (r ∷ rs) e w f h =
    layout-listed n rows rs (omega arith) (λ p l. w (suc p) (omega arith)) (λ L. f (r ∷ L))
    (w zero (omega arith) (λ q. every (λ L. f (q ∷ L)) (layouts_of n rows)) (every-before f rows (layouts_of n rows) h))

-- A layout valid at any size is a candidate, where the ids of the cluster rise.
pub candidate : (t : Topology) (L : Layout) (s : ℕ) → rising (ids_of t.nodes) ≡ true → ValidAt t L s → Listed L (candidates t)
unfolding candidates
candidate t L s u v =
    layout-listed (partitions t) (choices t.replication (ids_of t.nodes)) L v.partition_rows
    (λ p l. let r = v.rows p l in row_listed t.replication 0 0 (ids_of t.nodes) (row L p) u r.ids r.many r.known)
