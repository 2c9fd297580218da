-- Rows without some of their ids: those that another row lacks, and those that nodes of the cluster have.
-- Assumes nothing.
use Prim.Native.Nat.{ℕ, suc, ◌+◌, ◌≤◌}
use mathlib.Core.Path.{◌≡◌, refl, sym, ap, ap₂, ◌∙◌}
use mathlib.Core.Logic.{⊎_elim}
use mathlib.Core.List.{List, [], ◌∷◌}
use mathlib.Core.Bool.{Bool, true, false, false≢true, not, cond, ◌&&◌, ◌||◌}
use native.Mathlib.Omega.{arith}
use lib.Dec.{eqb}
use lib.ListN.{length}
use Rattle.sums.specs.TermsSums.{one_if}
use Rattle.sums.proofs.Tests.{both, true_or_false}
use Rattle.cluster.specs.Terms.{Topology, ids_of, mem, rising_from, only_in}
use Rattle.cluster.proofs.Lists.{same_test, mem_head, mem-skip, mem_tail, mem-none, mem_cases, rising_head, rising_tail, rising_cons, rising_down}
use Rattle.moves.specs.TermsMoves.{surviving, missing, AllIn}

-- ---- the missing ids

-- An id that stands in the second row is not missing.
pub missing_in : (x : ℕ) (xs l : List ℕ) → mem x l ≡ true → missing (x ∷ xs) l ≡ missing xs l
unfolding missing
missing_in x xs l e = rw e

-- An id that does not stand there is missing.
pub missing-out : (x : ℕ) (xs l : List ℕ) → mem x l ≡ false → missing (x ∷ xs) l ≡ x ∷ missing xs l
unfolding missing
missing-out x xs l e = rw e

-- What is missing stands in the first row, and not in the second.
pub missing-mem : (r l : List ℕ) (i : ℕ) → mem i (missing r l) ≡ true → (mem i r ≡ true) × (mem i l ≡ false)
unfolding missing
missing-mem [] l i m = absurd (mem-none i m)
missing-mem (x ∷ xs) l i m =
    ⊎_elim
    (λ e. let w = missing-mem xs l i (ap (mem i) (sym (missing_in x xs l e)) ∙ m) in (mem_tail i x xs w.0, w.1))
    (λ e. ⊎_elim (λ q. (mem_head i x xs q, ap (λ (n : ℕ). mem n l) q ∙ e))
    (λ h. let w = missing-mem xs l i h in (mem_tail i x xs w.0, w.1))
    (mem_cases i x (missing xs l) (ap (mem i) (sym (missing-out x xs l e)) ∙ m)))
    (true_or_false (mem x l))

-- The first missing id stands in the first row, and not in the second.
pub missing-first : (r l : List ℕ) (b : ℕ) (bs : List ℕ) → missing r l ≡ b ∷ bs → (mem b r ≡ true) × (mem b l ≡ false)
missing-first r l b bs e = missing-mem r l b (ap (mem b) e ∙ mem_head b b bs refl)

-- Nothing is missing where all stand there,
pub missing-none : (r l : List ℕ) → AllIn r l → missing r l ≡ []
unfolding missing
missing-none [] l h = refl
missing-none (x ∷ xs) l h = missing_in x xs l (h x (mem_head x x xs refl)) ∙ missing-none xs l (λ i m. h i (mem_tail i x xs m))

-- and the other way round.
pub none-missing : (r l : List ℕ) → missing r l ≡ [] → AllIn r l
none-missing [] l e i m = absurd (mem-none i m)
none-missing (x ∷ xs) l e i m =
    ⊎_elim
    (λ t. ⊎_elim (λ q. ap (λ (n : ℕ). mem n l) q ∙ t) (λ h. none-missing xs l (sym (missing_in x xs l t) ∙ e) i h) (mem_cases i x xs m))
    (λ f. absurd (omega (arith, ap length (sym (missing-out x xs l f) ∙ e))))
    (true_or_false (mem x l))

-- The second row matters only by its ids that stand in the first.
pub missing_cong : (r l k : List ℕ) → ((i : ℕ) → mem i r ≡ true → mem i l ≡ mem i k) → missing r l ≡ missing r k
unfolding missing
missing_cong [] l k h = refl
missing_cong (x ∷ xs) l k h =
    ap₂ (λ (b : Bool) (y : List ℕ). cond b y (x ∷ y)) (h x (mem_head x x xs refl)) (missing_cong xs l k (λ i m. h i (mem_tail i x xs m)))

-- As many are missing as stand only in the first row.
pub length-missing : (l r : List ℕ) → length (missing l r) ≡ only_in l r
unfolding missing only_in one_if
length-missing [] r = refl
length-missing (x ∷ xs) r = go (length-missing xs r) (mem x r)
  where
    go : length (missing xs r) ≡ only_in xs r → (b : Bool)
        → length (cond b (missing xs r) (x ∷ missing xs r)) ≡ one_if (not b) + only_in xs r
    go h true = omega (arith, h)
    go h false = omega (arith, h)

-- No more are missing than the first row has.
pub missing_few : (l r : List ℕ) → length (missing l r) ≤ length l
unfolding missing
missing_few [] r = omega arith
missing_few (x ∷ xs) r = go (missing_few xs r) (mem x r)
  where
    go : length (missing xs r) ≤ length xs → (b : Bool) → length (cond b (missing xs r) (x ∷ missing xs r)) ≤ suc (length xs)
    go h true = omega arith
    go h false = omega arith

-- An id of the first row that the second lacks is missing,
missing_has : (r l : List ℕ) (i : ℕ) → mem i r ≡ true → mem i l ≡ false → mem i (missing r l) ≡ true
missing_has [] l i m f = absurd (mem-none i m)
missing_has (x ∷ xs) l i m f =
    ⊎_elim
    (λ t. ap (mem i) (missing_in x xs l t)
    ∙ ⊎_elim (λ q. absurd (false≢true (sym f ∙ (ap (λ (n : ℕ). mem n l) q ∙ t)))) (λ h. missing_has xs l i h f) (mem_cases i x xs m))
    (λ e. ap (mem i) (missing-out x xs l e)
    ∙ ⊎_elim (mem_head i x (missing xs l)) (λ h. mem_tail i x (missing xs l) (missing_has xs l i h f)) (mem_cases i x xs m))
    (true_or_false (mem x l))

-- so these are the missing ones.
pub mem-missing : (i : ℕ) (r l : List ℕ) → mem i (missing r l) ≡ (mem i r && not (mem i l))
mem-missing i r l =
    same_test (mem i (missing r l)) (mem i r && not (mem i l)) (λ m. let w = missing-mem r l i m in ap₂ (λ (a b : Bool). a && not b) w.0 w.1)
    (λ h. let w = both (mem i r) (not (mem i l)) h in missing_has r l i w.0 (not_not (mem i l) w.1))
  where
    not_not : (b : Bool) → not b ≡ true → b ≡ false
    not_not true h = sym h
    not_not false h = refl

-- They rise where the first row does.
pub rising-missing : (k : ℕ) (r l : List ℕ) → rising_from k r ≡ true → rising_from k (missing r l) ≡ true
unfolding missing
rising-missing k [] l e = e
rising-missing k (x ∷ xs) l e = go (rising-missing x xs l (rising_tail k x xs e)) (mem x l)
  where
    go : rising_from x (missing xs l) ≡ true → (b : Bool) → rising_from k (cond b (missing xs l) (x ∷ missing xs l)) ≡ true
    go h true = rising_down k x (missing xs l) (omega (arith, rising_head k x xs e)) h
    go h false = rising_cons k x (missing xs l) (rising_head k x xs e) h

-- ---- the surviving ids

module _ (t : Topology) where
  -- An id of a node of the cluster survives.
  surviving_in : (x : ℕ) (xs : List ℕ) → mem x (ids_of t.nodes) ≡ true → surviving t (x ∷ xs) ≡ x ∷ surviving t xs
  unfolding surviving
  surviving_in x xs e = rw e

  -- Another does not.
  surviving-out : (x : ℕ) (xs : List ℕ) → mem x (ids_of t.nodes) ≡ false → surviving t (x ∷ xs) ≡ surviving t xs
  unfolding surviving
  surviving-out x xs e = rw e

  -- What survives is known to the cluster.
  pub surviving_known : (r : List ℕ) → AllIn (surviving t r) (ids_of t.nodes)
  unfolding surviving
  surviving_known [] i m = absurd (mem-none i m)
  surviving_known (x ∷ xs) i m =
      ⊎_elim
      (λ e. ⊎_elim (λ q. ap (λ (n : ℕ). mem n (ids_of t.nodes)) q ∙ e) (λ h. surviving_known xs i h)
      (mem_cases i x (surviving t xs) (ap (mem i) (sym (surviving_in x xs e)) ∙ m)))
      (λ e. surviving_known xs i (ap (mem i) (sym (surviving-out x xs e)) ∙ m))
      (true_or_false (mem x (ids_of t.nodes)))

  -- Where all are known, all survive.
  pub all_survive : (r : List ℕ) → AllIn r (ids_of t.nodes) → surviving t r ≡ r
  unfolding surviving
  all_survive [] h = refl
  all_survive (x ∷ xs) h =
      surviving_in x xs (h x (mem_head x x xs refl)) ∙ ap (λ (l : List ℕ). x ∷ l) (all_survive xs (λ i m. h i (mem_tail i x xs m)))

  -- A known id survives just where it stands in the row.
  pub mem-surviving : (i : ℕ) (r : List ℕ) → mem i (ids_of t.nodes) ≡ true → mem i (surviving t r) ≡ mem i r
  unfolding surviving mem
  mem-surviving i [] k = refl
  mem-surviving i (x ∷ xs) k =
      ⊎_elim (λ e. ap (mem i) (surviving_in x xs e) ∙ ap (λ (b : Bool). eqb i x || b) (mem-surviving i xs k))
      (λ e. ap (mem i) (surviving-out x xs e)
      ∙ (mem-surviving i xs k ∙ sym (mem-skip i x xs (λ q. false≢true (sym e ∙ (ap (λ (n : ℕ). mem n (ids_of t.nodes)) (sym q) ∙ k))))))
      (true_or_false (mem x (ids_of t.nodes)))

  -- Survivors of rising ids rise.
  pub rising-surviving : (k : ℕ) (r : List ℕ) → rising_from k r ≡ true → rising_from k (surviving t r) ≡ true
  unfolding surviving
  rising-surviving k [] e = e
  rising-surviving k (x ∷ xs) e = go (rising-surviving x xs (rising_tail k x xs e)) (mem x (ids_of t.nodes))
    where
      go : rising_from x (surviving t xs) ≡ true → (b : Bool) → rising_from k (cond b (x ∷ surviving t xs) (surviving t xs)) ≡ true
      go h true = rising_cons k x (surviving t xs) (rising_head k x xs e) h
      go h false = rising_down k x (surviving t xs) (omega (arith, rising_head k x xs e)) h

  -- No more survive than the row has.
  pub surviving_few : (r : List ℕ) → length (surviving t r) ≤ length r
  unfolding surviving
  surviving_few [] = omega arith
  surviving_few (x ∷ xs) = go (surviving_few xs) (mem x (ids_of t.nodes))
    where
      go : length (surviving t xs) ≤ length xs → (b : Bool) → length (cond b (x ∷ surviving t xs) (surviving t xs)) ≤ suc (length xs)
      go h true = omega arith
      go h false = omega arith
